-- So many writes are made.
use Rattle.std.proofs.Common.{◌≡◌}
use Rattle.figures.specs.Drives.{disk_written_on}
use Rattle.figures.proofs.drives.write_times.Given as goal

abbrev pub invariant-loop-i : goal.invariant-loop-i
invariant-loop-i l = l.disk ≡ disk_written_on l.i l.last l.initial.disk
