-- The entries so far are compared.
use Rattle.std.proofs.Common.{◌≡◌, take}
use Rattle.figure_lines.specs.Counts.{is_listed}
use Rattle.figure_lines.proofs.lists.is_listed.Given as goal

abbrev pub invariant-loop-i : goal.invariant-loop-i
invariant-loop-i l = l.same ≡ is_listed l.stored (take l.i l.list)
