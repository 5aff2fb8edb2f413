-- So many writes are made.
use Rattle.std.proofs.Common.{◌≡◌}
use Rattle.wait_figures.specs.Offers.{offers_written}
use Rattle.wait_figures.proofs.offers.write_offers.Given as goal

abbrev pub invariant-loop-i : goal.invariant-loop-i
invariant-loop-i l = l.disk ≡ offers_written l._i l.number l.initial.disk
