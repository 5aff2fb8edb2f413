-- What the loop keeps: the first so many that are handed over are pushed on no line. Assumes nothing.
use Rattle.std.proofs.Common.{◌≡◌, take}
use Rattle.line.specs.Offers.{no_line}
use Rattle.lent_line.specs.Lent.{pushed_all}
use Rattle.lent_line.proofs.load_lent.Given as goal

abbrev pub invariant-loop-offer : goal.invariant-loop-offer
invariant-loop-offer l = l.loaded ≡ pushed_all (take l.offer-index l.handed) no_line
