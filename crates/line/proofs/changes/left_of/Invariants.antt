-- What the loop keeps: what is left of the offers passed. Assumes nothing.
use Rattle.line.proofs.Laws.Leaving.{Leaving}
use Rattle.line.proofs.changes.left_of.Given as goal

abbrev pub invariant-loop-offer : goal.invariant-loop-offer
invariant-loop-offer l = Leaving l.offers l.gone l.left l.offer-index
