-- What the loop keeps: the turns of the offers passed. Assumes nothing.
use Rattle.layout.specs.Geometries.{geometry_of}
use Rattle.line.proofs.Laws.Counting.{Counting}
use Rattle.line.proofs.turns.turns_of.Given as goal

abbrev pub invariant-loop-i : goal.invariant-loop-i
invariant-loop-i l = Counting (geometry_of l.g) l.lent l.offers l.turns l.i
