-- What the loop keeps. Assumes nothing.
use Rattle.layout.specs.Geometries.{geometry_of}
use Rattle.recovery.proofs.Laws.Marks.{Marking}
use Rattle.recovery.proofs.bits.set_marks.Given as goal

abbrev pub invariant-loop-number : goal.invariant-loop-number
invariant-loop-number l = Marking (geometry_of l.g) l.initial.disk l.number l.disk
