-- What the loop keeps: the first so many offers stand in the line. Assumes nothing.
use Rattle.std.proofs.Common.{length}
use Rattle.line.proofs.Laws.Gathered.{Gathering}
use Rattle.line.proofs.gathered.gather_line.Given as goal

abbrev pub invariant-loop-number : goal.invariant-loop-number
invariant-loop-number l = Gathering l.fn.numbers l.places l.line (length l.yielded)
