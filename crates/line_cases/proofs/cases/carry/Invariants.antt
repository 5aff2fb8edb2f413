-- The writes so far are made, and the disk keeps its length.
use Rattle.std.proofs.Common.{length}
use Rattle.line.specs.Offers.{line_of}
use Rattle.line_cases.specs.Cases.{case_on}
use Rattle.line_cases.proofs.Laws.Cases.{Carrying}
use Rattle.line_cases.proofs.cases.carry.Given as goal

abbrev pub invariant-loop-i : goal.invariant-loop-i
invariant-loop-i l =
    Carrying l.from l.to l.last (case_on l.initial.disk (line_of l.initial.left)) (length l.initial.disk) l.i
    l.disk l.left
