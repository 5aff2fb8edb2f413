-- The writes so far are made, and the rest is still to come.
use Rattle.std.proofs.Common.{length}
use Rattle.line.specs.Offers.{line_of}
use Rattle.wait_figures.specs.Carries.{carry_on}
use Rattle.wait_figures.proofs.Laws.Carries.{Followed}
use Rattle.wait_figures.proofs.carries.carry_until.Given as goal

abbrev pub invariant-loop-i : goal.invariant-loop-i
invariant-loop-i l =
    Followed l.left (carry_on l.initial.disk (line_of l.initial.carried.line)) (length l.initial.disk) l._i
    l.disk l.carried
