-- The offers so far are in the line.
use Rattle.std.proofs.Common.{◌≡◌}
use Rattle.line_cases.specs.Offers.{offers_said}
use Rattle.line_cases.proofs.offers.line_by.Given as goal

abbrev pub invariant-loop-i : goal.invariant-loop-i
invariant-loop-i l = l.line ≡ offers_said l.said l.i
