-- The offers so far are compared.
use Rattle.line_cases.proofs.Laws.Offers.{OffersCompared}
use Rattle.line_cases.proofs.offers.is_line.Given as goal

abbrev pub invariant-loop-i : goal.invariant-loop-i
invariant-loop-i l = OffersCompared l.said l.got l.most l.same l.i
