-- Lines of other lengths; no offer, one offer more, and all of them.
use Rattle.std.proofs.Common.{refl, sym, ◌∙◌}
use Rattle.line.specs.Offers.{line_of}
use Rattle.line_cases.proofs.Laws.Offers.{same_line_lengths, compared_none, compared_more, compared_all}
use Rattle.line_cases.proofs.offers.is_line.Goals as goal

pub returns-then-held-most : goal.returns-then-held-most
returns-then-held-most c =
    sym (same_line_lengths (line_of c.args.said) (line_of c.args.got)
    (λ same. c.if-held-most.true (c.held.ensures ∙ same ∙ sym c.held-most.ensures)))

pub loop-i-init : goal.loop-i-init
loop-i-init c = compared_none _ _ _

pub loop-i-preserved : goal.loop-i-preserved
loop-i-preserved c =
    compared_more c.args.said c.args.got _ c.loop-i.invariant c.held-most.ensures
    (sym c.if-held-most.false ∙ c.held.ensures) c.loop-i-test.true c.offer_of.ensures
    c.offer_of-in-loop-i.ensures c.eq-same.ensures refl

pub returns : goal.returns
returns c =
    compared_all c.args.said c.args.got _ c.loop-i.invariant c.held-most.ensures
    (sym c.if-held-most.false ∙ c.held.ensures) c.loop-i-test.false
