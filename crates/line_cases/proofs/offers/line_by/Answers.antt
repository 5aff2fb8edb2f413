-- No offer, one offer more, and all of them.
use Rattle.std.proofs.Common.{◌≡◌, ◌/◌, ap, ◌∙◌, arith}
use Rattle.line_cases.specs.Offers.{offers_said}
use Rattle.line_cases.proofs.Laws.Offers.{offers_said_none, offers_said_more}
use Rattle.line_cases.proofs.offers.line_by.Goals as goal

pub loop-i-init : goal.loop-i-init
loop-i-init c = offers_said_none _ c.no_line-line.ensures

pub loop-i-preserved : goal.loop-i-preserved
loop-i-preserved c = offers_said_more _ _ c.loop-i.invariant c.offer_said.ensures c.push_offer-line.ensures

pub returns : goal.returns
returns c =
    let all : c.loop-i.i ≡ c.args.said / 4294967296 = omega arith in
    c.loop-i.invariant ∙ ap (offers_said c.args.said) all
