-- `left_of` meets its contract: an offer stays or leaves with its number. Assumes nothing.
use Rattle.std.proofs.Common.{◌≡◌, ◌∙◌, ap, length, arith, rules}
use Rattle.model.specs.Line.{left_after}
use Rattle.line.specs.Offers.{offers_of, line_of}
use Rattle.line.proofs.Laws.Leaving.{left_all, leaving_start, leaving_end, leaving_leaves, leaving_stays}
use Rattle.line.proofs.Laws.Offers.{offers_few}
use Rattle.line.proofs.changes.left_of.Goals as goal
use Rattle.line.proofs.changes.left_of.Goals.{then-not-is_one_of, else-not-is_one_of}

pub returns-then-is_empty : goal.returns-then-is_empty
returns-then-is_empty c = left_all (line_of c.args.line) c.args.gone.now (search rules)

pub loop-offer-init : goal.loop-offer-init
loop-offer-init c = rw c.no_line-left.ensures (leaving_start _ _)

pub loop-offer-preserved : goal.loop-offer-preserved
loop-offer-preserved c =
    let a = c.args in
    let offers = c.waiting_offers-offers.result.now in
    let gone = a.gone.now in
    let at = c.loop-offer in
    elim c.if-not-is_one_of.branch [
      | then-not-is_one_of w ↦
          rw (w.left-is, w.push_offer-left.ensures) (
          leaving_stays offers gone at.left at.offer-index at.invariant (omega arith)
          (offers_few offers a.line c.waiting_offers-offers.ensures) (cc))
      | else-not-is_one_of w ↦
          rw w.left-is (leaving_leaves offers gone at.left at.offer-index at.invariant (omega arith) (cc))
    ]

pub returns : goal.returns
returns c =
    let offers = c.waiting_offers-offers in
    let all : c.loop-offer.offer-index ≡ length offers.result.now = omega arith in
    leaving_end offers.result.now c.args.gone.now c.loop-offer.left (rw all at c.loop-offer.invariant)
    ∙ ap (left_after (offers_of c.args.gone.now)) offers.ensures
