-- `answer_line` meets its contract: no more are placed than had a turn, and these leave the line. Assumes
-- nothing.
use mathlib.Core.Path.{◌≡◌, sym, ap, ◌∙◌, refl}
use mathlib.Core.List.{List}
use native.Mathlib.Omega.{arith}
use lib.ListN.{length, take, length-take}
use Rattle.model.specs.Line.{Offer, left_after}
use Rattle.line.specs.Offers.{line_of, offers_of}
use Rattle.line.proofs.Laws.Runs.{offers_of-length, offers_of-take}
use Rattle.mapper.proofs.within.answer_line.Goals as goal
use Rattle.mapper.proofs.within.answer_line.Goals.{After-waiting_offers-offers}

-- as many offers are lent as have a turn
counted : (c : After-waiting_offers-offers) →
    length c.waiting_offers-offers.result.now ≡ length (line_of c.args.turns)
counted c =
    let offers = c.waiting_offers-offers in
    sym (offers_of-length offers.result.now) ∙ ap length offers.ensures

pub slice_bounds-left_of-end : goal.slice_bounds-left_of-end
slice_bounds-left_of-end c =
    let count = counted (goal.at.slice_bounds-left_of-end c).After-waiting_offers-offers in
    omega (
      arith,
      count,
      c.requires.placed_most,
      length-take c.args.ran.state.placed c.waiting_offers-offers.result.now,
    )

pub returns : goal.returns
returns c =
    let a = c.args in
    let offers = c.waiting_offers-offers in
    let placed = a.ran.state.placed in
    let gone : offers_of (take placed offers.result.now) ≡ take placed (line_of a.turns) =
    offers_of-take placed offers.result.now ∙ ap (take placed) offers.ensures in
    record {
      told = rw (counted (goal.at.returns c).After-waiting_offers-offers) at c.answer_done-done.ensures;
      placed_are = refl;
      line_left_lem =
          c.left_of.ensures ∙ ap (λ (left : List Offer). left_after left (line_of a.line)) gone;
    }
