-- Laws of what waits under a number: its first offer and the block of it, where that is good, else none.
-- Assumes nothing.
use mathlib.Core.Path.{◌≡◌, refl, sym, ap, ◌∙◌}
use mathlib.Core.Logic.{◌≢◌}
use Prim.Native.Nat.{ℕ}
use native.Mathlib.Omega.{arith}
use lib.ListN.{length, replicate, length-replicate}
use borrow.Author.Tests.{eq-eqb, ne_eqb}
use Rattle.std.specs.Prelude.{false, Option, None, Some}
use Rattle.laws.proofs.Cases.{cond_true, cond_false}
use Rattle.model.specs.Geometry.{Geometry, Fits}
use Rattle.model.specs.Blocks.{Bytes}
use Rattle.model.specs.Line as model
use Rattle.model.proofs.Laws.LineSteps.{line_offer_inside}
use Rattle.line.specs.declared.offers.Offer.{Offer}
use Rattle.line.specs.declared.offers.Line.{Line}
use Rattle.line.specs.Offers.{offer_of, line_of, offer_in}
use Rattle.line.specs.Numbers.{past_offer, FirstAt}
use Rattle.line.specs.Waiting.{block_of, offer_found, PlaceInside, counting_offer, WaitsFor}
use Rattle.line.proofs.Laws.Offers.{get_d-line_of}
use Rattle.line.proofs.Laws.CountingOffer.{offer_block, good_one, counting_offer_absent}
use Rattle.line.proofs.Laws.CountingOffer.{counting_offer_first, waiting_for_counting}

module _ (g : Geometry) (fits : Fits g) (lent : ℕ) (line : Line) (number : ℕ) where
  -- an offer that counts, whatever the lent blocks
  abbrev Counts : Option Offer → Type 0
  Counts first =
      (blocks : Bytes) → length blocks ≡ lent → offer_found first ≡ counting_offer g blocks (line_of line) number

  -- its block waits
  waits_of_counts : (first : Option Offer) → Counts first → PlaceInside first g lent →
      WaitsFor g lent (line_of line) number first
  waits_of_counts first counts inside =
      record {
        waits_is = λ blocks sized.
            block_of_lem first blocks ∙ ap (offer_block g blocks) (counts blocks sized)
            ∙ sym (waiting_for_counting g blocks (line_of line) number);
        offer_is = counts;
        inside = inside;
      }
    where
      block_of_lem : (first : Option Offer) (blocks : Bytes) →
          block_of first g blocks ≡ offer_block g blocks (offer_found first)
      block_of_lem None blocks = refl
      block_of_lem (Some offer) blocks = refl

  pub nobody_of_absent :
      model.is_waiting_in (line_of line) number ≡ false → WaitsFor g lent (line_of line) number None
  nobody_of_absent absent =
      waits_of_counts None
      (λ blocks sized. sym (counting_offer_absent g blocks (line_of line) number absent))
      tt

  -- the first offer of the number, and its refusal
  module _ (index : ℕ) (at : FirstAt (line_of line) number index) (fault : ℕ)
      (refused : (blocks : Bytes) → length blocks ≡ lent →
      fault ≡ model.line_offer_refusal g blocks (offer_of (offer_in line index))) where
    abbrev offer : Offer
    offer = offer_in line index

    by_first : (blocks : Bytes) →
        counting_offer g blocks (line_of line) number ≡ good_one g blocks (offer_of offer)
    by_first blocks =
        counting_offer_first g blocks (line_of line) index past_offer number at.inside at.none_before
        at.found
        ∙ ap (good_one g blocks) (get_d-line_of line index at.inside)

    pub waits_of_good : fault ≡ 0 → WaitsFor g lent (line_of line) number (Some offer)
    waits_of_good good =
        waits_of_counts (Some offer)
        (λ blocks sized.
        sym (by_first blocks ∙ cond_true _ _ (eq-eqb _ 0 (sym (refused blocks sized) ∙ good))))
        (let blocks : Bytes = replicate lent 0 in
        let sized : length blocks ≡ lent = length-replicate lent 0 in
        omega (
          arith,
          sized,
          line_offer_inside g blocks (offer_of offer) (sym (refused blocks sized) ∙ good),
        ))

    pub nobody_of_bad : fault ≢ 0 → WaitsFor g lent (line_of line) number None
    nobody_of_bad bad =
        waits_of_counts None
        (λ blocks sized.
        sym (by_first blocks
        ∙ cond_false _ _ (ne_eqb _ 0 (λ good. bad (refused blocks sized ∙ good)))))
        tt
