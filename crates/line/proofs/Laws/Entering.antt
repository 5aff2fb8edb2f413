-- Laws of an offer that enters a line: 16, one law for each way through its tests, and the line with it.
-- Assumes nothing.
use mathlib.Core.Path.{◌≡◌, sym, ap, ◌∙◌}
use mathlib.Core.Logic.{◌⊎◌, inl, inr, ⊎_elim}
use mathlib.Core.Bool.{true, false, not}
use mathlib.Core.List.{List, []}
use Prim.Native.Nat.{ℕ, ◌≤◌, ◌<◌}
use native.Mathlib.Omega.{arith}
use lib.Dec.{leb}
use lib.ListN.{length, take, set, length-set, length-append}
use lib.Seq.{take_all}
use borrow.Author.Tests.{le-leb, lt-leb}
use Rattle.laws.specs.Checks.{first_of}
use Rattle.laws.proofs.Cases.{and_both, and_false_left, and_false_right, or_left, or_right, or_neither}
use Rattle.laws.proofs.Cases.{bool_cases, lt_cases}
use Rattle.laws.proofs.Checks.{first_of_nil, first_of_stop, first_of_pass}
use Rattle.model.specs.Line as model
use Rattle.model.proofs.Laws.LineSteps.{with_offer_first, with_offer_absent, length-with_offer_known}
use Rattle.line.specs.declared.offers.Offer.{Offer}
use Rattle.line.specs.declared.offers.Line.{Line}
use Rattle.line.specs.Offers.{offer_of, line_of, pushed}
use Rattle.line.specs.Numbers.{past_offer, FirstAt}
use Rattle.line.proofs.Laws.Offers.{length-line_of_le, line_of-set, line_of-pushed}

-- ---- 16 ----

module _ (line : List model.Offer) (number room : ℕ) where
  pub room_known :
      model.is_waiting_in line number ≡ true → 0 ≡ first_of (model.room_checks line number room)
  room_known waits = sym (first_of_pass 16 [] (and_false_left _ (ap not waits)) ∙ first_of_nil)

  module _ (absent : model.is_waiting_in line number ≡ false) where
    pub room_most : 16 ≤ length line → 16 ≡ first_of (model.room_checks line number room)
    room_most full =
        sym (first_of_stop 16 [] (and_both (ap not absent)
        (or_left (leb room (length line)) (le-leb 16 (length line) full))))

    pub room_full : room ≤ length line → 16 ≡ first_of (model.room_checks line number room)
    room_full full =
        sym (first_of_stop 16 [] (and_both (ap not absent)
        (or_right (leb 16 (length line)) (le-leb room (length line) full))))

    pub room_left : length line < 16 → length line < room →
        0 ≡ first_of (model.room_checks line number room)
    room_left few low =
        sym (first_of_pass 16 [] (and_false_right (not (model.is_waiting_in line number))
        (or_neither (lt-leb 16 (length line) few) (lt-leb room (length line) low)))
        ∙ first_of_nil)

-- ---- the line with an offer in it ----

module _ (line : Line) (offer : Offer) where
  pub enters_in_turn :
      (index : ℕ) → FirstAt (line_of line) offer.number.0 index →
      line_of (record { offers = set line.offers index offer; waiting = line.waiting }) ≡
      take model.most_offers (model.with_offer (offer_of offer) (line_of line))
  enters_in_turn index at =
      let new = set (line_of line) index (offer_of offer) in
      let short : length new ≤ 16 = simp length-set (omega (arith, length-line_of_le line)) in
      line_of-set line offer index at.inside ∙ sym (take_all 16 new short)
      ∙ ap (take 16)
      (sym (with_offer_first (offer_of offer) (line_of line) index past_offer at.inside at.none_before
      at.found))

  pub enters_last : length line.offers ≡ 16 → model.is_waiting_in (line_of line) offer.number.0 ≡ false →
      line_of (pushed line offer) ≡ take model.most_offers (model.with_offer (offer_of offer) (line_of line))
  enters_last whole absent =
      line_of-pushed line offer whole
      ∙ ap (take 16) (sym (with_offer_absent (offer_of offer) (line_of line) absent))

-- where 16 does not refuse the offer, there is a place for it
pub enters_whole :
    (line : Line) (offer : Offer) (room : ℕ) →
    first_of (model.room_checks (line_of line) offer.number.0 room) ≡ 0 →
    take model.most_offers (model.with_offer (offer_of offer) (line_of line)) ≡
    model.with_offer (offer_of offer) (line_of line)
enters_whole line offer room passes =
    take_all 16 (model.with_offer (offer_of offer) (line_of line))
    (by (bool_cases (model.is_waiting_in (line_of line) offer.number.0)))
  where
    refused : model.is_waiting_in (line_of line) offer.number.0 ≡ false → 16 ≤ length (line_of line) → ⊥
    refused absent full =
        let z : ◌≡◌ {A = ℕ} 16 0 =
        sym (first_of_stop 16 [] (and_both (ap not absent)
        (or_left (leb room (length (line_of line))) (le-leb 16 (length (line_of line)) full)))) ∙ passes in
        omega arith

    by : (model.is_waiting_in (line_of line) offer.number.0 ≡ true) ⊎
        (model.is_waiting_in (line_of line) offer.number.0 ≡ false) →
        length (model.with_offer (offer_of offer) (line_of line)) ≤ 16
    by (inl waits) =
        omega (arith, length-with_offer_known (offer_of offer) (line_of line) waits, length-line_of_le line)
    by (inr absent) =
        let few : length (line_of line) < 16 =
        ⊎_elim (λ low. low) (λ full. absurd (refused absent full)) (lt_cases (length (line_of line)) 16) in
        rw (with_offer_absent (offer_of offer) (line_of line) absent) (simp length-append (omega arith))
