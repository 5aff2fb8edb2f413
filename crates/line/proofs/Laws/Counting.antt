-- Laws of the loop that counts the turns of a line: the offers passed with their turns, and one offer more,
-- which is a turn where it is the first of its number and good. Assumes nothing.
use mathlib.Core.Path.{◌≡◌, refl, sym, ap, ◌∙◌}
use mathlib.Core.Logic.{◌≢◌, ⊎_elim}
use mathlib.Core.Bool.{true, false}
use mathlib.Core.List.{List, [], ◌∷◌, ◌++◌}
use Prim.Native.Nat.{ℕ, ◌+◌, ◌≤◌, ◌<◌}
use native.Mathlib.Omega.{arith}
use lib.Dec.{eqb}
use lib.ListN.{length, take, get_or, length-take}
use lib.Seq.{take_all, get_or-take}
use borrow.Author.Tests.{eqb-true, eq-eqb}
use Rattle.std.specs.Option.{option_eq}
use Rattle.std.specs.Prelude.{Option, None, Some, Result, is_ok}
use Rattle.laws.proofs.Cases.{lt_cases, true_is_not_false}
use Rattle.model.specs.Geometry.{Geometry}
use Rattle.model.specs.Blocks.{Bytes}
use Rattle.model.specs.Line as model
use Rattle.model.proofs.Laws.LineSteps.{is_waiting_in_at, turns_nil, turns_snoc_again, turns_snoc_bad}
use Rattle.model.proofs.Laws.LineSteps.{turns_snoc_good}
use Rattle.layout.specs.declared.refusals.Refusal.{Refusal}
use Rattle.layout.specs.Refusals.{answer_number}
use Rattle.line.specs.declared.offers.Offer.{Offer}
use Rattle.line.specs.declared.offers.Line.{Line}
use Rattle.line.specs.Offers.{offer_of, offers_of, line_of, no_offer, no_line, pushed}
use Rattle.line.specs.Numbers.{past_offer, FirstAt, FoundAt}
use Rattle.line.specs.Turns.{TurnsFound}
use Rattle.line.proofs.Laws.Offers.{get_or-offers_of, take-offers_of_more, offers_few}
use Rattle.line.proofs.Laws.Offers.{length-pushed, pushed_room, line_of-pushed_room}
use Rattle.line.proofs.Laws.Faults.{answer_good, answer_bad}
use Rattle.line.proofs.Laws.Runs.{offers_of-length}

-- an offer that is not the first of its number has one before it
module _ (line : List model.Offer) (number i : ℕ) (inside : i < length line)
    (same : (get_or line i past_offer).number ≡ number) where
  waits_after : (index : ℕ) → FirstAt line number index → index ≢ i →
      model.is_waiting_in (take i line) number ≡ true
  waits_after index at other = ⊎_elim below above (lt_cases index i)
    where
      below : index < i → model.is_waiting_in (take i line) number ≡ true
      below low =
          is_waiting_in_at (take i line) index past_offer number (simp length-take (omega arith))
          (ap (λ (that : model.Offer). that.number) (get_or-take i line index past_offer low) ∙ at.found)

      above : i ≤ index → model.is_waiting_in (take i line) number ≡ true
      above high =
          let past : i < index = ⊎_elim (λ h. h) (λ h. absurd (other (omega arith))) (lt_cases i index) in
          true_is_not_false
          (is_waiting_in_at (take index line) i past_offer number
          (simp length-take (omega (arith, at.inside)))
          (ap (λ (that : model.Offer). that.number) (get_or-take index line i past_offer past) ∙ same))
          at.none_before

  waits_before : (found : Option ℕ) → FoundAt line number found → found ≢ Some i →
      model.is_waiting_in (take i line) number ≡ true
  waits_before None absent other =
      true_is_not_false (is_waiting_in_at line i past_offer number inside same) absent
  waits_before (Some index) at other = waits_after index at (λ e. other (ap Some e))

-- what the comparison with an index says
same_index : (found : Option ℕ) (i : ℕ) → true ≡ option_eq eqb found (Some i) → found ≡ Some i
same_index None i e = absurd (cc)
same_index (Some index) i e = ap Some (eqb-true index i (sym e))

other_index : (found : Option ℕ) (i : ℕ) → false ≡ option_eq eqb found (Some i) → found ≢ Some i
other_index None i e same = absurd (cc)
other_index (Some index) i e same =
    let there : index ≡ i = cc in true_is_not_false (eq-eqb index i there) (sym e)

-- the turns of the offers passed
pub record Counting (g : Geometry) (lent : ℕ) (offers : List Offer) (turns : Line) (i : ℕ) : Type 0 where
  pub few : turns.waiting ≤ i
  pub whole : length turns.offers ≡ 16
  pub turns_so_far :
      (blocks : Bytes) → length blocks ≡ lent →
      line_of turns ≡ model.turns g blocks (take i (offers_of offers))

module _ (g : Geometry) (lent : ℕ) (offers : List Offer) where
  pub counting_start : Counting g lent offers no_line 0
  counting_start =
      record { few = omega arith; whole = refl; turns_so_far = λ blocks sized. sym (turns_nil g blocks) }

  module _ (line : Line) (same : offers_of offers ≡ line_of line) where
    pub counting_end : (turns : Line) → Counting g lent offers turns (length offers) →
        TurnsFound g lent (line_of line) turns
    counting_end turns inv =
        record {
          count_most = omega (arith, inv.few, offers_few offers line same);
          turns_are = λ blocks sized.
              inv.turns_so_far blocks sized
              ∙ ap (model.turns g blocks)
              (take_all (length offers) (offers_of offers) (omega (arith, offers_of-length offers)) ∙ same);
        }

    -- one offer more, and where the first of its number stands
    module _ (turns : Line) (i : ℕ) (inv : Counting g lent offers turns i) (inside : i < length offers)
        (found : Option ℕ) (at : FoundAt (line_of line) (get_or offers i no_offer).number.0 found) where
      abbrev offer : Offer
      offer = get_or offers i no_offer

      more : take (i + 1) (offers_of offers) ≡ take i (offers_of offers) ++ (offer_of offer ∷ [])
      more = take-offers_of_more offers i inside

      -- it is no turn
      same_turns :
          ((blocks : Bytes) → length blocks ≡ lent →
          model.turns g blocks (take i (offers_of offers) ++ (offer_of offer ∷ [])) ≡
          model.turns g blocks (take i (offers_of offers))) →
          Counting g lent offers turns (i + 1)
      same_turns kept =
          record {
            few = omega (arith, inv.few);
            whole = inv.whole;
            turns_so_far = λ blocks sized.
                inv.turns_so_far blocks sized ∙ sym (kept blocks sized)
                ∙ ap (model.turns g blocks) (sym more);
          }

      pub counting_again : false ≡ option_eq eqb found (Some i) → Counting g lent offers turns (i + 1)
      counting_again other =
          let low : i < length (offers_of offers) = omega (arith, offers_of-length offers, inside) in
          let found_there : FoundAt (offers_of offers) offer.number.0 found = rw same at in
          same_turns
          (λ blocks sized.
          turns_snoc_again g blocks (take i (offers_of offers)) (offer_of offer)
          (waits_before (offers_of offers) offer.number.0 i low
          (ap (λ (that : model.Offer). that.number) (get_or-offers_of offers i no_offer)) found found_there
          (other_index found i other)))

      module _ (first : true ≡ option_eq eqb found (Some i)) (told : Result (Unit {0}) Refusal)
          (refused : (blocks : Bytes) → length blocks ≡ lent →
          answer_number told ≡ model.line_offer_refusal g blocks (offer_of offer)) where
        absent : model.is_waiting_in (take i (offers_of offers)) offer.number.0 ≡ false
        absent =
            let there : FirstAt (line_of line) offer.number.0 i = rw (same_index found i first) at at in
            rw same there.none_before

        pub counting_bad : false ≡ is_ok told → Counting g lent offers turns (i + 1)
        counting_bad bad =
            same_turns
            (λ blocks sized.
            turns_snoc_bad g blocks (take i (offers_of offers)) (offer_of offer) absent
            (λ good. answer_bad told (sym bad) (refused blocks sized ∙ good)))

        pub counting_good : true ≡ is_ok told → Counting g lent offers (pushed turns offer) (i + 1)
        counting_good good =
            let room : turns.waiting < 16 = omega (arith, inv.few, offers_few offers line same) in
            record {
              few = omega (arith, inv.few, ap (λ (that : Line). that.waiting) (pushed_room turns offer room));
              whole = length-pushed turns offer inv.whole;
              turns_so_far = λ blocks sized.
                  line_of-pushed_room turns offer inv.whole room
                  ∙ ap (λ (xs : List model.Offer). xs ++ (offer_of offer ∷ []))
                  (inv.turns_so_far blocks sized)
                  ∙ sym (turns_snoc_good g blocks (take i (offers_of offers)) (offer_of offer) absent
                  (sym (refused blocks sized) ∙ answer_good told (sym good)))
                  ∙ ap (model.turns g blocks) (sym more);
            }
