-- Laws of a number in a line: what a search for it finds, and whether it is one of some. Assumes nothing.
use mathlib.Core.Path.{◌≡◌, refl, sym, ap, ◌∙◌}
use mathlib.Core.Bool.{Bool, true, false, cond, not, ◌||◌}
use mathlib.Core.List.{List, [], ◌∷◌}
use Prim.Native.Nat.{ℕ, zero, suc, ◌+◌, ◌≤◌, ◌<◌}
use native.Mathlib.Omega.{arith}
use lib.Dec.{eqb, ltb}
use lib.ListN.{length, take, get_or}
use borrow.Author.Tests.{eqb-true, ltb-false}
use Rattle.std.specs.Prelude.{Option, None, Some, is_some}
use Rattle.std.specs.List.{list_any, position, position_or_len}
use Rattle.std.proofs.lemmas.List.Quantifiers.{position-Some}
use Rattle.laws.proofs.Cases.{or_neither}
use Rattle.model.specs.Line.{Offer, is_waiting_in}
use Rattle.model.proofs.Laws.LineSteps.{is_waiting_in_nil, is_waiting_in-cons, is_waiting_in_at}
use Rattle.line.specs.declared.offers.Offer as declared
use Rattle.line.specs.Offers.{offer_of, offers_of, no_offer}
use Rattle.line.specs.Numbers.{past_offer, FoundAt}
use Rattle.line.proofs.Laws.Runs.{offers_of-length}
use Rattle.line.proofs.Laws.Offers.{get_or-offers_of}

module _ (number : ℕ) where
  abbrev pub has_number : declared.Offer → Bool
  has_number offer = eqb offer.number.0 number

  -- ---- whether it is one of some ----

  pub is_waiting_in-any :
      (offers : List declared.Offer) → list_any has_number offers ≡ is_waiting_in (offers_of offers) number
  unfolding offers_of
  is_waiting_in-any [] = sym (is_waiting_in_nil number)
  is_waiting_in-any (offer ∷ later) =
      ap (λ (test : Bool). has_number offer || test) (is_waiting_in-any later)
      ∙ sym (is_waiting_in-cons (offer_of offer) (offers_of later) number)

  -- ---- a search ----

  -- none of the first so many has it
  none_before :
      (offers : List declared.Offer) (i : ℕ) → i ≤ length offers →
      ((k : ℕ) → k < i → has_number (get_or offers k no_offer) ≡ false) →
      is_waiting_in (take i (offers_of offers)) number ≡ false
  unfolding offers_of
  none_before offers zero low other = is_waiting_in_nil number
  none_before [] (suc i) low other = absurd (omega arith)
  none_before (offer ∷ later) (suc i) low other =
      is_waiting_in-cons (offer_of offer) (take i (offers_of later)) number
      ∙ or_neither (other 0 (omega arith))
      (none_before later i (omega arith) (λ k h. other (suc k) (omega arith)))

  -- none has it where the search has come to the end
  none_at_all :
      (offers : List declared.Offer) → length offers ≤ position_or_len has_number offers →
      is_waiting_in (offers_of offers) number ≡ false
  unfolding offers_of
  none_at_all [] past = is_waiting_in_nil number
  none_at_all (offer ∷ later) past = by (has_number offer) refl past (none_at_all later)
    where
      by : (has : Bool) → has_number offer ≡ has →
          suc (length later) ≤ cond (not has) (1 + position_or_len has_number later) 0 →
          (length later ≤ position_or_len has_number later → is_waiting_in (offers_of later) number ≡ false) →
          is_waiting_in (offers_of (offer ∷ later)) number ≡ false
      by true e low rest = absurd (omega arith)
      by false e low rest =
          is_waiting_in-cons (offer_of offer) (offers_of later) number
          ∙ or_neither e (rest (omega arith))

  pub found_at :
      (offers : List declared.Offer) (found : Option ℕ) → position has_number offers ≡ found →
      FoundAt (offers_of offers) number found
  found_at offers None e = none_at_all offers (by (ltb from all) refl e)
    where
      from : ℕ
      from = position_or_len has_number offers

      all : ℕ
      all = length offers

      by : (low : Bool) → ltb from all ≡ low → cond low (Some from) None ≡ None → all ≤ from
      by true e found = absurd (cc)
      by false e found = ltb-false from all e
  found_at offers (Some index) e =
      let at = position-Some has_number offers index no_offer e in
      record {
        inside = omega (arith, at.0, offers_of-length offers);
        none_before = none_before offers index (omega (arith, at.0)) at.2;
        found =
            ap (λ (that : Offer). that.number) (get_or-offers_of offers index no_offer)
            ∙ eqb-true (get_or offers index no_offer).number.0 number at.1;
      }

-- a number whose first offer is found waits, else it does not
pub is_waiting_in-found :
    (line : List Offer) (number : ℕ) (found : Option ℕ) → FoundAt line number found →
    is_waiting_in line number ≡ is_some found
is_waiting_in-found line number None absent = absent
is_waiting_in-found line number (Some index) at =
    is_waiting_in_at line index past_offer number at.inside at.found
