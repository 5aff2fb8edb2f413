-- Laws of the offer that counts under a number: it is the first of the number where that is good, and none
-- where the number does not wait; it is good; and its block is what waits. Assumes nothing.
use mathlib.Core.Path.{◌≡◌, refl, sym, ap, ◌∙◌}
use mathlib.Core.Bool.{Bool, true, false, cond}
use mathlib.Core.List.{List, [], ◌∷◌}
use mathlib.Core.Option.{Option, none, some}
use Prim.Native.Nat.{ℕ, zero, suc, ◌<◌}
use native.Mathlib.Omega.{arith}
use lib.Dec.{eqb}
use lib.ListN.{length, take, get_or}
use borrow.Author.Tests.{eqb-true, eq-eqb}
use Rattle.laws.proofs.Cases.{cond_true, cond_false, none_is_not_some, some_inj}
use Rattle.model.specs.Geometry.{Geometry}
use Rattle.model.specs.Blocks.{Bytes, block_at}
use Rattle.model.specs.Line.{Offer, line_offer_refusal, is_waiting_in, waiting_for}
use Rattle.model.proofs.Laws.LineSteps.{head_other, rest_none}
use Rattle.model.proofs.Laws.LineChains.{waiting_for_nil, waiting_for-cons}
use Rattle.line.specs.Waiting.{counting_offer}

-- the block of an offer, if there is one
abbrev pub offer_block : Geometry → (blocks : Bytes) → Option Offer → Option Bytes
offer_block g blocks none = none
offer_block g blocks (some offer) = some (block_at g.block_size blocks offer.place)

module _ (g : Geometry) (blocks : Bytes) where
  -- the offer, where it is good
  abbrev pub good_one : Offer → Option Offer
  good_one offer = cond (eqb (line_offer_refusal g blocks offer) 0) (some offer) none

  -- ---- which offer it is ----

  pub counting_offer_absent :
      (xs : List Offer) (number : ℕ) → is_waiting_in xs number ≡ false →
      counting_offer g blocks xs number ≡ none
  unfolding counting_offer
  counting_offer_absent [] number absent = refl
  counting_offer_absent (offer ∷ xs) number absent =
      cond_false (good_one offer) (counting_offer g blocks xs number) (head_other number offer xs absent)
      ∙ counting_offer_absent xs number (rest_none number offer xs absent)

  pub counting_offer_first :
      (xs : List Offer) (i : ℕ) (past : Offer) (number : ℕ) → i < length xs →
      is_waiting_in (take i xs) number ≡ false → (get_or xs i past).number ≡ number →
      counting_offer g blocks xs number ≡ good_one (get_or xs i past)
  unfolding counting_offer
  counting_offer_first [] i past number inside absent e = absurd (omega arith)
  counting_offer_first (offer ∷ xs) zero past number inside absent e =
      cond_true (good_one offer) (counting_offer g blocks xs number) (eq-eqb offer.number number e)
  counting_offer_first (offer ∷ xs) (suc i) past number inside absent e =
      cond_false (good_one offer) (counting_offer g blocks xs number)
      (head_other number offer (take i xs) absent)
      ∙ counting_offer_first xs i past number (omega arith) (rest_none number offer (take i xs) absent) e

  -- ---- what it is ----

  pub counting_offer_good :
      (line : List Offer) (number : ℕ) {counting : Offer} →
      counting_offer g blocks line number ≡ some counting → line_offer_refusal g blocks counting ≡ 0
  unfolding counting_offer
  counting_offer_good [] number e = none_is_not_some _ e
  counting_offer_good (offer ∷ later) number {counting} e =
      by (eqb offer.number number) (eqb (line_offer_refusal g blocks offer) 0) refl e
      (λ p. counting_offer_good later number p)
    where
      by : (same good : Bool) → eqb (line_offer_refusal g blocks offer) 0 ≡ good →
          cond same (cond good (some offer) none) (counting_offer g blocks later number) ≡ some counting →
          (counting_offer g blocks later number ≡ some counting → line_offer_refusal g blocks counting ≡ 0) →
          line_offer_refusal g blocks counting ≡ 0
      by true true q p rest =
          ap (λ (one : Offer). line_offer_refusal g blocks one) (sym (some_inj offer counting p))
          ∙ eqb-true (line_offer_refusal g blocks offer) 0 q
      by true false q p rest = none_is_not_some _ p
      by false good q p rest = rest p

  pub waiting_for_counting :
      (line : List Offer) (number : ℕ) →
      waiting_for g blocks line number ≡ offer_block g blocks (counting_offer g blocks line number)
  unfolding counting_offer
  waiting_for_counting [] number = waiting_for_nil g blocks number
  waiting_for_counting (offer ∷ later) number =
      waiting_for-cons g blocks offer later number
      ∙ by (eqb offer.number number) (eqb (line_offer_refusal g blocks offer) 0)
      (waiting_for_counting later number)
    where
      by : (same good : Bool) →
          waiting_for g blocks later number ≡ offer_block g blocks (counting_offer g blocks later number) →
          cond same (cond good (some (block_at g.block_size blocks offer.place)) none)
          (waiting_for g blocks later number) ≡
          offer_block g blocks (cond same (cond good (some offer) none) (counting_offer g blocks later number))
      by true true rest = refl
      by true false rest = refl
      by false good rest = rest
