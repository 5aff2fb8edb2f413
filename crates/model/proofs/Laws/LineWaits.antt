-- Laws of what waits under a number: it is what the turns say, it is the block of the number's first offer,
-- and what an offer that enters changes of it. Assumes nothing.
use mathlib.Core.Path.{◌≡◌, refl, sym, ap, ◌∙◌}
use mathlib.Core.Logic.{◌≢◌}
use mathlib.Core.Bool.{Bool, true, false, cond}
use mathlib.Core.List.{List, [], ◌∷◌, ◌++◌}
use mathlib.Core.Option.{Option, none, some}
use Prim.Native.Nat.{ℕ}
use lib.Dec.{eqb}
use borrow.Author.Tests.{eqb-true, eqb-false, eq-eqb, ne_eqb}
use Rattle.laws.proofs.Cases.{cond_true, cond_false}
use Rattle.model.specs.Geometry.{Geometry}
use Rattle.model.specs.Blocks.{Bytes, block_at}
use Rattle.model.specs.Line.{Offer, without, first_offers, line_offer_refusal, good_offers, turns}
use Rattle.model.specs.Line.{with_offer, good_block, waiting_for}
use Rattle.model.proofs.Laws.Lines.{unless, turns-cons}

module _ (g : Geometry) (blocks : Bytes) where
  -- ---- an offer's block ----

  pub good_block_good :
      (offer : Offer) → line_offer_refusal g blocks offer ≡ 0 →
      good_block g blocks offer ≡ some (block_at g.block_size blocks offer.place)
  unfolding good_block
  good_block_good offer e = cond_true _ _ (eq-eqb (line_offer_refusal g blocks offer) 0 e)

  pub good_block_bad :
      (offer : Offer) → line_offer_refusal g blocks offer ≢ 0 → good_block g blocks offer ≡ none
  unfolding good_block
  good_block_bad offer ne = cond_false _ _ (ne_eqb (line_offer_refusal g blocks offer) 0 ne)

  -- ---- the first offer's number ----

  pub waiting_for_same :
      (offer : Offer) (later : List Offer) (number : ℕ) → offer.number ≡ number →
      waiting_for g blocks (offer ∷ later) number ≡ good_block g blocks offer
  unfolding waiting_for
  waiting_for_same offer later number e = cond_true _ _ (eq-eqb offer.number number e)

  pub waiting_for_other :
      (offer : Offer) (later : List Offer) (number : ℕ) → offer.number ≢ number →
      waiting_for g blocks (offer ∷ later) number ≡ waiting_for g blocks later number
  unfolding waiting_for
  waiting_for_other offer later number ne = cond_false _ _ (ne_eqb offer.number number ne)

  -- ---- without a number ----

  pub waiting_for-without_same :
      (number : ℕ) (xs : List Offer) → waiting_for g blocks (without number xs) number ≡ none
  unfolding waiting_for without
  waiting_for-without_same number [] = refl
  waiting_for-without_same number (offer ∷ xs) =
      by (waiting_for-without_same number xs) (eqb offer.number number) refl
    where
      by : waiting_for g blocks (without number xs) number ≡ none → (isOut : Bool) →
          eqb offer.number number ≡ isOut →
          waiting_for g blocks (unless isOut offer ++ without number xs) number ≡ none
      by e true q = e
      by e false q = cond_false _ _ q ∙ e

  pub waiting_for-without_other :
      (number other : ℕ) (xs : List Offer) → other ≢ number →
      waiting_for g blocks (without other xs) number ≡ waiting_for g blocks xs number
  unfolding waiting_for without
  waiting_for-without_other number other [] ne = refl
  waiting_for-without_other number other (offer ∷ xs) ne =
      by (waiting_for-without_other number other xs ne) (eqb offer.number other) refl
    where
      by : waiting_for g blocks (without other xs) number ≡ waiting_for g blocks xs number → (isOut : Bool) →
          eqb offer.number other ≡ isOut →
          waiting_for g blocks (unless isOut offer ++ without other xs) number ≡
          cond (eqb offer.number number) (good_block g blocks offer) (waiting_for g blocks xs number)
      by e true q =
          let apart : offer.number ≢ number = λ z. ne (sym (eqb-true offer.number other q) ∙ z) in
          e ∙ sym (cond_false _ _ (ne_eqb offer.number number apart))
      by e false q =
          ap (λ (rest : Option Bytes). cond (eqb offer.number number) (good_block g blocks offer) rest) e

  -- ---- the turns ----

  -- what waits is what the turns say
  pub waiting_for-turns :
      (number : ℕ) (line : List Offer) →
      waiting_for g blocks line number ≡ waiting_for g blocks (turns g blocks line) number
  unfolding waiting_for good_block first_offers good_offers
  waiting_for-turns number [] = nothing_waits
    where
      nothing_waits : none ≡ waiting_for g blocks (turns g blocks []) number
      nothing_waits = refl
  waiting_for-turns number (offer ∷ later) =
      by (waiting_for-turns number later) (eqb offer.number number)
      (eqb (line_offer_refusal g blocks offer) 0) refl refl
      ∙ ap (λ (xs : List Offer). waiting_for g blocks xs number) (sym (turns-cons g blocks offer later))
    where
      others : List Offer
      others = without offer.number (turns g blocks later)

      by : waiting_for g blocks later number ≡ waiting_for g blocks (turns g blocks later) number →
          (is_same isGood : Bool) → eqb offer.number number ≡ is_same →
          eqb (line_offer_refusal g blocks offer) 0 ≡ isGood →
          cond is_same (good_block g blocks offer) (waiting_for g blocks later number) ≡
          waiting_for g blocks (cond isGood (offer ∷ []) [] ++ others) number
      by e true true p q = sym (cond_true _ _ p)
      by e true false p q =
          cond_false _ _ q ∙ sym (waiting_for-without_same number (turns g blocks later))
          ∙ ap (λ (n : ℕ). waiting_for g blocks (without n (turns g blocks later)) number)
          (sym (eqb-true offer.number number p))
      by e false true p q =
          e
          ∙ sym (waiting_for-without_other number offer.number (turns g blocks later)
          (eqb-false offer.number number p))
          ∙ sym (cond_false (good_block g blocks offer) (waiting_for g blocks others number) p)
      by e false false p q =
          e
          ∙ sym (waiting_for-without_other number offer.number (turns g blocks later)
          (eqb-false offer.number number p))

  -- ---- entering ----

  module _ (offer : Offer) where
    pub waiting_for-with_offer_same :
        (line : List Offer) →
        waiting_for g blocks (with_offer offer line) offer.number ≡ good_block g blocks offer
    unfolding with_offer
    waiting_for-with_offer_same [] = waiting_for_same offer [] offer.number refl
    waiting_for-with_offer_same (first ∷ later) =
        by (waiting_for-with_offer_same later) (eqb first.number offer.number) refl
      where
        by : waiting_for g blocks (with_offer offer later) offer.number ≡ good_block g blocks offer →
            (is_same : Bool) → eqb first.number offer.number ≡ is_same →
            waiting_for g blocks (cond is_same (offer ∷ later) (first ∷ with_offer offer later))
            offer.number ≡
            good_block g blocks offer
        by e true q = waiting_for_same offer later offer.number refl
        by e false q =
            waiting_for_other first (with_offer offer later) offer.number
            (eqb-false first.number offer.number q)
            ∙ e

    pub waiting_for-with_offer_other :
        (line : List Offer) (number : ℕ) → number ≢ offer.number →
        waiting_for g blocks (with_offer offer line) number ≡ waiting_for g blocks line number
    unfolding waiting_for with_offer
    waiting_for-with_offer_other [] number ne = waiting_for_other offer [] number (λ z. ne (sym z))
    waiting_for-with_offer_other (first ∷ later) number ne =
        by (waiting_for-with_offer_other later number ne) (eqb first.number offer.number) refl
      where
        by : waiting_for g blocks (with_offer offer later) number ≡ waiting_for g blocks later number →
            (is_same : Bool) → eqb first.number offer.number ≡ is_same →
            waiting_for g blocks (cond is_same (offer ∷ later) (first ∷ with_offer offer later)) number ≡
            cond (eqb first.number number) (good_block g blocks first) (waiting_for g blocks later number)
        by e true q =
            waiting_for_other offer later number (λ z. ne (sym z))
            ∙ sym (waiting_for_other first later number
            (λ z. ne (sym z ∙ eqb-true first.number offer.number q)))
        by e false q =
            ap (λ (rest : Option Bytes). cond (eqb first.number number) (good_block g blocks first) rest) e
