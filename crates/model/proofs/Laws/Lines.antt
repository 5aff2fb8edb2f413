-- Laws of the offers of a line: those of other numbers, the first of each number, and those that count on a
-- drive, in their turn. Assumes nothing.
use mathlib.Core.Path.{◌≡◌, refl, sym, ap, ◌∙◌}
use mathlib.Core.Bool.{Bool, true, false, cond}
use mathlib.Core.List.{List, [], ◌∷◌, ◌++◌}
use Prim.Native.Nat.{ℕ}
use lib.Dec.{eqb}
use borrow.Author.Tests.{eqb-true, eq-eqb}
use Rattle.laws.proofs.Members.{All}
use Rattle.model.specs.Geometry.{Geometry}
use Rattle.model.specs.Blocks.{Bytes}
use Rattle.model.specs.Line.{Offer, without, first_offers, line_offer_refusal, good_offers, turns}

-- ---- offers of other numbers ----

-- an offer alone, or none where it is to be left out
abbrev pub unless : (isOut : Bool) → Offer → List Offer
unless isOut offer = cond isOut [] (offer ∷ [])

pub without_same : (offer : Offer) (xs : List Offer) → without offer.number (offer ∷ xs) ≡
    without offer.number xs
unfolding without
without_same offer xs =
    ap (λ (isOut : Bool). unless isOut offer ++ without offer.number xs)
    (eq-eqb offer.number offer.number refl)

pub without_twice : (number : ℕ) (xs : List Offer) → without number (without number xs) ≡ without number xs
unfolding without
without_twice number [] = refl
without_twice number (offer ∷ xs) = by (without_twice number xs) (eqb offer.number number) refl
  where
    by : without number (without number xs) ≡ without number xs → (isOut : Bool) →
        eqb offer.number number ≡ isOut →
        without number (unless isOut offer ++ without number xs) ≡ unless isOut offer ++ without number xs
    by e true q = e
    by e false q =
        ap (λ (isOut : Bool). unless isOut offer ++ without number (without number xs)) q
        ∙ ap (λ (rest : List Offer). offer ∷ rest) e

pub without_swap : (n m : ℕ) (xs : List Offer) → without n (without m xs) ≡ without m (without n xs)
unfolding without
without_swap n m [] = refl
without_swap n m (offer ∷ xs) =
    by (without_swap n m xs) (eqb offer.number n) (eqb offer.number m) refl refl
  where
    -- with either number taken out first
    outer : {isOut : Bool} → eqb offer.number n ≡ isOut →
        without n (offer ∷ without m xs) ≡ unless isOut offer ++ without n (without m xs)
    outer p = ap (λ (isOut : Bool). unless isOut offer ++ without n (without m xs)) p

    inner : {isOut : Bool} → eqb offer.number m ≡ isOut →
        without m (offer ∷ without n xs) ≡ unless isOut offer ++ without m (without n xs)
    inner q = ap (λ (isOut : Bool). unless isOut offer ++ without m (without n xs)) q

    by : without n (without m xs) ≡ without m (without n xs) → (isOne isOther : Bool) →
        eqb offer.number n ≡ isOne → eqb offer.number m ≡ isOther →
        without n (unless isOther offer ++ without m xs) ≡ without m (unless isOne offer ++ without n xs)
    by e true true p q = e
    by e true false p q = outer p ∙ e
    by e false true p q = e ∙ sym (inner q)
    by e false false p q = outer p ∙ ap (λ (rest : List Offer). offer ∷ rest) e ∙ sym (inner q)

-- ---- the first of each number ----

first_offers-without :
    (number : ℕ) (line : List Offer) → first_offers (without number line) ≡ without number (first_offers line)
unfolding first_offers without
first_offers-without number [] = refl
first_offers-without number (offer ∷ later) =
    by (first_offers-without number later) (eqb offer.number number) refl
  where
    by : first_offers (without number later) ≡ without number (first_offers later) → (isOut : Bool) →
        eqb offer.number number ≡ isOut →
        first_offers (unless isOut offer ++ without number later) ≡
        unless isOut offer ++ without number (without offer.number (first_offers later))
    by e true q =
        e ∙ sym (without_twice number (first_offers later))
        ∙ ap (λ (n : ℕ). without number (without n (first_offers later)))
        (sym (eqb-true offer.number number q))
    by e false q =
        ap (λ (rest : List Offer). offer ∷ rest)
        (ap (without offer.number) e ∙ without_swap offer.number number (first_offers later))

-- ---- those that count ----

module _ (g : Geometry) (blocks : Bytes) where
  -- an offer alone, if it is good
  abbrev pub if_good : Offer → List Offer
  if_good offer = cond (eqb (line_offer_refusal g blocks offer) 0) (offer ∷ []) []

  pub good_offers-without :
      (number : ℕ) (line : List Offer) →
      good_offers g blocks (without number line) ≡ without number (good_offers g blocks line)
  unfolding good_offers without
  good_offers-without number [] = refl
  good_offers-without number (offer ∷ later) =
      by (good_offers-without number later) (eqb offer.number number)
      (eqb (line_offer_refusal g blocks offer) 0) refl refl
    where
      outer : {isOut : Bool} → eqb offer.number number ≡ isOut →
          without number (offer ∷ good_offers g blocks later) ≡
          unless isOut offer ++ without number (good_offers g blocks later)
      outer p = ap (λ (isOut : Bool). unless isOut offer ++ without number (good_offers g blocks later)) p

      inner : {isGood : Bool} → eqb (line_offer_refusal g blocks offer) 0 ≡ isGood →
          good_offers g blocks (offer ∷ without number later) ≡
          cond isGood (offer ∷ []) [] ++ good_offers g blocks (without number later)
      inner q =
          ap (λ (isGood : Bool). cond isGood (offer ∷ []) [] ++ good_offers g blocks (without number later)) q

      by : good_offers g blocks (without number later) ≡ without number (good_offers g blocks later) →
          (isOut isGood : Bool) → eqb offer.number number ≡ isOut →
          eqb (line_offer_refusal g blocks offer) 0 ≡ isGood →
          good_offers g blocks (unless isOut offer ++ without number later) ≡
          without number (cond isGood (offer ∷ []) [] ++ good_offers g blocks later)
      by e true true p q = e ∙ sym (outer p)
      by e true false p q = e
      by e false true p q = inner q ∙ ap (λ (rest : List Offer). offer ∷ rest) e ∙ sym (outer p)
      by e false false p q = inner q ∙ e

  pub good_offers_good :
      (xs : List Offer) →
      All (λ (offer : Offer). line_offer_refusal g blocks offer ≡ 0) (good_offers g blocks xs)
  unfolding good_offers
  good_offers_good [] = tt
  good_offers_good (offer ∷ xs) = by (good_offers_good xs) (eqb (line_offer_refusal g blocks offer) 0) refl
    where
      by : All (λ (good : Offer). line_offer_refusal g blocks good ≡ 0) (good_offers g blocks xs) →
          (isGood : Bool) → eqb (line_offer_refusal g blocks offer) 0 ≡ isGood →
          All (λ (good : Offer). line_offer_refusal g blocks good ≡ 0)
          (cond isGood (offer ∷ []) [] ++ good_offers g blocks xs)
      by rest true e = (eqb-true (line_offer_refusal g blocks offer) 0 e, rest)
      by rest false e = rest

  -- ---- the turns ----

  pub turns-without :
      (number : ℕ) (line : List Offer) →
      turns g blocks (without number line) ≡ without number (turns g blocks line)
  turns-without number line =
      ap (good_offers g blocks) (first_offers-without number line)
      ∙ good_offers-without number (first_offers line)

  -- by the first offer: it alone, if it is good, and then the others' turns without its number
  pub turns-cons :
      (offer : Offer) (later : List Offer) →
      turns g blocks (offer ∷ later) ≡ if_good offer ++ without offer.number (turns g blocks later)
  unfolding first_offers good_offers
  turns-cons offer later =
      ap (λ (rest : List Offer). if_good offer ++ rest)
      (good_offers-without offer.number (first_offers later))
