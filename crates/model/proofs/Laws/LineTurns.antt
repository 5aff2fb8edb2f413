-- Laws of the turns of a line: no number has two, what is left once some are placed has its turns as before,
-- and the hidden writes of offers. Assumes nothing.
use mathlib.Core.Path.{◌≡◌, refl, sym, ap, ◌∙◌}
use mathlib.Core.Bool.{Bool, true, false, cond}
use mathlib.Core.List.{List, [], ◌∷◌, ◌++◌}
use Prim.Native.Nat.{ℕ, zero, suc}
use lib.Dec.{eqb}
use lib.ListN.{length, take, drop}
use Rattle.model.specs.Geometry.{Geometry}
use Rattle.model.specs.Blocks.{Bytes}
use Rattle.model.specs.Line.{Offer, without, first_offers, line_offer_refusal, good_offers, turns}
use Rattle.model.specs.Line.{hidden_writes_of, left_after}
use Rattle.model.proofs.Laws.Lines.{unless, without_same, without_twice, without_swap}
use Rattle.model.proofs.Laws.Lines.{good_offers-without, turns-without}

-- ---- no number twice ----

-- no later offer is of an offer's number
abbrev pub NoneTwice : List Offer → Type 0
NoneTwice [] = Unit {0}
NoneTwice (offer ∷ later) = (without offer.number later ≡ later) × NoneTwice later

apart_without : (number : ℕ) (xs : List Offer) → NoneTwice xs → NoneTwice (without number xs)
unfolding without
apart_without number [] h = tt
apart_without number (offer ∷ xs) h = by (apart_without number xs h.1) (eqb offer.number number)
  where
    by : NoneTwice (without number xs) → (isOut : Bool) → NoneTwice (unless isOut offer ++ without number xs)
    by rest true = rest
    by rest false = (without_swap offer.number number xs ∙ ap (without number) h.0, rest)

apart_first : (line : List Offer) → NoneTwice (first_offers line)
unfolding first_offers
apart_first [] = tt
apart_first (offer ∷ later) = (
  without_twice offer.number (first_offers later),
  apart_without offer.number (first_offers later) (apart_first later),
)

module _ (g : Geometry) (blocks : Bytes) where
  apart_good : (xs : List Offer) → NoneTwice xs → NoneTwice (good_offers g blocks xs)
  unfolding good_offers
  apart_good [] h = tt
  apart_good (offer ∷ xs) h = by (apart_good xs h.1) (eqb (line_offer_refusal g blocks offer) 0)
    where
      by : NoneTwice (good_offers g blocks xs) → (isGood : Bool) →
          NoneTwice (cond isGood (offer ∷ []) [] ++ good_offers g blocks xs)
      by rest true =
          (sym (good_offers-without g blocks offer.number xs) ∙ ap (good_offers g blocks) h.0, rest)
      by rest false = rest

  pub apart_turns : (line : List Offer) → NoneTwice (turns g blocks line)
  apart_turns line = apart_good (first_offers line) (apart_first line)

  -- ---- what is left ----

  left_of_apart :
      (count : ℕ) (xs line : List Offer) → NoneTwice xs → turns g blocks line ≡ xs →
      turns g blocks (left_after (take count xs) line) ≡ drop count xs
  unfolding left_after
  left_of_apart zero xs line h e = e
  left_of_apart (suc count) [] line h e = e
  left_of_apart (suc count) (offer ∷ xs) line h e =
      left_of_apart count xs (without offer.number line) h.1
      (turns-without g blocks offer.number line ∙ ap (without offer.number) e
      ∙ without_same offer xs ∙ h.0)

  -- once so many are placed, the others have their turn as before
  pub turns_left :
      (count : ℕ) (line : List Offer) →
      turns g blocks (left_after (take count (turns g blocks line)) line) ≡ drop count (turns g blocks line)
  turns_left count line = left_of_apart count (turns g blocks line) line (apart_turns line) refl

  -- whatever is placed, here or on another drive
  pub turns-left_after :
      (placed line : List Offer) →
      turns g blocks (left_after placed line) ≡ left_after placed (turns g blocks line)
  unfolding left_after
  turns-left_after [] line = refl
  turns-left_after (offer ∷ placed) line =
      turns-left_after placed (without offer.number line)
      ∙ ap (left_after placed) (turns-without g blocks offer.number line)

  -- ---- hidden writes of offers ----

  pub length-hidden_writes_of : (xs : List Offer) → length (hidden_writes_of g blocks xs) ≡ length xs
  unfolding hidden_writes_of
  length-hidden_writes_of [] = refl
  length-hidden_writes_of (offer ∷ xs) = ap suc (length-hidden_writes_of xs)
