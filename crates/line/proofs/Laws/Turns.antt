-- Laws of the first turn after so many, and of offers as two runs of numbers. Assumes nothing.
use mathlib.Core.Path.{◌≡◌, refl, ap, ◌∙◌}
use mathlib.Core.List.{List, [], ◌∷◌, ◌++◌}
use Prim.Native.Nat.{ℕ, zero, suc, ◌<◌, min}
use native.Mathlib.Omega.{arith}
use lib.ListN.{length, take, get_or}
use Rattle.std.specs.Prelude.{None, Some, slice_get}
use Rattle.model.specs.Line as model
use Rattle.line.specs.declared.offers.Offer as declared
use Rattle.line.specs.Offers.{offers_of}
use Rattle.line.specs.Turns.{first_at}
use Rattle.line.specs.Gathered.{offers_by}

-- ---- the first turn after so many ----

pub first_at_nil : (placed : ℕ) → first_at [] placed ≡ None
unfolding first_at
first_at_nil placed = refl

pub first_at-zero :
    (offer : model.Offer) (later : List model.Offer) →
    first_at (offer ∷ later) 0 ≡
    Some (record { number = record { 0 = offer.number }; place = offer.place })
unfolding first_at
first_at-zero offer later = refl

pub first_at_suc :
    (offer : model.Offer) (later : List model.Offer) (placed : ℕ) →
    first_at (offer ∷ later) (suc placed) ≡ first_at later placed
unfolding first_at
first_at_suc offer later placed = refl

pub first_at-offers_of :
    (offers : List declared.Offer) (placed : ℕ) → slice_get offers placed ≡ first_at (offers_of offers) placed
unfolding offers_of first_at
first_at-offers_of [] placed = refl
first_at-offers_of (offer ∷ later) zero = refl
first_at-offers_of (offer ∷ later) (suc placed) = first_at-offers_of later placed

-- ---- two runs of numbers ----

pub length-offers_by :
    (numbers places : List ℕ) → length (offers_by numbers places) ≡ min (length numbers) (length places)
unfolding offers_by
length-offers_by [] places = omega arith
length-offers_by (number ∷ numbers) [] = omega arith
length-offers_by (number ∷ numbers) (place ∷ places) =
    ap suc (length-offers_by numbers places) ∙ omega arith

-- the first so many, and the next one
pub take-offers_by_more :
    (numbers places : List ℕ) (i : ℕ) → i < length numbers → i < length places →
    take (suc i) (offers_by numbers places) ≡
    take i (offers_by numbers places)
    ++ (record { number = get_or numbers i 0; place = get_or places i 0 } ∷ [])
unfolding offers_by
take-offers_by_more [] places i low inside = absurd (omega arith)
take-offers_by_more (number ∷ numbers) [] i low inside = absurd (omega arith)
take-offers_by_more (number ∷ numbers) (place ∷ places) zero low inside = refl
take-offers_by_more (number ∷ numbers) (place ∷ places) (suc i) low inside =
    ap (λ (later : List model.Offer). record { number = number; place = place } ∷ later)
    (take-offers_by_more numbers places i (omega arith) (omega arith))
