-- Laws of the offers that a run of declared ones says: its length, its first ones, one run over another.
-- Assumes nothing.
use mathlib.Core.Path.{◌≡◌, refl, sym, ap, ap₂, ◌∙◌}
use mathlib.Core.Logic.{⊎_elim}
use mathlib.Core.List.{List, [], ◌∷◌, ◌++◌}
use Prim.Native.Nat.{ℕ, zero, suc, ◌+◌, ◌≤◌, ◌<◌, min}
use native.Mathlib.Omega.{arith}
use lib.ListN.{length, take, drop, length-take}
use lib.Seq.{take_all, take-take}
use Rattle.laws.specs.Lists.{over}
use Rattle.laws.proofs.Cases.{lt_cases}
use Rattle.laws.proofs.Lists.{over_is}
use Rattle.model.specs.Line as model
use Rattle.line.specs.declared.offers.Offer.{Offer}
use Rattle.line.specs.Offers.{offer_of, offers_of}

-- so many of the first ones
module _ {A : Type 0} (xs : List A) (n m : ℕ) where
  pub take_of-take : take n (take m xs) ≡ take (min n m) xs
  take_of-take = ⊎_elim few all (lt_cases n m)
    where
      few : n < m → take n (take m xs) ≡ take (min n m) xs
      few low =
          let least : n ≡ min n m = omega (arith, low) in
          take-take n m xs (omega (arith, low)) ∙ ap (λ (k : ℕ). take k xs) least

      all : m ≤ n → take n (take m xs) ≡ take (min n m) xs
      all high =
          let least : m ≡ min n m = omega (arith, high) in
          take_all n (take m xs) (omega (arith, high, length-take m xs)) ∙ ap (λ (k : ℕ). take k xs) least

pub offers_of_nil : offers_of [] ≡ []
unfolding offers_of
offers_of_nil = refl

pub offers_of-cons :
    (offer : Offer) (later : List Offer) → offers_of (offer ∷ later) ≡ offer_of offer ∷ offers_of later
unfolding offers_of
offers_of-cons offer later = refl

pub offers_of-length : (offers : List Offer) → length (offers_of offers) ≡ length offers
unfolding offers_of
offers_of-length [] = refl
offers_of-length (offer ∷ later) = ap suc (offers_of-length later)

pub offers_of-append :
    (offers more : List Offer) → offers_of (offers ++ more) ≡ offers_of offers ++ offers_of more
unfolding offers_of
offers_of-append [] more = refl
offers_of-append (offer ∷ later) more =
    ap (λ (rest : List model.Offer). offer_of offer ∷ rest) (offers_of-append later more)

pub offers_of-take : (n : ℕ) (offers : List Offer) → offers_of (take n offers) ≡ take n (offers_of offers)
unfolding offers_of
offers_of-take zero offers = refl
offers_of-take (suc n) [] = refl
offers_of-take (suc n) (offer ∷ later) =
    ap (λ (rest : List model.Offer). offer_of offer ∷ rest) (offers_of-take n later)

offers_of-drop : (n : ℕ) (offers : List Offer) → offers_of (drop n offers) ≡ drop n (offers_of offers)
unfolding offers_of
offers_of-drop zero offers = refl
offers_of-drop (suc n) [] = refl
offers_of-drop (suc n) (offer ∷ later) = offers_of-drop n later

pub offers_of_over :
    (from : ℕ) (new old : List Offer) → offers_of (over from new old) ≡ over from (offers_of new) (offers_of old)
offers_of_over from new old =
    let rest : offers_of (drop (from + length new) old) ≡ drop (from + length (offers_of new)) (offers_of old) =
    offers_of-drop (from + length new) old
    ∙ ap (λ (n : ℕ). drop (from + n) (offers_of old)) (sym (offers_of-length new)) in
    ap offers_of (over_is from new old)
    ∙ offers_of-append (take from old ++ new) (drop (from + length new) old)
    ∙ ap₂ {C = List model.Offer} (λ (xs ys : List model.Offer). xs ++ ys)
    (offers_of-append (take from old) new
    ∙ ap (λ (xs : List model.Offer). xs ++ offers_of new) (offers_of-take from old))
    rest
    ∙ sym (over_is from (offers_of new) (offers_of old))
