-- A line saved in the one that was handed over, as the model has them. Assumes nothing.
use mathlib.Core.Path.{◌≡◌, refl, sym, ap, ◌∙◌}
use mathlib.Core.List.{List, [], ◌∷◌, ◌++◌}
use Prim.Native.Nat.{ℕ, zero, suc, ◌+◌, ◌≤◌}
use native.Mathlib.Omega.{arith}
use lib.ListN.{length, take, drop}
use lib.Seq.{take_all, take-take}
use Rattle.laws.specs.Lists.{over}
use Rattle.laws.proofs.Lists.{over_is, length_over}
use Rattle.model.specs.Line.{Offer}
use Rattle.line.specs.declared.offers.Line.{Line}
use Rattle.line.specs.Offers.{offers_of, line_of}
use Rattle.line.proofs.Laws.Offers.{length-line_of_le}
use Rattle.line.proofs.Laws.Runs.{offers_of-length}
use Rattle.lent_line.specs.Lent.{saved_offers}
use Rattle.lent_line.proofs.Laws.Lent.{saved_left}
use Rattle.line_cases.specs.Lents.{LentAfter}

-- ---- the first so many ----

module _ {A : Type 0} where
  take_of-length : (n : ℕ) (xs : List A) → take (length (take n xs)) xs ≡ take n xs
  take_of-length zero xs = refl
  take_of-length (suc n) [] = refl
  take_of-length (suc n) (x ∷ xs) = ap (λ (rest : List A). x ∷ rest) (take_of-length n xs)

  -- what lies past them makes no difference
  take_saved :
      (n : ℕ) (new old : List A) →
      take n (new ++ drop (length new) old) ≡ take n (new ++ drop (length new) (take n old))
  take_saved n [] old = sym (take-take n n old (omega arith))
  take_saved zero (x ∷ new) old = refl
  take_saved (suc n) (x ∷ new) [] = refl
  take_saved (suc n) (x ∷ new) (y ∷ old) = ap (λ (rest : List A). x ∷ rest) (take_saved n new old)

  over_front : (new old : List A) → over 0 new old ≡ new ++ drop (length new) old
  over_front new old =
      let none : 0 + length new ≡ length new = omega arith in
      over_is 0 new old ∙ ap (λ (k : ℕ). new ++ drop k old) none

  take_over_taken : (n : ℕ) (new old : List A) → take n (over 0 new old) ≡ take n (over 0 new (take n old))
  take_over_taken n new old =
      ap (take n) (over_front new old) ∙ take_saved n new old
      ∙ ap (take n) (sym (over_front new (take n old)))

-- ---- the line saved ----

-- sixteen offers, with the line left in their front, of which as many wait as did
pub lent_after_lem :
    {after : Line} (lent left : Line) → length lent.offers ≡ 16 →
    after.offers ≡ saved_offers left lent.offers → after.waiting ≡ length (line_of lent) →
    LentAfter lent left after
lent_after_lem {after} lent left whole offers_are waiting_is =
    let xs : List Offer = offers_of lent.offers in
    let new : List Offer = line_of left in
    let long : length xs ≡ 16 = offers_of-length lent.offers ∙ whole in
    let few : length new ≤ 16 = length-line_of_le left in
    let fits : length new ≤ length lent.offers = omega (arith, few, whole) in
    let all : length (over 0 new xs) ≡ 16 = length_over new xs 0 (omega (arith, few, long)) ∙ long in
    let handed : take (length (line_of lent)) xs ≡ line_of lent =
    ap (λ (ys : List Offer). take (length (take lent.waiting ys)) xs)
    (take_all 16 xs (omega (arith, long)))
    ∙ take_of-length lent.waiting xs
    ∙ ap (take lent.waiting) (sym (take_all 16 xs (omega (arith, long)))) in
    record {
      offers_are = offers_are;
      waiting_is = waiting_is;
      line_is =
          ap (λ (n : ℕ). take n (take 16 (offers_of after.offers))) waiting_is
          ∙ ap (λ (ys : List Offer). take (length (line_of lent)) (take 16 ys))
          (saved_left lent.offers after.offers left new offers_are refl fits)
          ∙ ap (take (length (line_of lent))) (take_all 16 (over 0 new xs) (omega (arith, all)))
          ∙ take_over_taken (length (line_of lent)) new xs
          ∙ ap (λ (ys : List Offer). take (length (line_of lent)) (over 0 new ys)) handed;
    }
