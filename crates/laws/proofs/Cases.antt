-- Cases of a test, an order and an equation; conjunctions and disjunctions of tests; what a choice gives;
-- options. Assumes nothing.
use mathlib.Core.Path.{◌≡◌, refl}
use mathlib.Core.Logic.{◌≢◌, ◌⊎◌, inl, inr}
use mathlib.Core.Bool.{Bool, true, false, ◌&&◌, ◌||◌, cond}
use mathlib.Core.Option.{none, some}
use Prim.Native.Nat.{ℕ, ◌≤◌, ◌<◌}
use native.Mathlib.Omega.{arith}
use lib.Dec.{ltb, eqb}
use borrow.Author.Tests.{ltb-true, ltb-false, eqb-true, eqb-false}

-- ---- cases ----

pub bool_cases : (b : Bool) → (b ≡ true) ⊎ (b ≡ false)
bool_cases true = inl refl
bool_cases false = inr refl

pub lt_cases : (n m : ℕ) → (n < m) ⊎ (m ≤ n)
lt_cases n m = go (bool_cases (ltb n m))
  where
    go : (ltb n m ≡ true) ⊎ (ltb n m ≡ false) → (n < m) ⊎ (m ≤ n)
    go (inl e) = inl (ltb-true n m e)
    go (inr e) = inr (ltb-false n m e)

pub eq_cases : (n m : ℕ) → (n ≡ m) ⊎ (n ≢ m)
eq_cases n m = go (bool_cases (eqb n m))
  where
    go : (eqb n m ≡ true) ⊎ (eqb n m ≡ false) → (n ≡ m) ⊎ (n ≢ m)
    go (inl e) = inl (eqb-true n m e)
    go (inr e) = inr (eqb-false n m e)

-- ---- tests joined ----

pub true_is_not_false : {A : Type 0} {b : Bool} → b ≡ true → b ≡ false → A
true_is_not_false p q = absurd (let z : ◌≡◌ {A = ℕ} 0 1 = cc in omega arith)

pub and_left : (a b : Bool) → (a && b) ≡ true → a ≡ true
and_left true b e = refl
and_left false b e = e

pub and_right : (a b : Bool) → (a && b) ≡ true → b ≡ true
and_right true b e = e
and_right false b e = true_is_not_false e refl

pub and_both : {a b : Bool} → a ≡ true → b ≡ true → (a && b) ≡ true
and_both p q = rw (p, q)

pub and_false_left : {a : Bool} (b : Bool) → a ≡ false → (a && b) ≡ false
and_false_left b p = rw p

pub and_false_right : (a : Bool) {b : Bool} → b ≡ false → (a && b) ≡ false
and_false_right true p = p
and_false_right false p = refl

-- the second test of a conjunction matters only where the first holds
pub and_ext : (a : Bool) {b c : Bool} → (a ≡ true → b ≡ c) → (a && b) ≡ (a && c)
and_ext true h = h refl
and_ext false h = refl

pub or_left : {a : Bool} (b : Bool) → a ≡ true → (a || b) ≡ true
or_left b p = rw p

pub or_right : (a : Bool) {b : Bool} → b ≡ true → (a || b) ≡ true
or_right true p = refl
or_right false p = p

pub or_neither : {a b : Bool} → a ≡ false → b ≡ false → (a || b) ≡ false
or_neither p q = rw (p, q)

pub or_false_left : (a b : Bool) → (a || b) ≡ false → a ≡ false
or_false_left true b e = e
or_false_left false b e = refl

pub or_false_right : (a b : Bool) → (a || b) ≡ false → b ≡ false
or_false_right true b e = true_is_not_false refl e
or_false_right false b e = e

pub or_cases : (a b : Bool) → (a || b) ≡ true → (a ≡ true) ⊎ (b ≡ true)
or_cases true b e = inl refl
or_cases false b e = inr e

-- ---- choices ----

module _ {A : Type 0} where
  pub cond_true : {b : Bool} (x y : A) → b ≡ true → cond b x y ≡ x
  cond_true x y p = rw p

  pub cond_false : {b : Bool} (x y : A) → b ≡ false → cond b x y ≡ y
  cond_false x y p = rw p

  -- what holds of both ways of a choice, each known by its test
  pub cond_cases : (P : A → Type 0) (b : Bool) {x y : A} → (b ≡ true → P x) → (b ≡ false → P y) →
      P (cond b x y)
  cond_cases P true p q = p refl
  cond_cases P false p q = q refl

-- ---- options ----

pub none_is_not_some : {A B : Type 0} (x : B) → none ≡ some x → A
none_is_not_some x e = absurd (let z : ◌≡◌ {A = ℕ} 0 1 = cc in omega arith)

pub some_inj : {B : Type 0} (x y : B) → some x ≡ some y → x ≡ y
some_inj x y e = cc
