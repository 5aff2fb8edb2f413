-- Tests that decide what holds: orders and equations, negations, disjunctions and conjunctions. Assumes
-- nothing.
use mathlib.Core.Path.{◌≡◌}
use mathlib.Core.Logic.{◌⊎◌, inl, inr, ⊎_elim}
use mathlib.Core.Bool.{Bool, true, false, not, ◌&&◌, ◌||◌}
use Prim.Native.Nat.{ℕ, ◌≤◌, ◌<◌}
use native.Mathlib.Nat.{not-le_of_lt}
use lib.Dec.{ltb, leb, eqb}
use borrow.Author.Tests.{ltb-true, ltb-false, leb-true, leb-false, eqb-true, eqb-false, not-true, not-false}
use Rattle.laws.proofs.Cases.{and_left, and_right, bool_cases, or_cases, or_false_left, or_false_right}

-- the test is true exactly if this holds
pub record Decides (test : Bool) (Holds : Type 0) : Type 0 where
  pub holds : test ≡ true → Holds
  pub fails : test ≡ false → Holds → ⊥

pub decides_lt : (n m : ℕ) → Decides (ltb n m) (n < m)
decides_lt n m = record { holds = ltb-true n m; fails = λ e h. not-le_of_lt h (ltb-false n m e) }

pub decides_le : (n m : ℕ) → Decides (leb n m) (n ≤ m)
decides_le n m = record { holds = leb-true n m; fails = λ e h. not-le_of_lt (leb-false n m e) h }

pub decides_eq : (n m : ℕ) → Decides (eqb n m) (n ≡ m)
decides_eq n m = record { holds = eqb-true n m; fails = eqb-false n m }

module _ {a : Bool} {A : Type 0} (d : Decides a A) where
  -- the test of what holds
  pub test_of : A → a ≡ true
  test_of h = ⊎_elim (λ e. e) (λ e. absurd (d.fails e h)) (bool_cases a)

  pub decides_not : Decides (not a) (A → ⊥)
  decides_not =
      record {
        holds = λ e. d.fails (not-true a e);
        fails = λ e f. f (d.holds (not-false a e));
      }

  pub decides_same : {B : Type 0} → (A → B) → (B → A) → Decides a B
  decides_same to from = record { holds = λ e. to (d.holds e); fails = λ e h. d.fails e (from h) }

  module _ {b : Bool} {B : Type 0} (q : Decides b B) where
    pub decides_or : Decides (a || b) (A ⊎ B)
    decides_or =
        record {
          holds = λ e. ⊎_elim (λ p. inl (d.holds p)) (λ p. inr (q.holds p)) (or_cases a b e);
          fails = λ e. ⊎_elim (d.fails (or_false_left a b e)) (q.fails (or_false_right a b e));
        }

    pub decides_and : Decides (a && b) (A × B)
    decides_and =
        record {
          holds = λ e. (d.holds (and_left a b e), q.holds (and_right a b e));
          fails = λ e h. q.fails (rw (test_of h.0) at e) h.1;
        }

    -- one of two tests fails just if not both hold
    pub decides_not_and : Decides (not (a && b)) ((A → ⊥) ⊎ (B → ⊥))
    decides_not_and =
        record {
          holds = λ e.
              ⊎_elim
              (λ p. inr (λ h. decides_and.fails (not-true (a && b) e) (d.holds p, h)))
              (λ p. inl (d.fails p)) (bool_cases a);
          fails = λ e either.
              let both = decides_and.holds (not-false (a && b) e) in
              ⊎_elim (λ f. f both.0) (λ f. f both.1) either;
        }
