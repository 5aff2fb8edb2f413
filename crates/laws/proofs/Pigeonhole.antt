-- The pigeonhole: the values of a function at so many numbers do not reach more numbers than that.
-- Assumes nothing.
use mathlib.Core.Path.{◌≡◌, sym, ap, ◌∙◌}
use mathlib.Core.Logic.{◌≢◌, ◌⊎◌, inl, inr, ⊎_elim}
use mathlib.Core.Bool.{cond}
use Prim.Native.Nat.{ℕ, zero, suc, ◌≤◌, ◌<◌}
use native.Mathlib.Omega.{arith}
use lib.Dec.{eqb}
use borrow.Author.Tests.{eq-eqb, ne_eqb}
use Rattle.laws.proofs.Cases.{cond_false, cond_true, eq_cases}

-- a value of the function at one of so many numbers
pub record Reached (f : ℕ → ℕ) (bound value : ℕ) : Type 0 where
  pub at : ℕ
  pub below : at < bound
  pub value_is : f at ≡ value

-- the function with one value in the place of another
abbrev swapped : (f : ℕ → ℕ) → (from to : ℕ) → ℕ → ℕ
swapped f from to n = cond (eqb (f n) from) to (f n)

-- without the last number all but the last value are still reached: its value takes the last one's place
reached_below :
    (f : ℕ → ℕ) (bound count : ℕ) → ((value : ℕ) → value < suc count → Reached f (suc bound) value) →
    (value : ℕ) → value < count → Reached (swapped f count (f bound)) bound value
reached_below f bound count h value l = by (h value (omega arith)) (h count (omega arith))
  where
    kept : (n : ℕ) → n < bound → f n ≡ value → Reached (swapped f count (f bound)) bound value
    kept n k e =
        let other : f n ≢ count = omega arith in
        record { at = n; below = k; value_is = cond_false (f bound) (f n) (ne_eqb (f n) count other) ∙ e }

    moved : (n : ℕ) → n < bound → f n ≡ count → f bound ≡ value →
        Reached (swapped f count (f bound)) bound value
    moved n k e p =
        record { at = n; below = k; value_is = cond_true (f bound) (f n) (eq-eqb (f n) count e) ∙ p }

    by : Reached f (suc bound) value → Reached f (suc bound) count →
        Reached (swapped f count (f bound)) bound value
    by r last = ⊎_elim (at_last (eq_cases last.at bound))
        (λ ne. kept r.at (omega arith) r.value_is) (eq_cases r.at bound)
      where
        at_last : (last.at ≡ bound) ⊎ (last.at ≢ bound) → r.at ≡ bound →
            Reached (swapped f count (f bound)) bound value
        at_last (inl z) e =
            let p : value ≡ count = sym r.value_is ∙ ap f (e ∙ sym z) ∙ last.value_is in
            absurd (omega arith)
        at_last (inr ne) e = moved last.at (omega arith) last.value_is (ap f (sym e) ∙ r.value_is)

pub reached_le :
    (count bound : ℕ) (f : ℕ → ℕ) → ((value : ℕ) → value < count → Reached f bound value) → count ≤ bound
reached_le zero bound f h = omega arith
reached_le (suc count) zero f h = let r = h 0 (omega arith) in absurd (omega arith)
reached_le (suc count) (suc bound) f h =
    let rest = reached_below f bound count h in
    let l : count ≤ bound = reached_le count bound (swapped f count (f bound)) rest in
    omega arith
