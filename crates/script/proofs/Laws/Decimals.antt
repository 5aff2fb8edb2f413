-- Laws of a number in decimal: both ways of its definition, length, and that its digits spell it. Assumes
-- nothing.
use mathlib.Core.Path.{◌≡◌, sym, ap, ◌∙◌}
use mathlib.Core.Logic.{◌⊎◌, inl, inr}
use mathlib.Core.Bool.{true}
use mathlib.Core.List.{[], ◌∷◌, ◌++◌}
use Prim.Native.Nat.{ℕ, zero, suc, ◌+◌, ◌/◌, ◌%◌, ◌^◌, ◌≤◌, ◌<◌}
use native.Mathlib.Omega.{arith}
use lib.ListN.{length, set, length-append}
use borrow.Author.Tests.{lt-ltb, le-ltb}
use Rattle.laws.proofs.Cases.{lt_cases, cond_true, cond_false}
use Rattle.script.specs.Texts.{Text, digit_byte, is_digits, value_of_digits, value_after, decimal_within}
use Rattle.script.specs.Texts.{decimal, Put}
use Rattle.script.proofs.Laws.Digits.{is_digits_one, is_digits-append, digits_value_snoc}
use Rattle.script.proofs.Laws.Texts.{put_one, put_snoc}

-- ---- equations ----

within_small : (most value : ℕ) → value < 10 → decimal_within (suc most) value ≡ digit_byte value ∷ []
unfolding decimal_within
within_small most value h = cond_true _ _ (lt-ltb value 10 h)

within_large :
    (most value : ℕ) → 10 ≤ value →
    decimal_within (suc most) value ≡ decimal_within most (value / 10) ++ (digit_byte (value % 10) ∷ [])
unfolding decimal_within
within_large most value h = cond_false _ _ (le-ltb value 10 h)

-- any bound above the number will do
within_any :
    (most more value : ℕ) → value < most → value < more →
    decimal_within most value ≡ decimal_within more value
within_any zero more value h k = absurd (omega arith)
within_any (suc most) zero value h k = absurd (omega arith)
within_any (suc most) (suc more) value h k =
    by (lt_cases value 10) (λ l. within_any most more (value / 10) (omega arith) (omega arith))
  where
    by :
        (value < 10) ⊎ (10 ≤ value) →
        (10 ≤ value → decimal_within most (value / 10) ≡ decimal_within more (value / 10)) →
        decimal_within (suc most) value ≡ decimal_within (suc more) value
    by (inl l) later = within_small most value l ∙ sym (within_small more value l)
    by (inr l) later =
        within_large most value l ∙ ap (λ (xs : Text). xs ++ (digit_byte (value % 10) ∷ [])) (later l)
        ∙ sym (within_large more value l)

decimal-small : (value : ℕ) → value < 10 → decimal value ≡ digit_byte value ∷ []
unfolding decimal
decimal-small value h = within_small value value h

decimal_large : (value : ℕ) → 10 ≤ value → decimal value ≡ decimal (value / 10) ++
    (digit_byte (value % 10) ∷ [])
unfolding decimal
decimal_large value h =
    within_large value value h
    ∙ ap (λ (xs : Text). xs ++ (digit_byte (value % 10) ∷ []))
    (within_any value (suc (value / 10)) (value / 10) (omega arith) (omega arith))

-- ---- length ----

length-decimal_large : (value : ℕ) → 10 ≤ value →
    length (decimal value) ≡ length (decimal (value / 10)) + 1
length-decimal_large value h =
    ap length (decimal_large value h) ∙ length-append (decimal (value / 10)) (digit_byte (value % 10) ∷ [])

-- a number below a power of ten has no more digits than that
pub length-decimal : (most value : ℕ) → value < 10 ^ suc most → length (decimal value) ≤ suc most
length-decimal zero value h = omega (arith, ap length (decimal-small value (omega arith)))
length-decimal (suc most) value h =
    by (lt_cases value 10) (λ l. length-decimal most (value / 10) (omega arith))
  where
    by :
        (value < 10) ⊎ (10 ≤ value) → (10 ≤ value → length (decimal (value / 10)) ≤ suc most) →
        length (decimal value) ≤ suc (suc most)
    by (inl l) later = omega (arith, ap length (decimal-small value l))
    by (inr l) later = omega (arith, length-decimal_large value l, later l)

-- ---- the digits spell the number ----

-- what holds of one digit, and of one more digit after a tenth of the number, holds of every number
module _ (P : ℕ → Text → Type 0)
    (one : (value : ℕ) → value < 10 → P value (digit_byte value ∷ []))
    (more : (value : ℕ) (bytes : Text) → P (value / 10) bytes →
    P value (bytes ++ (digit_byte (value % 10) ∷ []))) where
  within_induction : (most value : ℕ) → value < most → P value (decimal_within most value)
  within_induction zero value h = absurd (omega arith)
  within_induction (suc most) value h =
      by (lt_cases value 10) (λ l. within_induction most (value / 10) (omega arith))
    where
      by :
          (value < 10) ⊎ (10 ≤ value) → (10 ≤ value → P (value / 10) (decimal_within most (value / 10))) →
          P value (decimal_within (suc most) value)
      by (inl l) later = rw (within_small most value l) (one value l)
      by (inr l) later =
          rw (within_large most value l) (more value (decimal_within most (value / 10)) (later l))

pub is_digits-decimal : (value : ℕ) → is_digits (decimal value) ≡ true
unfolding decimal
is_digits-decimal value =
    within_induction (λ (n : ℕ) (bytes : Text). is_digits bytes ≡ true)
    (λ n h. is_digits_one (digit_byte n) (omega arith) (omega arith))
    (λ n bytes e. is_digits-append bytes (digit_byte (n % 10) ∷ []) e
    (is_digits_one (digit_byte (n % 10)) (omega arith) (omega arith)))
    (suc value) value (omega arith)

pub digits_value-decimal : (value : ℕ) → value_of_digits (decimal value) ≡ value
unfolding decimal value_after
digits_value-decimal value =
    within_induction (λ (n : ℕ) (bytes : Text). value_of_digits bytes ≡ n)
    (λ n h. rw (digits_value_snoc [] (digit_byte n)) (omega arith))
    (λ n bytes e. digits_value_snoc bytes (digit_byte (n % 10)) ∙ omega (arith, e))
    (suc value) value (omega arith)

-- ---- in a buffer ----

module _ (value : ℕ) (out : Text) (at : ℕ) (fits : at + length (decimal value) ≤ length out) where
  pub decimal_fits-small : value < 10 → at < length out
  decimal_fits-small h = omega (arith, ap length (decimal-small value h))

  pub put_small : value < 10 → Put (decimal value) out at (set out at (digit_byte value)) (at + 1)
  put_small h = rw (decimal-small value h) (put_one out at (digit_byte value) (decimal_fits-small h))

  module _ (large : 10 ≤ value) where
    pub decimal_fits_large : at + length (decimal (value / 10)) < length out
    decimal_fits_large = omega (arith, length-decimal_large value large)

    pub put_large :
        (after : Text) (last : ℕ) → Put (decimal (value / 10)) out at after last →
        Put (decimal value) out at (set after last (digit_byte (value % 10))) (last + 1)
    put_large after last put =
        rw (decimal_large value large)
        (put_snoc (decimal (value / 10)) out at after last put decimal_fits_large (digit_byte (value % 10)))
