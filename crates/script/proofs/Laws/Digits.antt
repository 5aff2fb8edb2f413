-- Laws of digits: joined, one more, one that is none; and a loop that reads them from the front.
-- Assumes nothing.
use mathlib.Core.Path.{◌≡◌, refl, sym, ap, ◌∙◌}
use mathlib.Core.Bool.{true, false}
use mathlib.Core.List.{[], ◌∷◌, ◌++◌}
use Prim.Native.Nat.{ℕ, zero, suc, ◌+◌, ◌*◌, ◌-◌, ◌^◌, ◌≤◌, ◌<◌}
use native.Mathlib.Nat.{pow-le-pow_right}
use native.Mathlib.Numerals.{add-one}
use native.Mathlib.Omega.{arith}
use lib.ListN.{length, get_or, take}
use lib.Seq.{take-suc, take_all}
use borrow.Author.Tests.{le-leb}
use Rattle.laws.proofs.Cases.{and_both, and_left, and_right, and_false_left, and_false_right}
use Rattle.script.specs.Texts.{Text, digit_byte, is_digit, is_digits, value_after, value_of_digits}

-- ---- digits joined ----

pub is_digits-append :
    (xs ys : Text) → is_digits xs ≡ true → is_digits ys ≡ true → is_digits (xs ++ ys) ≡ true
unfolding is_digits
is_digits-append [] ys p q = q
is_digits-append (byte ∷ xs) ys p q =
    and_both (and_left (is_digit byte) (is_digits xs) p)
    (is_digits-append xs ys (and_right (is_digit byte) (is_digits xs) p) q)

pub is_digits_one : (byte : ℕ) → digit_byte 0 ≤ byte → byte ≤ digit_byte 9 → is_digits (byte ∷ []) ≡ true
unfolding is_digits
is_digits_one byte l h =
    and_both (and_both (le-leb (digit_byte 0) byte l) (le-leb byte (digit_byte 9) h)) refl

value_after-append : (before : ℕ) (xs ys : Text) →
    value_after before (xs ++ ys) ≡ value_after (value_after before xs) ys
unfolding value_after
value_after-append before [] ys = refl
value_after-append before (byte ∷ xs) ys = value_after-append (before * 10 + (byte - digit_byte 0)) xs ys

pub digits_value_snoc : (xs : Text) (byte : ℕ) → value_of_digits (xs ++ (byte ∷ [])) ≡
    value_of_digits xs * 10 + (byte - digit_byte 0)
unfolding value_after
digits_value_snoc xs byte = value_after-append 0 xs (byte ∷ [])

-- ---- a byte that is no digit ----

pub is_digits_other :
    (bytes : Text) (index : ℕ) → index < length bytes → is_digit (get_or bytes index 0) ≡ false →
    is_digits bytes ≡ false
unfolding is_digits
is_digits_other [] index h e = absurd (omega arith)
is_digits_other (byte ∷ bytes) zero h e = and_false_left (is_digits bytes) e
is_digits_other (byte ∷ bytes) (suc index) h e =
    and_false_right (is_digit byte) (is_digits_other bytes index (omega arith) e)

-- ---- a loop over digits ----

-- the first bytes are digits, and their number
pub record Digits (bytes : Text) (value index : ℕ) : Type 0 where
  pub digits : is_digits (take index bytes) ≡ true
  pub spelt : value ≡ value_of_digits (take index bytes)
  pub small : value < 10 ^ index

pub digits_none : (bytes : Text) → Digits bytes 0 0
unfolding is_digits value_after
digits_none bytes = record { digits = refl; spelt = refl; small = omega arith }

module _ (bytes : Text) (value index : ℕ) (known : Digits bytes value index) where
  pub digits_more :
      index < length bytes → digit_byte 0 ≤ get_or bytes index 0 → get_or bytes index 0 ≤ digit_byte 9 →
      Digits bytes (value * 10 + (get_or bytes index 0 - digit_byte 0)) (index + 1)
  digits_more h low high = record {
    digits =
        rw (add-one, take-suc bytes index 0) (is_digits-append _ _ known.digits (is_digits_one _ low high));
    spelt =
        rw (add-one, take-suc bytes index 0)
        (ap (λ (n : ℕ). n * 10 + (get_or bytes index 0 - digit_byte 0)) known.spelt
        ∙ sym (digits_value_snoc (take index bytes) (get_or bytes index 0)));
    small = rw add-one (omega (arith, known.small));
  }

  pub digits_all : length bytes ≤ index → is_digits bytes ≡ true
  digits_all h = ap is_digits (sym (take_all index bytes h)) ∙ known.digits

  pub digits_value : length bytes ≤ index → value ≡ value_of_digits bytes
  digits_value h = known.spelt ∙ ap value_of_digits (take_all index bytes h)

  -- room for one more of nine digits
  pub digits_room : index < 9 → value < 10 ^ 8
  digits_room h =
      let l : 10 ^ index ≤ 10 ^ 8 = pow-le-pow_right (omega arith) {i = index} {j = 8} (omega arith) in
      omega (arith, known.small)
