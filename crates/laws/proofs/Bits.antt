-- Laws of bits: of a byte, with a bit's weight, then of a list of bytes; equations, read after write at the
-- same and at another place, lengths, zeros. Assumes nothing.
use mathlib.Core.Path.{◌≡◌, refl, sym, ap, ◌∙◌}
use mathlib.Core.Logic.{◌≢◌, ◌⊎◌, inl, inr}
use mathlib.Core.Bool.{Bool, true, false}
use mathlib.Core.List.{List}
use Prim.Native.Nat.{ℕ, zero, suc, ◌+◌, ◌-◌, ◌/◌, ◌%◌, ◌^◌, ◌≤◌, ◌<◌, ◌*◌}
use native.Mathlib.Numerals.{one-add}
use native.Mathlib.Nat.{zero-div}
use native.Mathlib.Omega.{arith}
use lib.ListN.{replicate, length, get_or, set, length-set}
use lib.Dec.{eqb}
use lib.Pow.{shr-shr, shl_exact}
use lib.Seq.{get_or-set_same, get_or-set_other}
use borrow.Author.Tests.{eq-eqb, ne_eqb, eqb-true, eqb-false}
use Rattle.laws.specs.Bits.{bit_of, with_bit, bit_at, set_bit}
use Rattle.laws.proofs.Cases.{bool_cases, eq_cases}
use Rattle.laws.proofs.Lists.{get_d_zeros}

-- ---- the digit of a bit ----

abbrev digit_of : (byte place : ℕ) → ℕ
digit_of byte place = byte / 2 ^ place % 2

digit_of_suc : (byte place : ℕ) → digit_of byte (suc place) ≡ digit_of (byte / 2) place
digit_of_suc byte place =
    ap (λ (n : ℕ). n % 2) (ap (λ (n : ℕ). byte / 2 ^ n) (sym (one-add place)) ∙ sym (shr-shr byte 1 place))

digit_of-set_same : (byte place : ℕ) → digit_of byte place ≡ 0 → digit_of (byte + 2 ^ place) place ≡ 1
digit_of-set_same byte zero h = omega arith
digit_of-set_same byte (suc place) h =
    let e : (byte + 2 ^ suc place) / 2 ≡ byte / 2 + 2 ^ place = omega arith in
    digit_of_suc (byte + 2 ^ suc place) place ∙ ap (λ (n : ℕ). digit_of n place) e
    ∙ digit_of-set_same (byte / 2) place (sym (digit_of_suc byte place) ∙ h)

digit_of-set_other :
    (byte place other : ℕ) → digit_of byte place ≡ 0 → other ≢ place →
    digit_of (byte + 2 ^ place) other ≡ digit_of byte other
digit_of-set_other byte zero zero h ne = absurd (ne refl)
digit_of-set_other byte zero (suc other) h ne =
    let e : (byte + 1) / 2 ≡ byte / 2 = omega arith in
    digit_of_suc (byte + 1) other ∙ ap (λ (n : ℕ). digit_of n other) e ∙ sym (digit_of_suc byte other)
digit_of-set_other byte (suc place) zero h ne = omega arith
digit_of-set_other byte (suc place) (suc other) h ne =
    let e : (byte + 2 ^ suc place) / 2 ≡ byte / 2 + 2 ^ place = omega arith in
    digit_of_suc (byte + 2 ^ suc place) other ∙ ap (λ (n : ℕ). digit_of n other) e
    ∙ digit_of-set_other (byte / 2) place other (sym (digit_of_suc byte place) ∙ h) (λ z. ne (ap suc z))
    ∙ sym (digit_of_suc byte other)

digit_of_le : (byte place : ℕ) → digit_of byte place ≡ 1 → 2 ^ place ≤ byte
digit_of_le byte zero h = omega arith
digit_of_le byte (suc place) h =
    let l : 2 ^ place ≤ byte / 2 = digit_of_le (byte / 2) place (sym (digit_of_suc byte place) ∙ h) in
    omega arith

digit_of_clear_same : (byte place : ℕ) → digit_of byte place ≡ 1 → digit_of (byte - 2 ^ place) place ≡ 0
digit_of_clear_same byte zero h = omega arith
digit_of_clear_same byte (suc place) h =
    let l : 2 ^ suc place ≤ byte = digit_of_le byte (suc place) h in
    let e : (byte - 2 ^ suc place) / 2 ≡ byte / 2 - 2 ^ place = omega arith in
    digit_of_suc (byte - 2 ^ suc place) place ∙ ap (λ (n : ℕ). digit_of n place) e
    ∙ digit_of_clear_same (byte / 2) place (sym (digit_of_suc byte place) ∙ h)

digit_of_clear_other :
    (byte place other : ℕ) → digit_of byte place ≡ 1 → other ≢ place →
    digit_of (byte - 2 ^ place) other ≡ digit_of byte other
digit_of_clear_other byte zero zero h ne = absurd (ne refl)
digit_of_clear_other byte zero (suc other) h ne =
    let e : (byte - 1) / 2 ≡ byte / 2 = omega arith in
    digit_of_suc (byte - 1) other ∙ ap (λ (n : ℕ). digit_of n other) e ∙ sym (digit_of_suc byte other)
digit_of_clear_other byte (suc place) zero h ne =
    let l : 2 ^ suc place ≤ byte = digit_of_le byte (suc place) h in
    omega arith
digit_of_clear_other byte (suc place) (suc other) h ne =
    let l : 2 ^ suc place ≤ byte = digit_of_le byte (suc place) h in
    let e : (byte - 2 ^ suc place) / 2 ≡ byte / 2 - 2 ^ place = omega arith in
    digit_of_suc (byte - 2 ^ suc place) other ∙ ap (λ (n : ℕ). digit_of n other) e
    ∙ digit_of_clear_other (byte / 2) place other (sym (digit_of_suc byte place) ∙ h) (λ z. ne (ap suc z))
    ∙ sym (digit_of_suc byte other)

digit_of_lt : (byte place : ℕ) → digit_of byte place < 2
digit_of_lt byte place = omega arith

-- ---- a bit of a byte ----

pub bit_of_is : (place byte : ℕ) → bit_of place byte ≡ eqb (byte / 2 ^ place % 2) 1
unfolding bit_of
bit_of_is place byte = refl

one_of_bit_of : (place byte : ℕ) → bit_of place byte ≡ true → digit_of byte place ≡ 1
unfolding bit_of
one_of_bit_of place byte e = eqb-true (digit_of byte place) 1 e

zero_of-bit_of : (place byte : ℕ) → bit_of place byte ≡ false → digit_of byte place ≡ 0
unfolding bit_of
zero_of-bit_of place byte e = omega (arith, digit_of_lt byte place, eqb-false (digit_of byte place) 1 e)

-- ---- a bit's weight ----

-- one shifted to a place of a byte
pub weight_is : (place : ℕ) → place < 8 → 1 * 2 ^ place % 256 ≡ 2 ^ place
weight_is place h = omega (arith, shl_exact {a = 1} 1 place 8 (omega arith) (omega arith))

-- a clear bit leaves room for its weight
room_of_digit_of :
    (size place byte : ℕ) → place < size → byte < 2 ^ size → digit_of byte place ≡ 0 →
    byte + 2 ^ place < 2 ^ size
room_of_digit_of zero place byte h k e = absurd (omega arith)
room_of_digit_of (suc size) zero byte h k e = omega arith
room_of_digit_of (suc size) (suc place) byte h k e =
    omega (
      arith,
      room_of_digit_of size place (byte / 2) (omega arith) (omega arith) (sym (digit_of_suc byte place) ∙ e),
    )

pub room_of_bit_of : (place byte : ℕ) → place < 8 → byte < 256 → bit_of place byte ≡ false →
    byte + 2 ^ place < 256
room_of_bit_of place byte h k e = room_of_digit_of 8 place byte h k (zero_of-bit_of place byte e)

-- a set bit has its weight in the byte
pub weight_le_of_bit_of : (place byte : ℕ) → bit_of place byte ≡ true → 2 ^ place ≤ byte
weight_le_of_bit_of place byte e = digit_of_le byte place (one_of_bit_of place byte e)

-- ---- a byte with a bit set or cleared ----

-- the four ways of with_bit
pub with_bit-set : (place byte : ℕ) → bit_of place byte ≡ false → with_bit place true byte ≡ byte + 2 ^ place
unfolding with_bit
with_bit-set place byte e = rw e

pub with_bit-set_already : (place byte : ℕ) → bit_of place byte ≡ true → with_bit place true byte ≡ byte
unfolding with_bit
with_bit-set_already place byte e = rw e

pub with_bit_clear : (place byte : ℕ) → bit_of place byte ≡ true → with_bit place false byte ≡ byte - 2 ^ place
unfolding with_bit
with_bit_clear place byte e = rw e

pub with_bit_clear_already : (place byte : ℕ) → bit_of place byte ≡ false → with_bit place false byte ≡ byte
unfolding with_bit
with_bit_clear_already place byte e = rw e

bit_of-with_bit_same : (place : ℕ) (is_set : Bool) (byte : ℕ) →
    bit_of place (with_bit place is_set byte) ≡ is_set
unfolding bit_of
bit_of-with_bit_same place is_set byte = by is_set (bool_cases (bit_of place byte))
  where
    by : (is_set : Bool) → (bit_of place byte ≡ true) ⊎ (bit_of place byte ≡ false) →
        bit_of place (with_bit place is_set byte) ≡ is_set
    by true (inl e) = ap (bit_of place) (with_bit-set_already place byte e) ∙ e
    by true (inr e) =
        ap (bit_of place) (with_bit-set place byte e)
        ∙ eq-eqb (digit_of (byte + 2 ^ place) place) 1
        (digit_of-set_same byte place (zero_of-bit_of place byte e))
    by false (inl e) =
        ap (bit_of place) (with_bit_clear place byte e)
        ∙ ne_eqb (digit_of (byte - 2 ^ place) place) 1
        (λ z. omega (arith, digit_of_clear_same byte place (one_of_bit_of place byte e)))
    by false (inr e) = ap (bit_of place) (with_bit_clear_already place byte e) ∙ e

bit_of-with_bit_other :
    (place other : ℕ) (is_set : Bool) (byte : ℕ) → other ≢ place →
    bit_of other (with_bit place is_set byte) ≡ bit_of other byte
unfolding bit_of
bit_of-with_bit_other place other is_set byte ne = by is_set (bool_cases (bit_of place byte))
  where
    by : (is_set : Bool) → (bit_of place byte ≡ true) ⊎ (bit_of place byte ≡ false) →
        bit_of other (with_bit place is_set byte) ≡ bit_of other byte
    by true (inl e) = ap (bit_of other) (with_bit-set_already place byte e)
    by true (inr e) =
        ap (bit_of other) (with_bit-set place byte e)
        ∙ ap (λ (n : ℕ). eqb n 1) (digit_of-set_other byte place other (zero_of-bit_of place byte e) ne)
    by false (inl e) =
        ap (bit_of other) (with_bit_clear place byte e)
        ∙ ap (λ (n : ℕ). eqb n 1) (digit_of_clear_other byte place other (one_of_bit_of place byte e) ne)
    by false (inr e) = ap (bit_of other) (with_bit_clear_already place byte e)

-- ---- a bit of a list of bytes ----

pub bit_at_is : (place : ℕ) (bytes : List ℕ) → bit_at place bytes ≡ bit_of (place % 8) (get_or bytes (place / 8) 0)
unfolding bit_at
bit_at_is place bytes = refl

pub set_bit_is :
    (place : ℕ) (is_set : Bool) (bytes : List ℕ) →
    set_bit place is_set bytes ≡
    set bytes (place / 8) (with_bit (place % 8) is_set (get_or bytes (place / 8) 0))
unfolding set_bit
set_bit_is place is_set bytes = refl

pub length-set_bit : (place : ℕ) (is_set : Bool) (bytes : List ℕ) →
    length (set_bit place is_set bytes) ≡ length bytes
unfolding set_bit
length-set_bit place is_set bytes = length-set bytes (place / 8) _

pub bit_at-set_bit_same :
    (place : ℕ) (is_set : Bool) (bytes : List ℕ) → place / 8 < length bytes →
    bit_at place (set_bit place is_set bytes) ≡ is_set
unfolding bit_at set_bit
bit_at-set_bit_same place is_set bytes h =
    ap (bit_of (place % 8)) (get_or-set_same bytes (place / 8)
    (with_bit (place % 8) is_set (get_or bytes (place / 8) 0)) 0 h)
    ∙ bit_of-with_bit_same (place % 8) is_set (get_or bytes (place / 8) 0)

pub bit_at-set_bit_other :
    (place other : ℕ) (is_set : Bool) (bytes : List ℕ) → place / 8 < length bytes → other ≢ place →
    bit_at other (set_bit place is_set bytes) ≡ bit_at other bytes
unfolding bit_at set_bit
bit_at-set_bit_other place other is_set bytes h ne = by (eq_cases (other / 8) (place / 8))
  where
    byte : ℕ
    byte = with_bit (place % 8) is_set (get_or bytes (place / 8) 0)

    by : (other / 8 ≡ place / 8) ⊎ (other / 8 ≢ place / 8) →
        bit_of (other % 8) (get_or (set bytes (place / 8) byte) (other / 8) 0) ≡
        bit_of (other % 8) (get_or bytes (other / 8) 0)
    by (inl e) =
        let apart : other % 8 ≢ place % 8 = omega arith in
        ap (λ (n : ℕ). bit_of (other % 8) (get_or (set bytes (place / 8) byte) n 0)) e
        ∙ ap (bit_of (other % 8)) (get_or-set_same bytes (place / 8) byte 0 h)
        ∙ bit_of-with_bit_other (place % 8) (other % 8) is_set (get_or bytes (place / 8) 0) apart
        ∙ ap (λ (n : ℕ). bit_of (other % 8) (get_or bytes n 0)) (sym e)
    by (inr e) = ap (bit_of (other % 8)) (get_or-set_other bytes (place / 8) (other / 8) byte 0 e)

-- zeros have no bit
pub bit_at_zeros : (place size : ℕ) → bit_at place (replicate size 0) ≡ false
unfolding bit_at bit_of
bit_at_zeros place size = rw (get_d_zeros size (place / 8), zero-div (2 ^ (place % 8)))
