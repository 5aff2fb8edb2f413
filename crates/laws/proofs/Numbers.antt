-- Laws of little-endian numbers: length, zero, four bytes, both round trips, bound. Assumes nothing.
use mathlib.Core.Path.{◌≡◌, refl, ap, ap₂, ◌∙◌}
use mathlib.Core.List.{List, [], ◌∷◌}
use Prim.Native.Nat.{ℕ, zero, suc, ◌+◌, ◌*◌, ◌/◌, ◌%◌, ◌^◌, ◌<◌}
use native.Mathlib.Omega.{arith}
use lib.ListN.{length, get_or}
use Rattle.laws.specs.Numbers.{number_of, little_endian}

-- ---- length ----

pub length-little_endian : (size value : ℕ) → length (little_endian size value) ≡ size
unfolding little_endian
length-little_endian zero value = refl
length-little_endian (suc size) value = ap suc (length-little_endian size (value / 256))

-- ---- equations ----

-- four bytes
pub number_of_four :
    (first second third fourth : ℕ) →
    number_of (first ∷ second ∷ third ∷ fourth ∷ []) ≡ first + 256 * (second + 256 * (third + 256 * fourth))
unfolding number_of
number_of_four first second third fourth = omega arith

pub little_endian_four :
    (value : ℕ) →
    little_endian 4 value ≡
    value % 256 ∷ value / 256 % 256 ∷ value / 256 / 256 % 256 ∷ value / 256 / 256 / 256 % 256 ∷ []
unfolding little_endian
little_endian_four value = refl

-- bytes that are all 0
pub number_of_zeros : (bytes : List ℕ) → ((index : ℕ) → get_or bytes index 0 ≡ 0) → number_of bytes ≡ 0
unfolding number_of
number_of_zeros [] h = refl
number_of_zeros (byte ∷ bytes) h = rw (h 0, number_of_zeros bytes (λ index. h (suc index)))

-- ---- round trips ----

pub number_of-little_endian : (size value : ℕ) → value < 256 ^ size → number_of (little_endian size value) ≡ value
unfolding number_of little_endian
number_of-little_endian zero value h = omega arith
number_of-little_endian (suc size) value h =
    let l : value / 256 < 256 ^ size = omega arith in
    rw (number_of-little_endian size (value / 256) l) (omega arith)

pub little_endian-number_of :
    (bytes : List ℕ) → ((index : ℕ) → get_or bytes index 0 < 256) →
    little_endian (length bytes) (number_of bytes) ≡ bytes
unfolding number_of little_endian
little_endian-number_of [] h = refl
little_endian-number_of (byte ∷ bytes) h =
    let b : byte < 256 = h 0 in
    let low : (byte + 256 * number_of bytes) % 256 ≡ byte = omega arith in
    let high : (byte + 256 * number_of bytes) / 256 ≡ number_of bytes = omega arith in
    ap₂ {C = List ℕ} (λ (z : ℕ) (zs : List ℕ). z ∷ zs) low
    (ap (little_endian (length bytes)) high ∙ little_endian-number_of bytes (λ index. h (suc index)))

-- ---- bound ----

pub number_of_lt : (bytes : List ℕ) → ((index : ℕ) → get_or bytes index 0 < 256) →
    number_of bytes < 256 ^ length bytes
unfolding number_of
number_of_lt [] h = omega arith
number_of_lt (byte ∷ bytes) h =
    let t : number_of bytes < 256 ^ length bytes = number_of_lt bytes (λ index. h (suc index)) in
    let b : byte < 256 = h 0 in
    let r : byte + 256 * number_of bytes < 256 ^ suc (length bytes) = omega arith in
    r
