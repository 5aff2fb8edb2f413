-- Laws of division and ceilings. Assumes nothing.
use mathlib.Core.Path.{◌≡◌, ◌∙◌}
use Prim.Native.Nat.{ℕ, ◌+◌, ◌*◌, ◌-◌, ◌/◌, ◌^◌, ◌≤◌, ◌<◌}
use native.Mathlib.Nat.{div-add-mod', mod-lt, div-lt_iff_lt-mul, pow-suc, pow-zero, one-mul}
use native.Mathlib.Omega.{arith}
use Rattle.laws.specs.Division.{ceil_div}

-- ---- ceilings ----

-- so many pieces hold the whole
pub ceil_div_covers : (whole piece : ℕ) → 0 < piece → whole ≤ ceil_div whole piece * piece
ceil_div_covers whole piece h =
    omega (arith, div-add-mod' (whole + piece - 1) piece, mod-lt (whole + piece - 1) h)

-- whatever stands in the whole stands in one of its pieces
pub div_ceil_div_lt : (index whole piece : ℕ) → index < whole → 0 < piece → index / piece < ceil_div whole piece
div_ceil_div_lt index whole piece h p =
    (div-lt_iff_lt-mul p).1 (omega (
      arith,
      div-add-mod' (whole + piece - 1) piece,
      mod-lt (whole + piece - 1) p,
    ))

-- ---- small powers ----

pub pow_one : (n : ℕ) → n ^ 1 ≡ n
pow_one n = pow-suc n 0 ∙ rw pow-zero (one-mul n)

pub pow_two : (n : ℕ) → n ^ 2 ≡ n * n
pow_two n = pow-suc n 1 ∙ rw pow_one

pub pow_three : (n : ℕ) → n ^ 3 ≡ n * n * n
pow_three n = pow-suc n 2 ∙ rw pow_two
