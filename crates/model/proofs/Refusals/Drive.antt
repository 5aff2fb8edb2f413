-- Refusals 1 to 3: a geometry is accepted exactly if it is inside document 01's limits, since the block sizes
-- are the powers of two from 32 to 4,096; and the drive's chain answers its conditions. Assumes nothing.
use mathlib.Core.Path.{◌≡◌, refl}
use mathlib.Core.Logic.{◌≢◌, ◌⊎◌, inl, inr, ⊎_elim}
use mathlib.Core.List.{List, [], ◌∷◌}
use Prim.Native.Nat.{ℕ, zero, suc, ◌+◌, ◌-◌, ◌^◌, ◌≤◌, ◌<◌}
use native.Mathlib.Nat.{pow-le-pow_right}
use native.Mathlib.Omega.{arith}
use lib.ListN.{length}
use lib.Pow.{pow-lt}
use Rattle.laws.proofs.Cases.{lt_cases, eq_cases, true_is_not_false}
use Rattle.laws.proofs.Decides.{Decides, decides_and, decides_eq, decides_le, decides_lt, decides_not}
use Rattle.laws.proofs.Decides.{decides_or, decides_same}
use Rattle.model.specs.Geometry.{Geometry, tree_capacity, block_count, drive_size, block_sizes, is_one_of}
use Rattle.model.specs.Geometry.{is_geometry}
use Rattle.model.specs.Blocks.{Bytes}
use Rattle.model.specs.Layout.{geometry_in, head_in}
use Rattle.model.specs.Refusals.{size_checks, drive_checks}
use Rattle.model.specs.Conditions.{InsideLimits, size_conditions, drive_conditions}
use Rattle.model.proofs.Refusals.Answers.{Judges, judges_append}

-- ---- the block sizes ----

-- so many powers of two from an exponent on
abbrev powers_from : (exponent count : ℕ) → List ℕ
powers_from exponent zero = []
powers_from exponent (suc count) = 2 ^ exponent ∷ powers_from (suc exponent) count

-- a power of two with one of so many exponents from a first one on
record PowerFrom (first count n : ℕ) : Type 0 where
  exponent : ℕ
  low : first ≤ exponent
  high : exponent < first + count
  power : n ≡ 2 ^ exponent

decides_powers_from :
    (n first count : ℕ) → Decides (is_one_of n (powers_from first count)) (PowerFrom first count n)
decides_powers_from n first zero =
    record { holds = λ e. true_is_not_false e refl; fails = λ e p. omega arith }
decides_powers_from n first (suc count) =
    decides_same (decides_or (decides_eq n (2 ^ first)) (decides_powers_from n (suc first) count)) to from
  where
    to : (n ≡ 2 ^ first) ⊎ PowerFrom (suc first) count n → PowerFrom first (suc count) n
    to (inl e) = record { exponent = first; low = omega arith; high = omega arith; power = e }
    to (inr p) = record { exponent = p.exponent; low = omega arith; high = omega arith; power = p.power }

    from : PowerFrom first (suc count) n → (n ≡ 2 ^ first) ⊎ PowerFrom (suc first) count n
    from p = ⊎_elim (λ e. inl (rw e at p.power)) later (eq_cases p.exponent first)
      where
        later : p.exponent ≢ first → (n ≡ 2 ^ first) ⊎ PowerFrom (suc first) count n
        later ne =
            inr (record { exponent = p.exponent; low = omega arith; high = omega arith; power = p.power })

-- a power of two from 32 to 4,096
abbrev IsSize : (n : ℕ) → Type 0
IsSize n = ((exponent : ℕ) × (n ≡ 2 ^ exponent)) × ((32 ≤ n) × (n ≤ 4096))

decides_size : (n : ℕ) → Decides (is_one_of n block_sizes) (IsSize n)
decides_size n = decides_same (decides_powers_from n 5 8) to from
  where
    to : PowerFrom 5 8 n → IsSize n
    to p =
        let last : p.exponent ≤ 12 = omega arith in
        let low : 2 ^ 5 ≤ 2 ^ p.exponent = pow-le-pow_right (omega arith) p.low in
        let high : 2 ^ p.exponent ≤ 2 ^ 12 = pow-le-pow_right (omega arith) last in
        ((p.exponent, p.power), (omega arith, omega arith))

    from : IsSize n → PowerFrom 5 8 n
    from h =
        record {
          exponent = h.0.0;
          low = ⊎_elim (λ l. absurd (omega (arith, pow-lt l))) (λ l. l) (lt_cases h.0.0 5);
          high = ⊎_elim (λ l. l) (λ l. absurd (omega (arith, pow-lt {i = 12} l))) (lt_cases h.0.0 13);
          power = h.0.1;
        }

-- ---- an accepted geometry ----

-- the limits in the order in which they are tested
abbrev Tested : Geometry → Type 0
Tested g =
    (((((((IsSize g.block_size × (2 ≤ g.height)) × (g.height ≤ 4)) ×
    (1 ≤ g.publics)) × (1 ≤ g.hidden)) × (g.publics < g.slots)) × (g.hidden < g.slots)) ×
    (g.hidden ≤ tree_capacity g)) × (block_count g ≤ 2 ^ 31 - 1)

decides_tested : (g : Geometry) → Decides (is_geometry g) (Tested g)
unfolding is_geometry
decides_tested g =
    decides_and
    (decides_and
    (decides_and
    (decides_and
    (decides_and
    (decides_and
    (decides_and
    (decides_and (decides_size g.block_size) (decides_le 2 g.height))
    (decides_le g.height 4))
    (decides_le 1 g.publics))
    (decides_le 1 g.hidden))
    (decides_lt g.publics g.slots))
    (decides_lt g.hidden g.slots))
    (decides_le g.hidden (tree_capacity g)))
    (decides_le (block_count g) (2 ^ 31 - 1))

decides_is_geometry : (g : Geometry) → Decides (is_geometry g) (InsideLimits g)
decides_is_geometry g = decides_same (decides_tested g) to from
  where
    to : Tested g → InsideLimits g
    to ((((((((size, low), high), publics), hidden), more), more-hidden), room), most) =
        record {
          size_power = size.0;
          size_range = size.1;
          height_range = (low, high);
          some_public = publics;
          some_hidden = hidden;
          more_slots = (more, more-hidden);
          tree_room = room;
          addressable = most;
        }

    from : InsideLimits g → Tested g
    from l =
        let low = l.height_range.0 in
        let high = l.height_range.1 in
        let publics = l.some_public in
        let hidden = l.some_hidden in
        let more = l.more_slots.0 in
        let more-hidden = l.more_slots.1 in
        let room = l.tree_room in
        let most = l.addressable in (
          ((((((((l.size_power, l.size_range), low), high), publics), hidden), more), more-hidden), room),
          most,
        )

-- ---- the chains ----

pub judges_size : (bytes : ℕ) (g : Geometry) → Judges (size_checks bytes g) (size_conditions bytes g)
unfolding size_checks
judges_size bytes g = (
  refl,
  decides_or (decides_lt bytes 24) (decides_not (decides_is_geometry g)),
  λ e.
      (refl, decides_not (decides_eq bytes (drive_size g)), λ p. tt),
)

pub judges_drive : (disk : Bytes) → Judges (drive_checks disk) (drive_conditions disk)
unfolding drive_checks
judges_drive disk =
    judges_append (size_checks (length disk) (geometry_in disk)) _
    (size_conditions (length disk) (geometry_in disk)) _
    (judges_size (length disk) (geometry_in disk))
    (λ p. (refl, decides_le (geometry_in disk).slots (head_in disk), λ e. tt))
