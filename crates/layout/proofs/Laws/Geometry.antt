-- Laws of the numbers that a bounded geometry counts with: bounds that keep them inside a machine number, and
-- the powers of the tree. Assumes nothing.
use mathlib.Core.Path.{◌≡◌}
use Prim.Native.Nat.{ℕ, ◌*◌, ◌-◌, ◌≤◌}
use native.Mathlib.Nat.{mul-le-mul}
use native.Mathlib.Omega.{arith}
use Rattle.laws.proofs.Division.{pow_one, pow_three}
use Rattle.model.specs.Geometry.{Geometry, Fits, fanout}
use Rattle.model.specs.Geometry.{tree_capacity}
use Rattle.layout.specs.Geometries.{Bounded}

-- ---- bounded geometries ----

pub bounded_of_fits : (g : Geometry) → Fits g → Bounded g
bounded_of_fits g f =
    record {
      size_low = f.size_low;
      size_high = f.size_high;
      height_low = f.height_low;
      height_high = f.height_high;
    }

-- ---- bounds ----

module _ (g : Geometry) (b : Bounded g) where
  -- ---- the tree ----

  pub fanout_square_le : fanout g * fanout g ≤ 1048576
  fanout_square_le =
      let f : fanout g ≤ 1024 = omega arith in
      omega (arith, mul-le-mul f f)

  pub fanout_cube_le : fanout g * fanout g * fanout g ≤ 1073741824
  fanout_cube_le =
      let f : fanout g ≤ 1024 = omega arith in
      omega (arith, mul-le-mul fanout_square_le f)

  -- all but one of the fanout's numbers, so many times
  pub leaf_times_le : (n most : ℕ) → n ≤ most → (fanout g - 1) * n ≤ 1023 * most
  leaf_times_le n most h =
      let l : fanout g - 1 ≤ 1023 = omega arith in
      mul-le-mul l h

  pub tree_capacity_two : g.height ≡ 2 → (fanout g - 1) * fanout g ≡ tree_capacity g
  tree_capacity_two e = rw (e, pow_one)

  pub tree_capacity_four : g.height ≡ 4 → (fanout g - 1) * (fanout g * fanout g * fanout g) ≡ tree_capacity g
  tree_capacity_four e = rw (e, pow_three)
