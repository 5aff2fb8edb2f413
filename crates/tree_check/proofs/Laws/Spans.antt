-- Bounds of the numbers below an entry, and of so many such spans. Assumes nothing.
use mathlib.Core.Path.{◌≡◌}
use mathlib.Core.Logic.{◌≢◌, ◌⊎◌, inl, inr}
use Prim.Native.Nat.{ℕ, ◌*◌, ◌-◌, ◌^◌, ◌≤◌, ◌<◌}
use native.Mathlib.Nat.{mul-le-mul, pow-zero, mul-one, le_refl}
use native.Mathlib.Omega.{arith}
use Rattle.laws.proofs.Cases.{eq_cases}
use Rattle.laws.proofs.Division.{pow_one, pow_two}
use Rattle.model.specs.Geometry.{Geometry, Fits, fanout}
use Rattle.model.specs.HiddenTree.{span}
use Rattle.model.proofs.Laws.Branches.{span_data, span_first, span_second, span_third}
use Rattle.model.proofs.Laws.Geometry.{fanout_low}
use Rattle.layout.specs.Geometries.{Bounded}
use Rattle.layout.proofs.Laws.Geometry.{bounded_of_fits, fanout_square_le, leaf_times_le}

module _ (g : Geometry) (f : Fits g) (level : ℕ) (low : level < g.height) where
  b : Bounded g
  b = bounded_of_fits g f

  -- at most 1,023 × 1,024²
  pub span_le : span g level ≤ 1072693248
  span_le = by (eq_cases level 0) (eq_cases level 1) (eq_cases level 2)
    where
      by : (level ≡ 0) ⊎ (level ≢ 0) → (level ≡ 1) ⊎ (level ≢ 1) → (level ≡ 2) ⊎ (level ≢ 2) →
          span g level ≤ 1072693248
      by (inl e) p q = omega (arith, span_data g level e)
      by (inr e) (inl p) q = omega (arith, span_first g level p, b.size_high)
      by (inr e) (inr p) (inl q) =
          omega (
            arith,
            span_second g level q,
            leaf_times_le g b (fanout g) 1024 (omega (arith, b.size_high)),
          )
      by (inr e) (inr p) (inr q) =
          omega (
            arith,
            span_third g level (omega (arith, f.height_high)),
            leaf_times_le g b (fanout g * fanout g) 1048576 (fanout_square_le g b),
          )

  -- above the leaves' entries by the power of F
  pub span_above : level ≢ 0 → (fanout g - 1) * fanout g ^ (level - 1) ≡ span g level
  span_above ne = by (eq_cases level 1) (eq_cases level 2)
    where
      by : (level ≡ 1) ⊎ (level ≢ 1) → (level ≡ 2) ⊎ (level ≢ 2) →
          (fanout g - 1) * fanout g ^ (level - 1) ≡ span g level
      by (inl e) q =
          let less : level - 1 ≡ 0 = omega arith in
          rw (less, pow-zero (fanout g), mul-one) (span_first g level e)
      by (inr e) (inl q) =
          let less : level - 1 ≡ 1 = omega arith in rw (less, pow_one (fanout g)) (span_second g level q)
      by (inr e) (inr q) =
          let less : level - 1 ≡ 2 = omega (arith, f.height_high) in
          rw (less, pow_two (fanout g)) (span_third g level (omega (arith, f.height_high)))

  pub power_le : level ≢ 0 → fanout g ^ (level - 1) ≤ 1072693248
  power_le ne =
      let some : 1 ≤ fanout g - 1 = omega (arith, fanout_low g f) in
      omega (arith, mul-le-mul some (le_refl (fanout g ^ (level - 1))), span_above ne, span_le)

  -- so many spans, counted by places of a node: at most 1,024 of them
  pub spans_le : (place count : ℕ) → place < fanout g → count ≡ span g level → place * count ≤ 1098437885952
  spans_le place count h e =
      let most : place ≤ 1024 = omega (arith, b.size_high) in
      let few : count ≤ 1072693248 = omega (arith, span_le) in
      omega (arith, mul-le-mul most few)
