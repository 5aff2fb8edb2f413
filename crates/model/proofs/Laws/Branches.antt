-- Laws of branches, entries and spans, level by level: which entry a number takes, how many entries a node
-- has, how many numbers stand below one, and a number below an entry by how far it is from the first. Assumes
-- nothing.
use mathlib.Core.Path.{◌≡◌, refl, sym, ◌∙◌}
use mathlib.Core.Logic.{◌≢◌, ⊎_elim}
use mathlib.Core.Bool.{false}
use Prim.Native.Nat.{ℕ, zero, suc, ◌+◌, ◌*◌, ◌-◌, ◌/◌, ◌%◌, ◌≤◌, ◌<◌}
use native.Mathlib.Nat.{div-one, pow-zero, mul-one}
use native.Mathlib.Omega.{arith}
use lib.Dec.{ltb}
use borrow.Author.Tests.{lt-ltb, le-ltb, le-leb, lt-leb}
use Rattle.laws.proofs.Division.{pow_one, pow_two}
use Rattle.laws.proofs.Cases.{lt_cases, and_false_left}
use Rattle.model.specs.Geometry.{Geometry, Fits, fanout}
use Rattle.model.specs.HiddenTree.{branch_at, leaf_of, span}
use Rattle.model.specs.Invariants.{entries_in}
use Rattle.model.specs.TreeCheck.{is_below}

-- ---- branches ----

module _ (g : Geometry) (size : ℕ) (e : size ≡ g.block_size) (number level : ℕ) where
  pub branch_at_leaf : level ≡ 0 → number % (size / 4 - 1) ≡ branch_at g number level
  unfolding branch_at
  branch_at_leaf z = rw (z, e)

  pub branch_at_first : level ≡ 1 → number / (size / 4 - 1) % (size / 4) ≡ branch_at g number level
  unfolding branch_at
  branch_at_first z = rw (z, e, pow-zero (fanout g), div-one (leaf_of g number))

  pub branch_at_second : level ≡ 2 → number / (size / 4 - 1) / (size / 4) % (size / 4) ≡
      branch_at g number level
  unfolding branch_at
  branch_at_second z = rw (z, e, pow_one (fanout g))

  pub branch_at_third :
      level ≡ 3 → number / (size / 4 - 1) / (size / 4 * (size / 4)) % (size / 4) ≡ branch_at g number level
  unfolding branch_at
  branch_at_third z = rw (z, e, pow_two (fanout g))

-- ---- entries ----

pub entries_in_leaf : (g : Geometry) (level : ℕ) → level ≡ 0 → fanout g - 1 ≡ entries_in g level
entries_in_leaf g level e = rw e

pub entries_in-node : (g : Geometry) (level : ℕ) → level ≢ 0 → fanout g ≡ entries_in g level
entries_in-node g zero ne = absurd (ne refl)
entries_in-node g (suc level) ne = refl

pub entries_in_le : (g : Geometry) (level : ℕ) → entries_in g level ≤ fanout g
entries_in_le g zero = omega arith
entries_in_le g (suc level) = omega arith

pub entries_in_high : (g : Geometry) → Fits g → (level : ℕ) → entries_in g level ≤ 1024
entries_in_high g f level = omega (arith, entries_in_le g level, f.size_entries, f.size_high)

-- ---- spans ----

module _ (g : Geometry) (level : ℕ) where
  pub span_data : level ≡ 0 → 1 ≡ span g level
  unfolding span
  span_data e = rw e

  pub span_first : level ≡ 1 → fanout g - 1 ≡ span g level
  unfolding span
  span_first e = rw (e, pow-zero (fanout g), mul-one)

  pub span_second : level ≡ 2 → (fanout g - 1) * fanout g ≡ span g level
  unfolding span
  span_second e = rw (e, pow_one (fanout g))

  pub span_third : level ≡ 3 → (fanout g - 1) * (fanout g * fanout g) ≡ span g level
  unfolding span
  span_third e = rw (e, pow_two (fanout g))

-- ---- numbers below an entry ----

module _ (g : Geometry) (level first number : ℕ) where
  pub is_below_before : number < first → false ≡ is_below g level first number
  is_below_before h = sym (and_false_left (ltb number (first + span g level)) (lt-leb first number h))

  pub is_below_from : first ≤ number → (count : ℕ) → count ≡ span g level →
      ltb (number - first) count ≡ is_below g level first number
  is_below_from h count e =
      rw (le-leb first number h, ← e) (⊎_elim inside past (lt_cases number (first + count)))
    where
      inside : number < first + count → ltb (number - first) count ≡ ltb number (first + count)
      inside l =
          lt-ltb (number - first) count (omega arith) ∙ sym (lt-ltb number (first + count) l)

      past : first + count ≤ number → ltb (number - first) count ≡ ltb number (first + count)
      past l = le-ltb (number - first) count (omega arith) ∙ sym (le-ltb number (first + count) l)
