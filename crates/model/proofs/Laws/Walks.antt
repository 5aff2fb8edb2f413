-- Laws of walks: a walk by its first step, in a leaf and above one, and that an address where a walk ends is
-- some slot's data block, so on the drive. Assumes nothing.
use mathlib.Core.Path.{◌≡◌, refl, ap, ◌∙◌}
use mathlib.Core.Bool.{Bool, true, false, cond}
use Prim.Native.Nat.{ℕ, zero, suc, ◌<◌}
use native.Mathlib.Omega.{arith}
use lib.Dec.{eqb}
use Rattle.model.specs.Geometry.{Geometry, block_count, block_width}
use Rattle.model.specs.Blocks.{Bytes, DiskAddress, block_at, entry_at}
use Rattle.model.specs.Layout.{is_well_formed}
use Rattle.model.specs.HiddenTree.{branch_at, walk_from, Walk, ended, passing, End, found, unmapped}
use Rattle.model.specs.HiddenTree.{damaged}
use Rattle.model.proofs.Laws.Slots.{formed_inside}

-- ---- a walk by its first step ----

-- the two tests of a step: the entry is 0, the entry is well formed
abbrev pub step_by : (is_zero isFormed : Bool) → (entry : DiskAddress) → End
step_by is_zero isFormed entry = cond is_zero unmapped (cond isFormed (found entry) damaged)

abbrev pub walk_by_step : (is_zero isFormed : Bool) → (stop : End → Walk) → (rest : Walk) → Walk
walk_by_step is_zero isFormed stop rest = cond is_zero (stop unmapped) (cond isFormed rest (stop damaged))

module _ (g : Geometry) (disk : Bytes) (number : ℕ) where
  pub walk_from-zero :
      (node : Bytes) →
      walk_from g disk number 0 node ≡
      (let entry = entry_at (branch_at g number 0) node in
      ended g node 0 (step_by (eqb entry 0) (is_well_formed g 0 entry) entry))
  unfolding walk_from
  walk_from-zero node = refl

  pub walk_from_suc :
      (level : ℕ) (node : Bytes) →
      walk_from g disk number (suc level) node ≡
      (let entry = entry_at (branch_at g number (suc level)) node in
      walk_by_step (eqb entry 0) (is_well_formed g (suc level) entry) (ended g node (suc level))
      (passing node (walk_from g disk number level (block_at (block_width g) disk entry))))
  unfolding walk_from
  walk_from_suc level node = refl

-- ---- where a walk ends ----

-- an address that a walk ends at is some slot's data block
pub found_formed :
    (g : Geometry) (disk : Bytes) (number level : ℕ) (node : Bytes) (address : DiskAddress) →
    found address ≡ (walk_from g disk number level node).end → is_well_formed g 0 address ≡ true
found_formed g disk number zero node address e =
    let entry = entry_at (branch_at g number 0) node in
    by (eqb entry 0) (is_well_formed g 0 entry) entry (λ f. f)
    (e ∙ ap (λ (w : Walk). w.end) (walk_from-zero g disk number node))
  where
    by : (is_zero isFormed : Bool) (entry : DiskAddress) → (isFormed ≡ true → is_well_formed g 0 entry ≡ true) →
        found address ≡ step_by is_zero isFormed entry → is_well_formed g 0 address ≡ true
    by true isFormed entry formed h = absurd (let z : ◌≡◌ {A = ℕ} 0 1 = cc in omega arith)
    by false true entry formed h = let same : address ≡ entry = cc in rw same (formed refl)
    by false false entry formed h = absurd (let z : ◌≡◌ {A = ℕ} 0 1 = cc in omega arith)
found_formed g disk number (suc level) node address e =
    let entry = entry_at (branch_at g number (suc level)) node in
    let below = block_at (block_width g) disk entry in
    by (eqb entry 0) (is_well_formed g (suc level) entry) (passing node (walk_from g disk number level below))
    (λ h. found_formed g disk number level below address h)
    (e ∙ ap (λ (w : Walk). w.end) (walk_from_suc g disk number level node))
  where
    by : (is_zero isFormed : Bool) (rest : Walk) →
        (found address ≡ rest.end → is_well_formed g 0 address ≡ true) →
        found address ≡ (walk_by_step is_zero isFormed (ended g node (suc level)) rest).end →
        is_well_formed g 0 address ≡ true
    by true isFormed rest formed h = absurd (let z : ◌≡◌ {A = ℕ} 0 1 = cc in omega arith)
    by false true rest formed h = formed h
    by false false rest formed h = absurd (let z : ◌≡◌ {A = ℕ} 0 1 = cc in omega arith)

-- so it is on the drive
pub found_inside :
    (g : Geometry) (disk : Bytes) (number level : ℕ) (node : Bytes) (address : DiskAddress) →
    found address ≡ (walk_from g disk number level node).end → address < block_count g
found_inside g disk number level node address e =
    formed_inside g 0 address (found_formed g disk number level node address e)
