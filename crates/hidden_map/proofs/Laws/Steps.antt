-- Laws of a step of the walk: its three ways, and what a walk is by its first step, at the leaf, where it
-- stops and where it goes on. Assumes nothing.
use mathlib.Core.Path.{◌≡◌, refl, sym, ◌∙◌}
use mathlib.Core.Logic.{◌≢◌}
use mathlib.Core.Bool.{Bool, true, false, cond}
use Prim.Native.Nat.{ℕ, zero, suc, ◌-◌, ◌<◌}
use native.Mathlib.Omega.{arith}
use lib.Dec.{eqb}
use borrow.Author.Tests.{ne_eqb}
use Rattle.laws.proofs.Cases.{true_is_not_false}
use Rattle.model.specs.Geometry.{Geometry, block_count, block_width}
use Rattle.model.specs.Blocks.{Bytes, DiskAddress, block_at, entry_at}
use Rattle.model.specs.Layout.{is_well_formed}
use Rattle.model.specs.HiddenTree.{branch_at, walk_from, Walk, ended, passing, End, found, unmapped, damaged}
use Rattle.model.proofs.Laws.Slots.{slot_block_of}
use Rattle.model.proofs.Laws.Walks.{step_by, walk_by_step, walk_from-zero, walk_from_suc}
use Rattle.hidden_map.specs.Ends.{step_of}

abbrev pub is_found : End → Bool
is_found (found address) = true
is_found unmapped = false
is_found damaged = false

-- ---- a step ----

module _ (g : Geometry) (number level : ℕ) (node : Bytes) (entry : DiskAddress)
    (e : entry ≡ entry_at (branch_at g number level) node) where
  pub step_of_unmapped : entry ≡ 0 → unmapped ≡ step_of g number level node
  unfolding step_of
  step_of_unmapped z = rw (← e, z)

  module _ (some : entry ≢ 0) (isFormed : Bool) (f : isFormed ≡ is_well_formed g level entry) where
    pub step_of_found : isFormed ≡ true → found entry ≡ step_of g number level node
    unfolding step_of
    step_of_found p = rw (← e, ne_eqb entry 0 some, ← f, p)

    pub step_of_damaged : isFormed ≡ false → damaged ≡ step_of g number level node
    unfolding step_of
    step_of_damaged p = rw (← e, ne_eqb entry 0 some, ← f, p)

-- a step that leads somewhere leads to a well-formed address
pub step_of_formed :
    (g : Geometry) (number level : ℕ) (node : Bytes) (address : DiskAddress) →
    found address ≡ step_of g number level node → is_well_formed g level address ≡ true
unfolding step_of
step_of_formed g number level node address e =
    let entry = entry_at (branch_at g number level) node in
    by (eqb entry 0) (is_well_formed g level entry) entry refl e
  where
    by : (is_zero isFormed : Bool) (entry : DiskAddress) → isFormed ≡ is_well_formed g level entry →
        found address ≡ cond is_zero unmapped (cond isFormed (found entry) damaged) →
        is_well_formed g level address ≡ true
    by true isFormed entry f h = absurd (let z : ◌≡◌ {A = ℕ} 0 1 = cc in omega arith)
    by false true entry f h = let same : address ≡ entry = cc in rw same (sym f)
    by false false entry f h = absurd (let z : ◌≡◌ {A = ℕ} 0 1 = cc in omega arith)

-- ---- a walk by its first step ----

walk_by_step_stop :
    (is_zero isFormed : Bool) (entry : DiskAddress) (stop : End → Walk) (rest : Walk) →
    is_found (step_by is_zero isFormed entry) ≡ false →
    walk_by_step is_zero isFormed stop rest ≡ stop (step_by is_zero isFormed entry)
walk_by_step_stop true isFormed entry stop rest h = refl
walk_by_step_stop false true entry stop rest h = true_is_not_false refl h
walk_by_step_stop false false entry stop rest h = refl

-- the step leads somewhere: the walk goes on there, and the address is well formed
record Goes (isFormed : Bool) (entry address : DiskAddress) (path rest : Walk) : Type 0 where
  goes_on : path ≡ rest
  address_is : entry ≡ address
  well_formed : isFormed ≡ true

walk_by_step_goes :
    (is_zero isFormed : Bool) (entry address : DiskAddress) (stop : End → Walk) (rest : Walk) →
    found address ≡ step_by is_zero isFormed entry → Goes isFormed entry address
    (walk_by_step is_zero isFormed stop rest) rest
walk_by_step_goes true isFormed entry address stop rest h =
    absurd (let z : ◌≡◌ {A = ℕ} 0 1 = cc in omega arith)
walk_by_step_goes false true entry address stop rest h =
    record { goes_on = refl; address_is = cc; well_formed = refl }
walk_by_step_goes false false entry address stop rest h =
    absurd (let z : ◌≡◌ {A = ℕ} 0 1 = cc in omega arith)

module _ (g : Geometry) (disk : Bytes) (number : ℕ) (node : Bytes) where
  -- a walk that ends in the node that it starts from
  pub walk_from_leaf :
      (level : ℕ) → level ≡ 0 → walk_from g disk number level node ≡
      ended g node level (step_of g number level node)
  unfolding step_of
  walk_from_leaf level z = rw z (walk_from-zero g disk number node)

  pub walk_from_stop :
      (level : ℕ) → is_found (step_of g number level node) ≡ false →
      walk_from g disk number level node ≡ ended g node level (step_of g number level node)
  unfolding step_of
  walk_from_stop zero h = walk_from-zero g disk number node
  walk_from_stop (suc level) h =
      let entry = entry_at (branch_at g number (suc level)) node in
      walk_from_suc g disk number level node
      ∙ walk_by_step_stop (eqb entry 0) (is_well_formed g (suc level) entry) entry (ended g node (suc level))
      (passing node (walk_from g disk number level (block_at (block_width g) disk entry))) h

  -- a walk that goes on in the node that its first step leads to
  pub record GoesOn (level : ℕ) (address : DiskAddress) : Type 0 where
    pub goes_on :
        walk_from g disk number level node ≡
        passing node (walk_from g disk number (level - 1) (block_at (block_width g) disk address))
    pub address_inside : address < block_count g

  pub walk_from_goes :
      (level : ℕ) (address : DiskAddress) → level ≢ 0 → found address ≡ step_of g number level node →
      GoesOn level address
  unfolding step_of
  walk_from_goes zero address some h = absurd (some refl)
  walk_from_goes (suc level) address some h =
      let entry = entry_at (branch_at g number (suc level)) node in
      let rest = passing node (walk_from g disk number level (block_at (block_width g) disk entry)) in
      let r = walk_by_step_goes (eqb entry 0) (is_well_formed g (suc level) entry) entry address
      (ended g node (suc level)) rest h in
      let less : suc level - 1 ≡ level = omega arith in
      record {
        goes_on = rw (less, ← r.address_is) (walk_from_suc g disk number level node ∙ r.goes_on);
        address_inside =
            rw (← r.address_is) (slot_block_of g (suc level) entry r.well_formed).address_inside;
      }
