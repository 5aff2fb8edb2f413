-- Laws of branches and well-formed addresses by the numbers that a walk is given: the entry that a branch
-- names, counted over the whole disk, and the test of an address. Assumes nothing.
use mathlib.Core.Path.{◌≡◌, refl, sym, ap, ◌∙◌}
use mathlib.Core.Logic.{◌≢◌}
use mathlib.Core.Bool.{false}
use Prim.Native.Nat.{ℕ, zero, suc, ◌+◌, ◌*◌, ◌-◌, ◌/◌, ◌%◌, ◌≤◌, ◌<◌}
use native.Mathlib.Nat.{mul-le-mul_right, mul_left_comm}
use native.Mathlib.Omega.{arith}
use lib.Dec.{eqb}
use lib.ListN.{length}
use Rattle.model.specs.Geometry.{Geometry, fanout, block_count, block_width}
use Rattle.model.specs.Blocks.{Bytes, block_at, entry_at}
use Rattle.model.specs.Layout.{is_well_formed, level_place}
use Rattle.model.specs.HiddenTree.{branch_at}
use Rattle.model.proofs.Laws.Entries.{entry_at_disk}
use Rattle.model.proofs.Laws.Slots.{is_slot_block_below, is_slot_block_past, is_slot_block_inside}
use Rattle.model.proofs.Laws.Branches.{entries_in_le}
use Rattle.model.proofs.Tree.Keys.{branch_at_lt}
use Rattle.hidden_map.specs.declared.branches.Area.{Area}
use Rattle.hidden_map.specs.declared.walks.Tree.{Tree}
use Rattle.hidden_map.specs.Trees.{AreaOf, TreeOf}

-- ---- the entry of a branch ----

-- a node's entry, counted over the whole disk, by the numbers that a walk is given
module _ (g : Geometry) (disk : Bytes) (tree : Tree) (t : TreeOf g disk tree)
    (number level address branch : ℕ) (e : branch ≡ branch_at g number level) where
  branch_inside : branch < fanout g
  branch_inside =
      rw e (omega (arith, branch_at_lt g t.drive.fits number level, entries_in_le g level))

  node_start : address * g.block_size ≡ 4 * (address * fanout g)
  node_start = ap (λ (n : ℕ). address * n) t.drive.fits.size_entries ∙ mul_left_comm address 4 (fanout g)

  pub branch_entry_inside :
      address < tree.area.count → 4 * (address * (tree.size / 4) + branch) + 4 ≤ length disk
  branch_entry_inside h =
      let inside : address < block_count g = omega (arith, t.area.count_is) in
      rw t.size_is
      (omega (arith, branch_inside, node_start, t.drive.whole, mul-le-mul_right g.block_size inside))

  pub branch_entry_is :
      (entry : ℕ) → entry ≡ entry_at (address * (tree.size / 4) + branch) disk →
      entry ≡ entry_at (branch_at g number level) (block_at (block_width g) disk address)
  branch_entry_is entry p =
      p ∙ ap (λ (n : ℕ). entry_at (address * (n / 4) + branch) disk) t.size_is
      ∙ entry_at_disk (block_width g) (fanout g) disk address branch t.drive.fits.size_entries
      branch_inside
      ∙ ap (λ (n : ℕ). entry_at n (block_at (block_width g) disk address)) e

-- ---- well-formed addresses ----

module _ (g : Geometry) (area : Area) (a : AreaOf g area) (level address : ℕ) where
  pub is_well_formed_below : address < area.start.0 → false ≡ is_well_formed g level address
  is_well_formed_below h =
      sym (is_slot_block_below g (level_place g level) address (omega (arith, a.start_is)))

  pub is_well_formed_past : area.count ≤ address → false ≡ is_well_formed g level address
  is_well_formed_past h =
      sym (is_slot_block_past g (level_place g level) address (omega (arith, a.count_is)))

  module _ (low : area.start.0 ≤ address) (high : address < area.count) where
    -- within the data area the place decides
    by_place :
        (place : ℕ) → place ≡ level_place g level →
        eqb ((address - area.start.0) % (area.height + 1)) place ≡ is_well_formed g level address
    by_place place e =
        rw (e, a.start_is, a.height_is)
        (sym (is_slot_block_inside g (level_place g level) address (omega (arith, a.start_is))
        (omega (arith, a.count_is))))

    pub is_well_formed_data :
        level ≡ 0 →
        eqb ((address - area.start.0) % (area.height + 1)) area.height ≡ is_well_formed g level address
    is_well_formed_data z = by_place area.height (rw z a.height_is)

    pub is_well_formed-node :
        level ≢ 0 → eqb ((address - area.start.0) % (area.height + 1)) level ≡ is_well_formed g level address
    is_well_formed-node f = by_place level (level_place_is level f)
      where
        level_place_is : (level : ℕ) → level ≢ 0 → level ≡ level_place g level
        level_place_is zero f = absurd (f refl)
        level_place_is (suc level) f = refl
