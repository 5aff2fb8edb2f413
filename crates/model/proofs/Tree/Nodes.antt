-- A node as a path stores it: its entry leads into the path's slot, its other entries are as they were, and a
-- leaf's last entry is the path's number. Assumes nothing.
use mathlib.Core.Path.{◌≡◌, ◌∙◌}
use mathlib.Core.Logic.{◌≢◌}
use Prim.Native.Nat.{ℕ, zero, suc, ◌+◌, ◌*◌, ◌-◌, ◌^◌, ◌≤◌, ◌<◌}
use native.Mathlib.Omega.{arith}
use lib.ListN.{length}
use Rattle.model.specs.Geometry.{Geometry, Fits, fanout}
use Rattle.model.specs.Blocks.{Bytes, entry_at, set_entry}
use Rattle.model.specs.Layout.{level_address}
use Rattle.model.specs.HiddenTree.{branch_at}
use Rattle.model.specs.Paths.{linked_node}
use Rattle.model.proofs.Laws.Geometry.{fanout_low, slot_block_lt}
use Rattle.model.proofs.Laws.Entries.{length-set_entry, entry_at-set_entry_same, entry_at-set_entry_other}
use Rattle.model.proofs.Laws.Slots.{level_place_le}
use Rattle.model.proofs.Laws.Paths.{branch_at_fits}
use Rattle.model.proofs.Tree.Keys.{branch_at_lt}

module _ (g : Geometry) (f : Fits g) (number slot : ℕ) (here : slot < g.slots) (node : Bytes)
    (sized : length node ≡ g.block_size) where
  branch_fits : (level : ℕ) → 4 * branch_at g number level + 4 ≤ length node
  branch_fits level = rw sized (branch_at_fits g f number level)

  address_lt : (level : ℕ) → level < g.height → level_address g slot level < 2 ^ 32
  address_lt level h = omega (arith, slot_block_lt g slot _ here (level_place_le g level h), f.blocks_high)

  -- a leaf before its last entry is set
  abbrev placed : Bytes
  placed = set_entry (branch_at g number 0) (level_address g slot 0) node

  last_fits : 4 * (fanout g - 1) + 4 ≤ length placed
  last_fits =
      omega (
        arith,
        length-set_entry (branch_at g number 0) (level_address g slot 0) node (branch_fits 0),
        fanout_low g f,
        f.size_entries,
      )

  pub entry_at-linked_node_same :
      (level : ℕ) → level < g.height →
      entry_at (branch_at g number level) (linked_node g number slot level node) ≡ level_address g slot level
  unfolding linked_node
  entry_at-linked_node_same zero h =
      entry_at-set_entry_other (fanout g - 1) number placed last_fits (branch_at g number 0)
      (λ e. omega (arith, branch_at_lt g f number 0))
      ∙ entry_at-set_entry_same (branch_at g number 0) (level_address g slot 0) node (branch_fits 0)
      (address_lt 0 h)
  entry_at-linked_node_same (suc level) h =
      entry_at-set_entry_same (branch_at g number (suc level)) (level_address g slot (suc level)) node
      (branch_fits (suc level)) (address_lt (suc level) h)

  pub entry_at-linked_node_other :
      (level other : ℕ) → branch_at g other level ≢ branch_at g number level →
      entry_at (branch_at g other level) (linked_node g number slot level node) ≡
      entry_at (branch_at g other level) node
  unfolding linked_node
  entry_at-linked_node_other zero other ne =
      entry_at-set_entry_other (fanout g - 1) number placed last_fits (branch_at g other 0)
      (λ e. omega (arith, branch_at_lt g f other 0))
      ∙ entry_at-set_entry_other (branch_at g number 0) (level_address g slot 0) node (branch_fits 0)
      (branch_at g other 0) ne
  entry_at-linked_node_other (suc level) other ne =
      entry_at-set_entry_other (branch_at g number (suc level)) (level_address g slot (suc level)) node
      (branch_fits (suc level)) (branch_at g other (suc level)) ne

  pub entry_at-linked_node_owner : number < 2 ^ 32 →
      entry_at (fanout g - 1) (linked_node g number slot 0 node) ≡ number
  unfolding linked_node
  entry_at-linked_node_owner h = entry_at-set_entry_same (fanout g - 1) number placed last_fits h
