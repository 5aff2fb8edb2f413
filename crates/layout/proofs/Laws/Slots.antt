-- Laws of the test whether an entry is block A of one of the slots, case by case, by the start of the data
-- area and a slot's width. Assumes nothing.
use mathlib.Core.Path.{◌≡◌, sym}
use mathlib.Core.Bool.{false}
use Prim.Native.Nat.{ℕ, ◌*◌, ◌-◌, ◌%◌, ◌≤◌, ◌<◌}
use native.Mathlib.Omega.{arith}
use lib.Dec.{eqb}
use Rattle.model.specs.Geometry.{Geometry, slot_width, area_start}
use Rattle.model.specs.Blocks.{DiskAddress}
use Rattle.model.specs.Layout.{is_slot_block}
use Rattle.model.proofs.Laws.Slots.{is_slot_block_below, is_slot_block_past, is_slot_block_inside}

module _ (g : Geometry) (entry : DiskAddress) (start : ℕ) (e : start ≡ area_start g)
    (width : ℕ) (w : width ≡ slot_width g) where
  pub start_below : entry < start → false ≡ is_slot_block g 0 entry
  start_below h = sym (is_slot_block_below g 0 entry (omega arith))

  module _ (low : start ≤ entry) where
    pub start_past : g.slots * width ≤ entry - start → false ≡ is_slot_block g 0 entry
    start_past h = sym (is_slot_block_past g 0 entry (omega (arith, rw w at h)))

    -- within the data area the place in the slot decides
    pub start_inside :
        entry - start < g.slots * width → eqb ((entry - start) % width) 0 ≡ is_slot_block g 0 entry
    start_inside h = sym (rw (w, e) (is_slot_block_inside g 0 entry (omega arith) (omega (arith, rw w at h))))
