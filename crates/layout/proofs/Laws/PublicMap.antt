-- Laws of a public number's entry that 6 does not meet: from the number's place, and the slot that it is of.
-- Assumes nothing.
use mathlib.Core.Path.{◌≡◌}
use mathlib.Core.Logic.{◌≢◌, inl, inr}
use mathlib.Core.Bool.{true}
use Prim.Native.Nat.{ℕ, ◌≤◌, ◌<◌}
use native.Mathlib.Omega.{arith}
use Rattle.model.specs.Geometry.{Geometry, area_start}
use Rattle.model.specs.Blocks.{Bytes, DiskAddress}
use Rattle.model.specs.Layout.{slot_of, is_slot_block, map_entry}
use Rattle.model.proofs.Laws.Places.{Placed, is_slot_block_of-is_place}
use Rattle.model.proofs.Laws.Slots.{slot_block_of}
use Rattle.layout.specs.PublicMap.{OldEntry}

pub entry_of_placed : (g : Geometry) (disk : Bytes) (number : ℕ) → Placed g disk number →
    OldEntry g (map_entry g disk number)
entry_of_placed g disk number (inl e) = inl e
entry_of_placed g disk number (inr e) = inr (is_slot_block_of-is_place g disk (map_entry g disk number) e)

-- an entry that is not 0 is block A of one of the slots
old_block : (g : Geometry) (entry : DiskAddress) → OldEntry g entry → entry ≢ 0 →
    is_slot_block g 0 entry ≡ true
old_block g entry (inl e) ne = absurd (ne e)
old_block g entry (inr e) ne = e

pub old_in_area : (g : Geometry) (entry : DiskAddress) → OldEntry g entry → entry ≢ 0 → area_start g ≤ entry
old_in_area g entry old ne = omega (arith, (slot_block_of g 0 entry (old_block g entry old ne)).address_is)

pub old_slot_lt : (g : Geometry) (entry : DiskAddress) → OldEntry g entry → entry ≢ 0 →
    slot_of g entry < g.slots
old_slot_lt g entry old ne = (slot_block_of g 0 entry (old_block g entry old ne)).slot_inside
