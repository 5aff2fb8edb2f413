-- Laws of the places of public blocks: what a place is, the test of an entry case by case, an entry that is 0
-- or one of the drive's slots, and a number whose entry is 0 or a place. Assumes nothing.
use mathlib.Core.Path.{◌≡◌, ap, ◌∙◌, sym}
use mathlib.Core.Logic.{◌≢◌, ◌⊎◌, inl, inr}
use mathlib.Core.Bool.{true, false, not, ◌||◌}
use Prim.Native.Nat.{ℕ, ◌<◌}
use native.Mathlib.Omega.{arith}
use lib.Dec.{eqb}
use borrow.Author.Tests.{ne_eqb, not-false}
use Rattle.laws.proofs.Cases.{and_left, and_right, and_both, true_is_not_false, and_false_left}
use Rattle.model.specs.Geometry.{Geometry, block_count}
use Rattle.model.specs.Blocks.{Bytes, DiskAddress}
use Rattle.model.specs.Layout.{is_allocated, is_place, is_slot_block, map_entry, slot_of, slot_start}
use Rattle.model.proofs.Laws.Slots.{SlotBlock, is_slot_block-slot_start, slot_block_of, slot_of-slot_start}

-- ---- an entry that is a place ----

-- it is block A of one of the drive's slots, and that slot is allocated
pub record Place (g : Geometry) (disk : Bytes) (entry : DiskAddress) : Type 0 where
  pub slot_inside : slot_of g entry < g.slots
  pub entry_is : entry ≡ slot_start g (slot_of g entry)
  pub allocated : is_allocated g disk (slot_of g entry) ≡ true

pub is_slot_block_of-is_place :
    (g : Geometry) (disk : Bytes) (entry : DiskAddress) → is_place g disk entry ≡ true →
    is_slot_block g 0 entry ≡ true
unfolding is_place
is_slot_block_of-is_place g disk entry e =
    and_left (is_slot_block g 0 entry) (is_allocated g disk (slot_of g entry)) e

pub place_of_is_place :
    (g : Geometry) (disk : Bytes) (entry : DiskAddress) → is_place g disk entry ≡ true → Place g disk entry
unfolding is_place
place_of_is_place g disk entry e =
    let block = slot_block_of g 0 entry (is_slot_block_of-is_place g disk entry e) in
    record {
      slot_inside = block.slot_inside;
      entry_is = omega (arith, block.address_is);
      allocated = and_right (is_slot_block g 0 entry) (is_allocated g disk (slot_of g entry)) e;
    }

pub is_place-slot_start :
    (g : Geometry) (disk : Bytes) (slot : ℕ) → slot < g.slots → is_allocated g disk slot ≡ true →
    is_place g disk (slot_start g slot) ≡ true
unfolding is_place
is_place-slot_start g disk slot h e =
    and_both (is_slot_block-slot_start g slot h) (ap (is_allocated g disk) (slot_of-slot_start g slot) ∙ e)

pub is_place_of_place :
    (g : Geometry) (disk : Bytes) (entry : DiskAddress) → Place g disk entry → is_place g disk entry ≡ true
is_place_of_place g disk entry place =
    ap (is_place g disk) place.entry_is
    ∙ is_place-slot_start g disk (slot_of g entry) place.slot_inside place.allocated

-- ---- the test of an entry, case by case ----

module _ (g : Geometry) (disk : Bytes) (entry : DiskAddress) where
  pub is_place_no_start : is_slot_block g 0 entry ≡ false → false ≡ is_place g disk entry
  unfolding is_place
  is_place_no_start e = sym (and_false_left (is_allocated g disk (slot_of g entry)) e)

  -- a slot's start is left to the slot's mark
  pub is_place_start :
      is_slot_block g 0 entry ≡ true → is_allocated g disk (slot_of g entry) ≡ is_place g disk entry
  unfolding is_place
  is_place_start e = rw e

-- an entry that is not refused is on the drive
pub place_inside :
    (g : Geometry) (disk : Bytes) (entry : DiskAddress) → not (eqb entry 0 || is_place g disk entry) ≡ false →
    entry ≢ 0 → entry < block_count g
place_inside g disk entry p some =
    let none : eqb entry 0 ≡ false = ne_eqb entry 0 some in
    let place : is_place g disk entry ≡ true = not-false (is_place g disk entry) (rw none at p) in
    (slot_block_of g 0 entry (is_slot_block_of-is_place g disk entry place)).address_inside

-- ---- a number's entry ----

-- 0, or block A of one of the drive's slots
abbrev pub OldPlace : Geometry → (entry : DiskAddress) → Type 0
OldPlace g entry = (entry ≡ 0) ⊎ SlotBlock g 0 entry

pub entry_not_zero : (g : Geometry) (entry : DiskAddress) → SlotBlock g 0 entry → entry ≢ 0
entry_not_zero g entry block e = omega (arith, block.address_is)

-- 0, or a place
abbrev pub Placed : Geometry → (disk : Bytes) → (number : ℕ) → Type 0
Placed g disk number = (map_entry g disk number ≡ 0) ⊎ (is_place g disk (map_entry g disk number) ≡ true)

pub old_of_placed :
    (g : Geometry) (disk : Bytes) (number : ℕ) → Placed g disk number → OldPlace g (map_entry g disk number)
old_of_placed g disk number (inl e) = inl e
old_of_placed g disk number (inr e) =
    let entry = map_entry g disk number in
    inr (slot_block_of g 0 entry (is_slot_block_of-is_place g disk entry e))

-- it is not in a free slot
pub placed_apart :
    (g : Geometry) (disk : Bytes) (number slot : ℕ) → Placed g disk number → is_allocated g disk slot ≡ false →
    map_entry g disk number ≢ 0 → slot_of g (map_entry g disk number) ≢ slot
placed_apart g disk number slot (inl e) free ne q = ne e
placed_apart g disk number slot (inr e) free ne q =
    true_is_not_false (place_of_is_place g disk (map_entry g disk number) e).allocated
    (ap (is_allocated g disk) q ∙ free)
