-- Recovery (document 02, K5): the public map's entries, refusal 17, and the bitmap rebuilt from them. Assumes
-- nothing.
use Rattle.std.specs.Prelude.{Bool, true, cond, not, ◌&&◌, List, [], ◌∷◌, ◌++◌, ℕ, zero, suc, ◌+◌, ◌*◌, eqb, replicate}
use Rattle.laws.specs.Lists.{over}
use Rattle.laws.specs.Checks.{Check, check, first_of}
use Rattle.model.specs.Geometry.{Geometry, is_one_of, map_blocks, bitmap_blocks, block_width}
use Rattle.model.specs.Blocks.{Bytes, DiskAddress, set_block}
use Rattle.model.specs.Layout.{geometry_in, slot_of, is_slot_block, bit_address, bitmap_with, map_entry}
use Rattle.model.specs.Refusals.{drive_checks}

-- ---- the map's entries ----

-- an entry in front of others, a 0 left out
abbrev pub unless_zero : (entry : DiskAddress) → (later : List DiskAddress) → List DiskAddress
unless_zero zero later = later
unless_zero (suc entry) later = suc entry ∷ later

-- the entries of so many numbers from one on, each 0 left out
unfoldable pub used_from : Geometry → (disk : Bytes) → (number count : ℕ) → List DiskAddress
used_from g disk number zero = []
used_from g disk number (suc count) =
    unless_zero (map_entry g disk number) (used_from g disk (suc number) count)

-- the mapped places of a drive; entries past P are not looked at
abbrev pub used_entries : Geometry → (disk : Bytes) → List DiskAddress
used_entries g disk = used_from g disk 0 g.publics

-- ---- 17 ----

-- every entry is block A of a slot
unfoldable pub are_starts : Geometry → List DiskAddress → Bool
are_starts g [] = true
are_starts g (entry ∷ later) = is_slot_block g 0 entry && are_starts g later

-- no entry comes twice
unfoldable pub are_apart : List DiskAddress → Bool
are_apart [] = true
are_apart (entry ∷ later) = not (is_one_of entry later) && are_apart later

unfoldable pub map_checks : Geometry → (disk : Bytes) → List Check
map_checks g disk =
    let used = used_entries g disk in check (not (are_starts g used && are_apart used)) 17 ∷ []

-- 1 to 3, then 17
unfoldable pub recovery_refusal : (disk : Bytes) → ℕ
recovery_refusal disk = first_of (drive_checks disk ++ map_checks (geometry_in disk) disk)

-- ---- the bitmap ----

-- the disk with every bit of the bitmap 0, those past the data area's too
unfoldable pub without_bits : Geometry → (disk : Bytes) → Bytes
without_bits g disk =
    over ((1 + map_blocks g) * g.block_size) (replicate (bitmap_blocks g * g.block_size) 0) disk

-- the disk with a slot's bit 1
abbrev pub with_mark : Geometry → (slot : ℕ) → (disk : Bytes) → Bytes
with_mark g slot disk = set_block (block_width g) disk (bit_address g slot) (bitmap_with g disk slot true)

-- the disk with the bits of these places 1
unfoldable pub with_marks : Geometry → (entries : List DiskAddress) → (disk : Bytes) → Bytes
with_marks g [] disk = disk
with_marks g (entry ∷ later) disk = with_marks g later (with_mark g (slot_of g entry) disk)

-- the disk that a recovery leaves: a refused disk as it was
unfoldable pub recovered : (disk : Bytes) → Bytes
recovered disk =
    let g = geometry_in disk in
    cond (eqb (recovery_refusal disk) 0) (with_marks g (used_entries g disk) (without_bits g disk)) disk
