-- The adversary's view of a drive (document 01, "What demand 3 compares": the view), and when two drives are
-- alike. Assumes nothing.
use Rattle.std.specs.Prelude.{◌≡◌, Bool, cond, ◌||◌, [], ◌++◌, ℕ, zero, suc, ltb, length}
use Rattle.model.specs.Geometry.{Geometry, root_address, block_count, block_width}
use Rattle.model.specs.Blocks.{Bytes, DiskAddress, block_at}
use Rattle.model.specs.Layout.{geometry_in, is_slot_block}
use Rattle.model.specs.Refusals.{drive_refusal}

-- whether an address is in the view: header, map and bitmap before the root, and block A of every slot
unfoldable pub is_shown : Geometry → DiskAddress → Bool
is_shown g address = ltb address (root_address g) || is_slot_block g 0 address

-- what an address shows of its block: the whole block, or nothing
unfoldable pub shown_of : Geometry → DiskAddress → (block : Bytes) → Bytes
shown_of g address block = cond (is_shown g address) block []

-- what so many blocks from an address on show
unfoldable pub view_from : Geometry → (disk : Bytes) → DiskAddress → (count : ℕ) → Bytes
view_from g disk address zero = []
view_from g disk address (suc count) =
    shown_of g address (block_at (block_width g) disk address) ++ view_from g disk (suc address) count

-- the view of a drive, in the order of its addresses
unfoldable pub view_of : (disk : Bytes) → Bytes
view_of disk = view_from (geometry_in disk) disk 0 (block_count (geometry_in disk))

-- two drives of one length that refusals 1 to 3 do not meet and whose views are equal
pub record Alike (disk other : Bytes) : Type 0 where
  pub same_length : length disk ≡ length other
  pub accepted : drive_refusal disk ≡ 0
  pub other_accepted : drive_refusal other ≡ 0
  pub same_view : view_of disk ≡ view_of other
