-- Laws of a slot's bit that is set in the disk: its bitmap block is a part of the disk, the bit lies in the
-- part, and the part is put back with the bit set. Assumes nothing.
use mathlib.Core.Path.{◌≡◌, sym, ap, ◌∙◌}
use mathlib.Core.Bool.{true}
use mathlib.Core.List.{◌++◌, append_assoc}
use Prim.Native.Nat.{ℕ, ◌+◌, ◌*◌, ◌-◌, ◌≤◌, ◌<◌}
use native.Mathlib.Omega.{arith}
use lib.ListN.{length, take, drop}
use lib.Seq.{drop-drop}
use Rattle.laws.specs.Bits.{set_bit}
use Rattle.laws.proofs.Lists.{part_is, over_is}
use Rattle.model.specs.Geometry.{Geometry, block_count, block_width}
use Rattle.model.specs.Blocks.{Bytes, DiskAddress, block_at, set_block}
use Rattle.model.specs.Layout.{Drive, bit_address, bit_place, bitmap_with}
use Rattle.model.proofs.Laws.Geometry.{bit_address_lt}
use Rattle.model.proofs.Laws.Blocks.{block_at_is, set_block_is, block_inside}
use Rattle.model.proofs.Laws.Bitmap.{bitmap_with_is, length-bitmap_with}

-- ---- a block as a part of the disk ----

-- the bytes from one index on and before another
abbrev pub bytes_between : (from to : ℕ) → (disk : Bytes) → Bytes
bytes_between from to disk = take (to - from) (drop from disk)

-- the disk with others in their place
abbrev pub put_between : (from to : ℕ) → (disk new : Bytes) → Bytes
put_between from to disk new = take from disk ++ (new ++ drop (to - from) (drop from disk))

module _ (width : ℕ) (disk : Bytes) (address : DiskAddress) where
  size_is : address * width + width - address * width ≡ width
  size_is = omega arith

  bytes_between_block :
      bytes_between (address * width) (address * width + width) disk ≡ block_at width disk address
  bytes_between_block =
      rw size_is (sym (block_at_is width disk address ∙ part_is (address * width) width disk))

  put_between_block :
      (block : Bytes) → length block ≡ width →
      put_between (address * width) (address * width + width) disk block ≡ set_block width disk address block
  put_between_block block sized =
      rw (size_is, drop-drop width (address * width) disk, set_block_is, over_is)
      (rw (append_assoc, sized))

-- ---- a slot's bit ----

module _ (g : Geometry) (disk : Bytes) (drive : Drive g disk) (slot : ℕ) (inside : slot < g.slots)
    (address : DiskAddress) (here : address ≡ bit_address g slot) where
  address_lt : address < block_count g
  address_lt = omega (arith, bit_address_lt g drive.fits slot inside)

  pub bit_block_inside : address * g.block_size + g.block_size ≤ length disk
  bit_block_inside = block_inside (block_width g) disk (block_count g) drive.whole address address_lt

  abbrev bit_block : Bytes
  bit_block = bytes_between (address * g.block_size) (address * g.block_size + g.block_size) disk

  module _ (place : ℕ) (at : place ≡ bit_place g slot) where
    pub bit_marked :
        (block : Bytes) → block ≡ set_bit place true bit_block →
        put_between (address * g.block_size) (address * g.block_size + g.block_size) disk block ≡
        set_block (block_width g) disk (bit_address g slot) (bitmap_with g disk slot true)
    bit_marked block e =
        let marked : block ≡ bitmap_with g disk slot true =
        e ∙ rw (bytes_between_block (block_width g) disk address, at, here)
        (sym (bitmap_with_is g disk slot true)) in
        ap (λ (new : Bytes). put_between (address * g.block_size) (address * g.block_size + g.block_size)
        disk new) marked
        ∙ put_between_block (block_width g) disk address (bitmap_with g disk slot true)
        (length-bitmap_with g drive.fits disk drive.whole slot inside true)
        ∙ ap (λ (to : DiskAddress). set_block (block_width g) disk to (bitmap_with g disk slot true)) here
