-- `layout::bitmap::is_allocated` meets its contract: the bitmap block stands in the disk, and the bit in the
-- block. Assumes nothing.
use mathlib.Core.Path.{◌≡◌, sym, ap, ap₂, ◌∙◌}
use Prim.Native.Nat.{ℕ, ◌<◌}
use native.Mathlib.Omega.{arith}
use Rattle.laws.specs.Bits.{bit_at}
use Rattle.model.proofs.Laws.Bitmap.{is_allocated_is, bit_place_byte_lt}
use Rattle.model.proofs.Laws.Blocks.{length-block_at}
use Rattle.model.proofs.Laws.Geometry.{bit_address_lt}
use Rattle.model.specs.Blocks.{block_at}
use Rattle.model.specs.Geometry.{block_count, block_width}
use Rattle.model.specs.Layout.{bit_address}
use Rattle.layout.specs.Geometries.{geometry_of}
use Rattle.layout.proofs.bitmap.is_allocated.Goals as goal

pub bit_at-requires : goal.bit_at-requires
bit_at-requires c =
    let address_inside : bit_address (geometry_of c.args.g) c.args.slot < block_count (geometry_of c.args.g) =
    omega (
      arith,
      bit_address_lt (geometry_of c.args.g) c.requires.drive.fits c.args.slot
          c.requires.slot_lt_slots,
    ) in
    let shown : c.block_at-block.result.now ≡ block_at c.args.g.block_size c.args.disk.now (bit_address
    (geometry_of c.args.g) c.args.slot) =
    let s = c.args in
    c.block_at-block.ensures ∙ ap (λ (n : ℕ). block_at s.g.block_size s.disk.now n)
    c.bit_address.ensures in
    let g = geometry_of c.args.g in
    rw (
      c.bit_place.ensures,
      shown,
      length-block_at (block_width g) c.args.disk.now
          (block_count g) c.requires.drive.whole
          (bit_address g c.args.slot) address_inside,
    ) (bit_place_byte_lt g c.requires.drive.fits c.args.slot)

pub returns : goal.returns
returns c =
    let shown : c.block_at-block.result.now ≡ block_at c.args.g.block_size c.args.disk.now (bit_address
    (geometry_of c.args.g) c.args.slot) =
    let s = c.args in
    c.block_at-block.ensures ∙ ap (λ (n : ℕ). block_at s.g.block_size s.disk.now n)
    c.bit_address.ensures in
    let g = geometry_of c.args.g in
    c.bit_at.ensures ∙ ap₂ bit_at c.bit_place.ensures shown
    ∙ sym (is_allocated_is g c.args.disk.now c.args.slot)
