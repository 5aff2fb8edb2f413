-- `layout::bitmap::mark_slot` meets its contract: the slot's bitmap block stands in the disk, and is put back
-- with the bit set. Assumes nothing.
use Prim.Native.Nat.{◌+◌, ◌*◌, ◌≤◌}
use lib.ListN.{length}
use Rattle.layout.specs.Geometries.{geometry_of}
use Rattle.layout.proofs.Laws.Bitmap.{bit_block_inside, bit_marked}
use Rattle.layout.proofs.bitmap.mark_slot.Goals as goal

pub slice_bounds-set_bit-end : goal.slice_bounds-set_bit-end
slice_bounds-set_bit-end c =
    let inside : let a = c.args in let width = a.g.block_size in c.bit_address-address.result.0 * width +
    width ≤ length a.disk.now =
    let address = c.bit_address-address in
    bit_block_inside (geometry_of c.args.g) c.args.disk.now c.requires.drive c.args.slot
    c.requires.slot_lt_slots
    address.result.0 address.ensures in
    inside

pub returns : goal.returns
returns c =
    let address = c.bit_address-address in
    bit_marked (geometry_of c.args.g) c.args.disk.now c.requires.drive c.args.slot c.requires.slot_lt_slots
    address.result.0 address.ensures c.bit_place-place.result c.bit_place-place.ensures
    c.set_bit.new.block c.set_bit.ensures
