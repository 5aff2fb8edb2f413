-- `both_bits_store` meets its contract: the slot's bitmap block is one of the drive's, and a bit of any slot
-- stands in a block. Assumes nothing.
use Rattle.layout.specs.Geometries.{geometry_of}
use Rattle.round_stores.proofs.Laws.Endings.{describes_both_bits}
use Rattle.round_stores.proofs.endings.both_bits_store.Goals as goal

pub returns : goal.returns
returns c =
    describes_both_bits (geometry_of c.args.g) c.requires.fits c.args.slot
    c.args.old c.requires.slot_inside c.bit_address-address.result
    c.bit_place-new_bit.result
    c.bit_place-old_bit.result c.bit_address-address.ensures c.bit_place-new_bit.ensures
    c.bit_place-old_bit.ensures c.own.ensures
