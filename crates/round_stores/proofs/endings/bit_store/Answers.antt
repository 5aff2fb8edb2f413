-- `bit_store` meets its contract: the slot's bitmap block is one of the drive's, and its bit stands in it.
-- Assumes nothing.
use Rattle.layout.specs.Geometries.{geometry_of}
use Rattle.round_stores.proofs.Laws.Endings.{describes_bit}
use Rattle.round_stores.proofs.endings.bit_store.Goals as goal

pub returns : goal.returns
returns c =
    describes_bit (geometry_of c.args.g) c.requires.fits c.args.slot c.args.is_set
    c.requires.slot_lt_slots c.bit_address-address.result c.bit_place-bit.result
    c.bit_address-address.ensures c.bit_place-bit.ensures c.own.ensures
