-- `public_store` meets its contract: the block is kept, or it is the call's data. Assumes nothing.
use Rattle.layout.specs.Geometries.{geometry_of}
use Rattle.slot_stores.proofs.Laws.Described.{describes_public_kept, describes_public_written}
use Rattle.slot_stores.proofs.blocks.public_store.Goals as goal

pub returns-in-Keep : goal.returns-in-Keep
returns-in-Keep c =
    describes_public_kept (geometry_of c.args.g) c.args.slot c.requires.slot_lt_slots
    c.slot_start-address.result
    c.slot_start-address.ensures c.in-Keep.is c.own.ensures

pub returns-in-Write : goal.returns-in-Write
returns-in-Write c =
    describes_public_written (geometry_of c.args.g) c.args.slot c.requires.slot_lt_slots
    c.slot_start-address.result
    c.slot_start-address.ensures _ _ c.in-Write.is c.plain.ensures
