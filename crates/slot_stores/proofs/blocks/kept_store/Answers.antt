-- `kept_store` meets its contract: a block of the slot, or after the last one the root. Assumes nothing.
use native.Mathlib.Omega.{arith}
use Rattle.layout.specs.Geometries.{geometry_of}
use Rattle.slot_stores.proofs.Laws.Described.{root_kept, block_kept}
use Rattle.slot_stores.proofs.blocks.kept_store.Goals as goal

pub returns-then-g-place : goal.returns-then-g-place
returns-then-g-place c =
    root_kept (geometry_of c.args.g) c.args.slot c.args.place c.root_address-root.result
    c.if-g-place.true c.requires.high c.root_address-root.ensures c.own.ensures

pub returns : goal.returns
returns c =
    block_kept (geometry_of c.args.g) c.args.slot c.args.place c.block_address-address.result
    c.requires.slot_inside c.requires.low (omega (arith, c.if-g-place.false)) c.block_address-address.ensures
    c.own-2.ensures
