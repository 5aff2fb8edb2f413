-- `random_store` meets its contract: a random block, or after the last one the root. Assumes nothing.
use native.Mathlib.Omega.{arith}
use Rattle.layout.specs.Geometries.{geometry_of}
use Rattle.slot_stores.proofs.Laws.Described.{root_of_dummy, block_random}
use Rattle.slot_stores.proofs.blocks.random_store.Goals as goal

pub returns-then-g-place : goal.returns-then-g-place
returns-then-g-place c =
    root_of_dummy (geometry_of c.args.g) c.args.slot c.args.place c.if-g-place.true
    c.requires.high c.kept_store.ensures

pub returns : goal.returns
returns c =
    block_random (geometry_of c.args.g) c.args.slot c.args.place c.block_address-address.result
    c.requires.slot_inside c.requires.low (omega (arith, c.if-g-place.false)) c.block_address-address.ensures
    c.plain.ensures
