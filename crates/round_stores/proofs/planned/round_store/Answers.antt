-- `round_store` meets its contract: the slot's stores and the root's come first, the ending's follow them.
-- Assumes nothing.
use native.Mathlib.Omega.{arith}
use Rattle.layout.specs.Geometries.{geometry_of}
use Rattle.round_stores.proofs.Laws.Planned.{describes_in_slot, describes_after_slot}
use Rattle.round_stores.proofs.planned.round_store.Goals as goal

pub returns-then-place-in_slot : goal.returns-then-place-in_slot
returns-then-place-in_slot c =
    describes_in_slot (geometry_of c.args.g) c.requires.fits c.args.round
    (omega (arith, c.if-place-in_slot.true)) c.slot_store.ensures

pub returns : goal.returns
returns c =
    describes_after_slot (geometry_of c.args.g) c.requires.fits c.args.round
    (omega (arith, c.if-place-in_slot.false)) (c.ending_store.ensures c.args.place)
