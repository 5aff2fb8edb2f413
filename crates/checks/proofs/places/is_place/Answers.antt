-- `is_place` meets its contract: what is no slot's start is no place, and a slot's start is one where the
-- slot is allocated. Assumes nothing.
use mathlib.Core.Path.{◌≡◌, sym, ap, ◌∙◌}
use mathlib.Core.Bool.{true}
use native.Mathlib.Omega.{arith}
use Rattle.model.specs.Layout.{is_allocated, is_slot_block}
use Rattle.model.proofs.Laws.Places.{is_place_no_start, is_place_start}
use Rattle.model.proofs.Laws.Slots.{slot_block_of}
use Rattle.layout.specs.Geometries.{geometry_of}
use Rattle.checks.proofs.places.is_place.Goals.{Else-not-is_slot_start}
use Rattle.checks.proofs.places.is_place.Goals as goal

started : (c : Else-not-is_slot_start) → is_slot_block (geometry_of c.args.g) 0 c.args.entry.0 ≡ true
started c = sym c.is_slot_start.ensures ∙ c.if-not-is_slot_start.false

pub returns-then-not-is_slot_start : goal.returns-then-not-is_slot_start
returns-then-not-is_slot_start c =
    let a = c.args in
    is_place_no_start (geometry_of a.g) a.disk.now a.entry.0
    (sym c.is_slot_start.ensures ∙ c.if-not-is_slot_start.true)

pub slot_of-requires-clause-g_bound : goal.slot_of-requires-clause-g_bound
slot_of-requires-clause-g_bound c =
    let a = c.args in
    let block = slot_block_of (geometry_of a.g) 0 a.entry.0
    (started (goal.at.slot_of-requires-clause-g_bound c).Else-not-is_slot_start) in
    omega (arith, block.address_is)

pub is_allocated-requires-clause-slot_lt_slots : goal.is_allocated-requires-clause-slot_lt_slots
is_allocated-requires-clause-slot_lt_slots c =
    let a = c.args in
    let block = slot_block_of (geometry_of a.g) 0 a.entry.0
    (started (goal.at.is_allocated-requires-clause-slot_lt_slots c).Else-not-is_slot_start) in
    omega (arith, c.slot_of.ensures, block.slot_inside)

pub returns : goal.returns
returns c =
    let a = c.args in
    let g = geometry_of a.g in
    c.is_allocated.ensures ∙ ap (is_allocated g a.disk.now) c.slot_of.ensures
    ∙ is_place_start g a.disk.now a.entry.0 (started (goal.at.returns c).Else-not-is_slot_start)
