-- `recovery::windows::is_window_apart` meets its contract. Invariant: a slot's bit is 1 exactly if a number
-- before this one has its start, and no two before it share one in the window. Assumes nothing.
use Rattle.layout.specs.Geometries.{geometry_of}
use Rattle.recovery.proofs.Laws.Scans.{noted_read, scanning_none, scanning_next, scanning_shared}
use Rattle.recovery.proofs.windows.is_window_apart.Goals as goal

pub loop-number-init : goal.loop-number-init
loop-number-init c =
    scanning_none (geometry_of c.args.g) c.args.disk.now c.requires.started c.args.first
    c.requires.first_lt_slots

pub returns-then-note_entry : goal.returns-then-note_entry
returns-then-note_entry c =
    let at = c.loop-number in
    scanning_shared (geometry_of c.args.g) c.args.disk.now c.requires.started c.args.first
    c.requires.first_lt_slots
    at.number c.loop-number-test.true at.seen at.invariant
    c.note_entry.new.seen c.note_entry.result
    (noted_read (geometry_of c.args.g) c.args.first c.slot_start-start.ensures
    c.slot_width-width.ensures c.map_entry-entry.ensures c.note_entry.ensures) c.if-note_entry.true

pub loop-number-preserved : goal.loop-number-preserved
loop-number-preserved c =
    let at = c.loop-number in
    scanning_next (geometry_of c.args.g) c.args.disk.now c.requires.started c.args.first
    c.requires.first_lt_slots
    at.number c.loop-number-test.true at.seen at.invariant
    c.note_entry.new.seen c.note_entry.result
    (noted_read (geometry_of c.args.g) c.args.first c.slot_start-start.ensures
    c.slot_width-width.ensures c.map_entry-entry.ensures c.note_entry.ensures) c.if-note_entry.false
