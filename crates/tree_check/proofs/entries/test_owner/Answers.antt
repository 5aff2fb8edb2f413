-- `test_owner` meets its contract: an owner that is not below the entry decides, else the end of its walk
-- does. Assumes nothing.
use Rattle.std.proofs.Common.{arith}
use Rattle.model.proofs.Laws.Slots.{formed_in_area, formed_slot_lt}
use Rattle.layout.specs.Geometries.{geometry_of}
use Rattle.tree_check.proofs.Laws.Entries.{tested_not_below, tested_elsewhere, tested_owned}
use Rattle.tree_check.proofs.entries.test_owner.Goals as goal

pub slot_of-slot-requires : goal.slot_of-slot-requires
slot_of-slot-requires c =
    let a = c.args in
    record {
      fits = c.requires.drive.fits;
      g_bound = formed_in_area (geometry_of a.g) a.level a.entry.0 c.requires.formed;
    }

-- the slot is one of the drive's
pub owner_of-owner-requires : goal.owner_of-owner-requires
owner_of-owner-requires c =
    let a = c.args in
    record {
      drive = c.requires.drive;
      slot_lt_slots =
          omega (
            arith,
            c.slot_of-slot.ensures,
            formed_slot_lt (geometry_of a.g) a.level a.entry.0 c.requires.formed,
          );
    }

pub returns-then-not-is_below : goal.returns-then-not-is_below
returns-then-not-is_below c =
    let a = c.args in
    let owner = c.owner_of-owner in
    tested_not_below (geometry_of a.g) a.disk.now a.level a.first a.entry.0 c.requires.formed
    c.requires.first_lt c.slot_of-slot.result owner.result.0 c.slot_of-slot.ensures owner.ensures
    c.is_below.result c.is_below.ensures c.if-not-is_below.true

pub ends_in-requires : goal.ends_in-requires
ends_in-requires c =
    let a = c.args in
    record {
      fits = c.requires.drive.fits;
      slot_lt_slots =
          omega (
            arith,
            c.slot_of-slot.ensures,
            formed_slot_lt (geometry_of a.g) a.level a.entry.0 c.requires.formed,
          );
    }

pub returns-then-not-ends_in : goal.returns-then-not-ends_in
returns-then-not-ends_in c =
    let a = c.args in
    let owner = c.owner_of-owner in
    tested_elsewhere (geometry_of a.g) a.disk.now a.level a.first a.entry.0 c.requires.formed
    c.requires.first_lt c.slot_of-slot.result owner.result.0 c.slot_of-slot.ensures owner.ensures
    c.is_below.result c.is_below.ensures c.if-not-is_below.false
    c.walk-trail.result c.walk-trail.ensures c.ends_in.result c.ends_in.ensures c.if-not-ends_in.true

pub returns : goal.returns
returns c =
    let a = c.args in
    let owner = c.owner_of-owner in
    tested_owned (geometry_of a.g) a.disk.now a.level a.first a.entry.0 c.requires.formed
    c.requires.first_lt c.slot_of-slot.result owner.result.0 c.slot_of-slot.ensures owner.ensures
    c.is_below.result c.is_below.ensures c.if-not-is_below.false
    c.walk-trail.result c.walk-trail.ensures c.ends_in.result c.ends_in.ensures c.if-not-ends_in.false
