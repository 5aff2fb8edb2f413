-- `plan_bits` meets its contract: a number without a place, one in the same bitmap block, or one in another.
-- Assumes nothing.
use mathlib.Core.Path.{sym, ◌∙◌}
use Prim.Native.Nat.{◌<◌}
use Rattle.model.specs.Layout.{slot_of}
use Rattle.layout.specs.Geometries.{geometry_of}
use Rattle.layout.proofs.Laws.PublicMap.{old_in_area, old_slot_lt}
use Rattle.plans.proofs.Laws.PublicPlans.{bits_new, bits_shared, bits_apart}
use Rattle.plans.proofs.public_plans.plan_bits.Goals as goal
use Rattle.plans.proofs.public_plans.plan_bits.Goals.{After-slot_of-old}

pub returns-then-entry-eq0 : goal.returns-then-entry-eq0
returns-then-entry-eq0 c =
    bits_new (geometry_of c.args.g) c.args.slot c.requires.slot_inside c.args.entry.0
    c.if-entry-eq0.true

pub slot_of-old-requires : goal.slot_of-old-requires
slot_of-old-requires c =
    let old = c.requires.old_entry in
    record {
      fits = c.requires.fits;
      g_bound = old_in_area (geometry_of c.args.g) c.args.entry.0 old
          c.if-entry-eq0.false;
    }

-- the slot that is left is one of the drive's
old-inside : (c : After-slot_of-old) → slot_of (geometry_of c.args.g) c.args.entry.0 < c.args.g.slots
old-inside c =
    old_slot_lt (geometry_of c.args.g) c.args.entry.0 c.requires.old_entry c.if-entry-eq0.false

pub is_shared-requires : goal.is_shared-requires
is_shared-requires c =
    record {
      fits = c.requires.fits;
      slot_inside = c.requires.slot_inside;
      other_inside = rw c.slot_of-old.ensures (old-inside (goal.at.is_shared-requires c).After-slot_of-old);
    }

pub returns-then-is_shared : goal.returns-then-is_shared
returns-then-is_shared c =
    bits_shared (geometry_of c.args.g) c.args.slot c.requires.slot_inside c.args.entry.0
    c.if-entry-eq0.false c.slot_of-old.result c.slot_of-old.ensures
    (old-inside (goal.at.returns-then-is_shared c).After-slot_of-old)
    (sym c.is_shared.ensures ∙ c.if-is_shared.true)

pub returns : goal.returns
returns c =
    bits_apart (geometry_of c.args.g) c.args.slot c.requires.slot_inside c.args.entry.0
    c.if-entry-eq0.false c.slot_of-old.result c.slot_of-old.ensures
    (old-inside (goal.at.returns c).After-slot_of-old)
    (sym c.is_shared.ensures ∙ c.if-is_shared.false)
