-- `checks::counts::is_one_block` meets its contract: no place, or the old place's slot beside the new one.
-- Assumes nothing.
use Rattle.layout.specs.Geometries.{geometry_of}
use Rattle.layout.proofs.Laws.PublicMap.{old_in_area, old_slot_lt}
use Rattle.checks.proofs.counts.is_one_block.Goals as goal

pub slot_of-requires-clause-g_bound : goal.slot_of-requires-clause-g_bound
slot_of-requires-clause-g_bound c =
    old_in_area (geometry_of c.args.g) c.args.entry.0 c.requires.old c.if-entry-eq0.false

pub is_shared-requires : goal.is_shared-requires
is_shared-requires c =
    let g = geometry_of c.args.g in
    record {
      fits = c.requires.fits;
      slot_inside = c.requires.slot_inside;
      other_inside =
          rw c.slot_of.ensures
          (old_slot_lt g c.args.entry.0 c.requires.old c.if-entry-eq0.false);
    }
