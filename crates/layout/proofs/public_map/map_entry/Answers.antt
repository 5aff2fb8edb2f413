-- `layout::public_map::map_entry` meets its contract: the map's entries stand one after another from block 1
-- on, so the entry is one of the whole disk's. Assumes nothing.
use mathlib.Core.Path.{sym, ◌∙◌}
use Rattle.model.proofs.Laws.PublicMap.{map_entry_bytes, map_entry_inside}
use Rattle.layout.specs.Geometries.{geometry_of}
use Rattle.layout.proofs.public_map.map_entry.Goals as goal

pub entry_at-requires : goal.entry_at-requires
entry_at-requires c =
    rw c.fanout.ensures
    (map_entry_inside (geometry_of c.args.g) c.args.disk.now c.args.number.0 c.requires.drive
    c.requires.number_lt_publics)

pub returns : goal.returns
returns c =
    c.entry_at.ensures
    ∙ rw c.fanout.ensures
    (sym (map_entry_bytes (geometry_of c.args.g) c.requires.drive.fits c.args.disk.now
    c.args.number.0))
