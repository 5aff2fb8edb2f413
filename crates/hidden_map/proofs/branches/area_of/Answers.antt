-- `area_of` meets its contract. Assumes nothing.
use Rattle.std.proofs.Common.{refl}
use Rattle.layout.specs.Geometries.{geometry_of}
use Rattle.hidden_map.proofs.Laws.Trees.{area_of_start}
use Rattle.hidden_map.proofs.branches.area_of.Goals as goal

pub returns : goal.returns
returns c =
    area_of_start (geometry_of c.args.g) _ refl c.area_start-start.ensures c.slot_width.result c.slot_width.ensures
    refl
