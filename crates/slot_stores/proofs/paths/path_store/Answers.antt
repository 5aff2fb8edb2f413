-- `path_store` meets its contract: node, data or root by the place. Assumes nothing.
use native.Mathlib.Omega.{arith}
use Rattle.layout.specs.Geometries.{geometry_of}
use Rattle.hidden_map.specs.Nodes.{address_at}
use Rattle.slot_stores.proofs.Laws.Paths.{describes_path_node, describes_path_data}
use Rattle.slot_stores.proofs.Laws.Paths.{describes_path_root}
use Rattle.slot_stores.proofs.paths.path_store.Goals as goal

pub returns-then-place-g : goal.returns-then-place-g
returns-then-place-g c =
    describes_path_node (geometry_of c.args.g) c.requires.slot_place.fits c.args.number.0 c.args.slot
    c.args.place c.args.«data» (address_at c.args.nodes) c.requires.slot_place.low
    c.if-place-g.true c.node_store.ensures

pub returns-then-place-g-2 : goal.returns-then-place-g-2
returns-then-place-g-2 c =
    describes_path_data (geometry_of c.args.g) c.requires.slot_place.fits c.args.number.0 c.args.slot
    c.args.place c.args.«data» (address_at c.args.nodes) c.if-place-g-2.true
    c.data_store.ensures

pub returns : goal.returns
returns c =
    describes_path_root (geometry_of c.args.g) c.requires.slot_place.fits c.args.number.0 c.args.slot
    c.args.place c.args.«data» (address_at c.args.nodes)
    (omega (arith, c.if-place-g.false, c.if-place-g-2.false))
    c.requires.slot_place.high c.root_store.ensures
