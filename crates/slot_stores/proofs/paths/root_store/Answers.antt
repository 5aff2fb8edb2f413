-- `root_store` meets its contract: the root takes one entry. Assumes nothing.
use mathlib.Core.Path.{refl}
use Rattle.layout.specs.Geometries.{geometry_of}
use Rattle.slot_stores.proofs.Laws.Paths.{root_described}
use Rattle.slot_stores.proofs.paths.root_store.Goals as goal

pub returns : goal.returns
returns c =
    let g = geometry_of c.args.g in
    root_described g c.requires.fits c.args.slot c.args.number.0 c.branch_at-branch.result
    c.root_address-root.result c.level_address-below.result c.root_address-root.ensures
    c.level_address-below.ensures (c.branch_at-branch.ensures g refl) c.own.ensures
