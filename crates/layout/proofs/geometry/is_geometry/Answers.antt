-- `layout::geometry::is_geometry` meets its contract: block size and height are tested first, the rest by
-- `has_room`. Assumes nothing.
use mathlib.Core.Path.{sym, ◌∙◌}
use Rattle.model.proofs.Laws.Geometry.{refused_size_lem, refused_low, refused_high}
use Rattle.layout.specs.Geometries.{geometry_of}
use Rattle.layout.proofs.geometry.is_geometry.Goals as goal

pub returns-then-not-is_block_size : goal.returns-then-not-is_block_size
returns-then-not-is_block_size c =
    refused_size_lem (geometry_of c.args.g)
    (sym c.is_block_size.ensures ∙ c.if-not-is_block_size.true)

pub returns-then-height-lt2 : goal.returns-then-height-lt2
returns-then-height-lt2 c = refused_low (geometry_of c.args.g) c.if-height-lt2.true

pub returns-then-height-gt4 : goal.returns-then-height-gt4
returns-then-height-gt4 c = refused_high (geometry_of c.args.g) c.if-height-gt4.true
