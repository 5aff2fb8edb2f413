-- `questions::drives::drive_size` meets its contract: 1 outside the limits, else the blocks that are counted
-- and their bytes. Assumes nothing.
use mathlib.Core.Path.{◌≡◌, sym, ◌∙◌}
use mathlib.Core.Bool.{true}
use native.Mathlib.Omega.{arith}
use Rattle.model.specs.Geometry.{Fits, is_geometry}
use Rattle.model.proofs.Laws.Geometry.{fits_of_is_geometry}
use Rattle.layout.specs.Geometries.{geometry_of}
use Rattle.layout.proofs.Laws.Geometry.{bounded_of_fits}
use Rattle.questions.proofs.Laws.Drives.{size_for_refused, size_for-told, bytes_small}
use Rattle.questions.proofs.drives.drive_size.Goals.{Else-not-is_geometry}
use Rattle.questions.proofs.drives.drive_size.Goals as goal

good : (c : Else-not-is_geometry) → is_geometry (geometry_of c.args.geometry) ≡ true
good c = sym c.is_geometry.ensures ∙ c.if-not-is_geometry.false

fits : (c : Else-not-is_geometry) → Fits (geometry_of c.args.geometry)
fits c = fits_of_is_geometry (geometry_of c.args.geometry) (good c)

pub returns-then-not-is_geometry : goal.returns-then-not-is_geometry
returns-then-not-is_geometry c =
    size_for_refused (geometry_of c.args.geometry) (sym c.is_geometry.ensures ∙ c.if-not-is_geometry.true)

pub block_count-blocks-requires : goal.block_count-blocks-requires
block_count-blocks-requires c =
    bounded_of_fits (geometry_of c.args.geometry)
    (fits (goal.at.block_count-blocks-requires c).Else-not-is_geometry)

pub overflow_cast-result : goal.overflow_cast-result
overflow_cast-result c =
    let inside = fits (goal.at.overflow_cast-result c).Else-not-is_geometry in
    omega (arith, inside.blocks_high, c.block_count-blocks.ensures)

pub overflow_mul-result : goal.overflow_mul-result
overflow_mul-result c =
    rw c.block_count-blocks.ensures
    (omega (
      arith,
      bytes_small (geometry_of c.args.geometry)
          (fits (goal.at.overflow_mul-result c).Else-not-is_geometry),
    ))

pub returns : goal.returns
returns c =
    size_for-told (geometry_of c.args.geometry) (good (goal.at.returns c).Else-not-is_geometry)
    c.block_count-blocks.result c.block_count-blocks.ensures
