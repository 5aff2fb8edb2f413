-- The start is asked for only of a geometry.
use Rattle.std.proofs.Common.{sym, ◌∙◌}
use Rattle.model.proofs.Laws.Geometry.{fits_of_is_geometry}
use Rattle.figures.proofs.layouts.start_of.Goals as goal

pub area_start-start-requires : goal.area_start-start-requires
area_start-start-requires c = fits_of_is_geometry _ (sym c.is_geometry.ensures ∙ c.if-is_geometry.true)
