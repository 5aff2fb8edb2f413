-- The place is asked for only for a slot of a geometry.
use Rattle.std.proofs.Common.{sym, ◌∙◌}
use Rattle.model.proofs.Laws.Geometry.{fits_of_is_geometry}
use Rattle.figures.proofs.layouts.place_of.Goals as goal

pub bit_place-requires-clause-fits : goal.bit_place-requires-clause-fits
bit_place-requires-clause-fits c = fits_of_is_geometry _ (sym c.is_geometry.ensures ∙ c.if-is_geometry.true)
