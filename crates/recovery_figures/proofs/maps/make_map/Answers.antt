-- Five entries of a formatted disk are put, and the bitmap is set.
use Rattle.recovery_figures.specs.Maps.{map_made}
use Rattle.recovery_figures.proofs.maps.make_map.Goals as goal

pub returns : goal.returns
unfolding map_made
returns c = cc
