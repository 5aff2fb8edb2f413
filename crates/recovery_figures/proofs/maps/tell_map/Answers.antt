-- The disk is recovered, and the bitmap compared.
use Rattle.recovery_figures.specs.Maps.{map_told}
use Rattle.recovery_figures.proofs.maps.tell_map.Goals as goal

pub returns : goal.returns
unfolding map_told
returns c = cc
