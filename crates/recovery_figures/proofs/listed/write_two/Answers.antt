-- The lines are written one after another.
use Rattle.recovery_figures.specs.Listed.{two_written}
use Rattle.recovery_figures.proofs.listed.write_two.Goals as goal

pub returns : goal.returns
unfolding two_written
returns c = cc
