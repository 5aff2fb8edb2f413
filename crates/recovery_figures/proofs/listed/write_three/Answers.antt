-- The lines are written one after another.
use Rattle.recovery_figures.specs.Listed.{three_written}
use Rattle.recovery_figures.proofs.listed.write_three.Goals as goal

pub returns : goal.returns
unfolding three_written
returns c = cc
