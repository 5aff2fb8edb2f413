-- The five lines on zeros.
use Rattle.recovery_figures.specs.Listed.{five_drive}
use Rattle.recovery_figures.proofs.listed.five_lines.Goals as goal

pub returns : goal.returns
unfolding five_drive
returns c = c.write_five.ensures
