-- The drive is made, and then the one entry and the other are put.
use Rattle.figures.specs.Drives.{drive_on}
use Rattle.figures.proofs.drives.make_drive.Goals as goal

pub returns : goal.returns
unfolding drive_on
returns c = cc
