-- The disk is formatted, and then the entry is put.
use Rattle.line_cases.specs.Cases.{case_drive}
use Rattle.line_cases.proofs.cases.make_drive.Goals as goal

pub returns : goal.returns
unfolding case_drive
returns c = cc
