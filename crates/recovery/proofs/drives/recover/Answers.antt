-- `recovery::drives::recover` meets its contract: a disk that is no drive is left as it is, a drive is
-- mended. Assumes nothing.
use Rattle.layout.specs.Geometries.{geometry_of}
use Rattle.layout.specs.Refusals.{refusal_number, answer_number}
use Rattle.layout.proofs.Laws.Refusals.{handed_on}
use Rattle.recovery.proofs.Laws.Drives.{recovered_no_drive, recovered_drive}
use Rattle.recovery.proofs.drives.recover.Goals as goal

pub returns-in_err-g : goal.returns-in_err-g
returns-in_err-g c =
    rw (handed_on c.from_residual.ensures.1)
    (recovered_no_drive c.args.disk.now (refusal_number c.in_err-g.field-0.0) c.in_err-g.ensures)

pub returns : goal.returns
returns c =
    recovered_drive c.args.disk.now (geometry_of c.in_ok-g.g) c.in_ok-g.ensures
    c.mend_drive.new.disk (answer_number c.mend_drive.result) c.mend_drive.ensures
