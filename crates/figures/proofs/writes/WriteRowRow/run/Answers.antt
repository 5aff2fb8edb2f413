-- The row's drive is written, and its answer is to be 0.
use Rattle.std.proofs.Common.{ap, ◌∙◌}
use Rattle.figures.specs.declared.drives.Drive.{Drive}
use Rattle.figures.specs.Writes.{row_write, said_of, write_agrees, accepted_agrees}
use Rattle.figures.proofs.writes.WriteRowRow.run.Goals as goal

pub returns : goal.returns
unfolding accepted_agrees
returns c =
    let row = c.args.self in
    let write = row_write row.3 32 row.4 row.5 in
    let said = said_of 0 row.7 row.8 row.9 in
    c.write_drive.ensures
    ∙ ap (λ (drive : Drive). write_agrees drive row.2 row.6 write said row.10) c.drive_with-drive.ensures
