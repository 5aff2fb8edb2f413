-- The row's drive is written without an offer, and nothing is to be stored.
use Rattle.std.proofs.Common.{None, replicate, ap, ◌∙◌}
use Rattle.figures.specs.declared.drives.Drive.{Drive}
use Rattle.figures.specs.Writes.{row_write, said_of, write_agrees, refused_agrees}
use Rattle.figures.proofs.writes.RefusedRowRow.run.Goals as goal

pub returns : goal.returns
unfolding refused_agrees
returns c =
    let row = c.args.self in
    let write = row_write row.3 row.4 None row.5 in
    let said = said_of row.7 0 0 3 in
    c.write_drive.ensures
    ∙ ap (λ (drive : Drive). write_agrees drive row.2 row.6 write said (replicate 17 0))
    c.drive_with-drive.ensures
