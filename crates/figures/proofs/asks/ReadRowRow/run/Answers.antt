-- What is read is the first so many bytes of the row's drive.
use Rattle.std.proofs.Common.{ap, ◌∙◌}
use Rattle.figures.specs.Asks.{tells_read, read_agrees}
use Rattle.figures.proofs.Laws.Drives.{lent_is}
use Rattle.figures.proofs.asks.ReadRowRow.run.Goals as goal

pub returns : goal.returns
unfolding read_agrees
returns c =
    let row = c.args.self in
    c.ask_read.ensures
    ∙ ap (tells_read row)
    (lent_is row.2 c.part_of.ensures c.small_drive-disk.ensures c.drive_with-drive.ensures)
