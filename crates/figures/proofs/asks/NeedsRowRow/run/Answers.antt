-- What is asked is the row's drive.
use Rattle.std.proofs.Common.{ap, ◌∙◌}
use Rattle.model.specs.Blocks.{Bytes}
use Rattle.model.specs.Needs.{needs_of}
use Rattle.figures.specs.Drives.{small_drive}
use Rattle.figures.specs.Asks.{needs_told, needs_agrees}
use Rattle.figures.proofs.asks.NeedsRowRow.run.Goals as goal

pub returns : goal.returns
unfolding needs_agrees
returns c =
    let row = c.args.self in
    c.ask_needs.ensures
    ∙ ap (λ (disk : Bytes). needs_told row (needs_of disk row.2))
    (c.small_drive-disk.ensures ∙ ap small_drive c.drive_with-drive.ensures)
