-- What is asked is the first so many bytes of the row's drive.
use Rattle.std.proofs.Common.{ap, ◌∙◌}
use Rattle.model.specs.Blocks.{Bytes}
use Rattle.questions.specs.Drives.{identity_in}
use Rattle.figures.specs.Asks.{identity_told, identity_agrees}
use Rattle.figures.proofs.Laws.Drives.{lent_is}
use Rattle.figures.proofs.asks.IdentityRowRow.run.Goals as goal

pub returns : goal.returns
unfolding identity_agrees
returns c =
    let row = c.args.self in
    c.ask_identity.ensures
    ∙ ap (λ (disk : Bytes). identity_told row (identity_in disk))
    (lent_is row.2 c.part_of.ensures c.small_drive-disk.ensures c.drive_with-drive.ensures)
