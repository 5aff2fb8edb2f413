-- The offer enters on the drive that is made, and what it comes to is compared.
use Rattle.line_figures.proofs.Laws.Enters.{entered_on}
use Rattle.line_figures.proofs.enters.enter_on.Goals as goal

pub returns : goal.returns
returns c =
    entered_on c.args.row c.three_blocks-blocks.ensures c.enter_line-entered.ensures c.unwrap_or-left.ensures
    c.entered_as-told.ensures c.print_count-answered.ensures c.line_by.ensures c.print_left-kept.ensures
    c.args.disk.now c.prepare-line.ensures
