-- The refusal and the first byte shown are compared with those of the model.
use Rattle.std.proofs.Common.{◌∙◌}
use Rattle.line.specs.Offers.{line_of}
use Rattle.line_figures.proofs.Laws.Writes.{read_agrees_lem}
use Rattle.line_figures.proofs.writes.print_read.Goals as goal

pub returns : goal.returns
returns c =
    let a = c.args in
    read_agrees_lem a.disk.now (line_of a.line) a.number a.answer a.shown c.three_blocks-blocks.ensures
    (c.from-2.ensures ∙ c.answer_number-fault.ensures ∙ c.check_hidden_line.ensures) c.read_shown-got.ensures
    c.print_count-answered.ensures c.print_count-seen.ensures
