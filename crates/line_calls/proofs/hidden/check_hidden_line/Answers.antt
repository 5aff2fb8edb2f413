-- `line_calls::hidden::check_hidden_line` meets its contract: the refusal of the find. Assumes nothing.
use mathlib.Core.Path.{sym, ap, ◌∙◌}
use Rattle.std.specs.Prelude.{Ok}
use Rattle.layout.specs.Refusals.{answer_number}
use Rattle.layout.proofs.Laws.Refusals.{handed_on}
use Rattle.line.specs.Offers.{line_of}
use Rattle.line_calls.specs.Finds.{line_refusal_of}
use Rattle.line_calls.proofs.Laws.Finds.{line_refusal_of-line_find_of, line_refusal_of-line_find}
use Rattle.line_calls.proofs.hidden.check_hidden_line.Goals as goal

pub returns-in_err-find_hidden_line : goal.returns-in_err-find_hidden_line
returns-in_err-find_hidden_line c =
    let a = c.args in
    ap answer_number (handed_on c.from_residual.ensures.1)
    ∙ ap line_refusal_of c.in_err-find_hidden_line.ensures
    ∙ line_refusal_of-line_find a.disk.now a.number.0 a.blank.now a.blocks.now (line_of a.line)

pub returns : goal.returns
returns c =
    let a = c.args in
    sym (line_refusal_of-line_find_of (Ok c.in_ok-find_hidden_line.field-0))
    ∙ ap line_refusal_of c.in_ok-find_hidden_line.ensures
    ∙ line_refusal_of-line_find a.disk.now a.number.0 a.blank.now a.blocks.now (line_of a.line)
