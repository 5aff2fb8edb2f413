-- `line_calls::hidden::hidden_read_line` meets its contract: what is shown of the find. Assumes nothing.
use mathlib.Core.Path.{sym, ap, subst, ◌∙◌}
use Rattle.line.specs.Offers.{line_of}
use Rattle.line_calls.specs.Finds.{LineFind, FoundInside, shown_line_find}
use Rattle.line_calls.proofs.Laws.Finds.{inside_line_find, shown_line_find-line_find}
use Rattle.line_calls.proofs.hidden.hidden_read_line.Goals as goal

pub show_line-requires : goal.show_line-requires
show_line-requires c =
    let a = c.args in
    subst (λ (find : LineFind). FoundInside find a.disk.now a.blocks.now)
    (sym c.find_hidden_line.ensures)
    (inside_line_find a.disk.now a.number.0 a.blank.now a.blocks.now (line_of a.line))

pub returns : goal.returns
returns c =
    let a = c.args in
    c.show_line.ensures
    ∙ ap (λ (find : LineFind). shown_line_find find a.disk.now a.blank.now a.blocks.now)
    c.find_hidden_line.ensures
    ∙ shown_line_find-line_find a.disk.now a.number.0 a.blank.now a.blocks.now (line_of a.line)
