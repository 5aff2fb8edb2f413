-- `reads::hidden::hidden_read` meets its contract: what is shown of the find. Assumes nothing.
use mathlib.Core.Path.{sym, ap, subst, ◌∙◌}
use Rattle.reads.specs.Finds.{Find, BlockInside, shown_find}
use Rattle.reads.proofs.Laws.Finds.{inside_hidden_find, shown_find-hidden_find}
use Rattle.reads.proofs.hidden.hidden_read.Goals as goal

pub show-requires : goal.show-requires
show-requires c =
    let a = c.args in
    subst (λ (find : Find). BlockInside find a.disk.now) (sym c.find_hidden.ensures)
    (inside_hidden_find a.disk.now a.number.0 a.blank.now)

pub returns : goal.returns
returns c =
    let a = c.args in
    c.show.ensures
    ∙ ap (λ (find : Find). shown_find find a.disk.now a.blank.now) c.find_hidden.ensures
    ∙ shown_find-hidden_find a.disk.now a.number.0 a.blank.now
