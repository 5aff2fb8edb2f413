-- `reads::public::public_read` meets its contract: what is shown of the find. Assumes nothing.
use mathlib.Core.Path.{sym, ap, subst, ◌∙◌}
use Rattle.reads.specs.Finds.{Find, BlockInside, shown_find}
use Rattle.reads.proofs.Laws.Finds.{inside_public_find, shown_find-public_find}
use Rattle.reads.proofs.public.public_read.Goals as goal

pub show-requires : goal.show-requires
show-requires c =
    let a = c.args in
    subst (λ (find : Find). BlockInside find a.disk.now) (sym c.find_public.ensures)
    (inside_public_find a.disk.now a.number.0 a.blank.now)

pub returns : goal.returns
returns c =
    let a = c.args in
    c.show.ensures
    ∙ ap (λ (find : Find). shown_find find a.disk.now a.blank.now) c.find_public.ensures
    ∙ shown_find-public_find a.disk.now a.number.0 a.blank.now
