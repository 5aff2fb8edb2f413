-- `reads::public::check_public` meets its contract: the refusal of the find. Assumes nothing.
use mathlib.Core.Path.{sym, ap, ◌∙◌}
use Rattle.std.specs.Prelude.{Ok}
use Rattle.layout.specs.Refusals.{answer_number}
use Rattle.layout.proofs.Laws.Refusals.{handed_on}
use Rattle.reads.specs.Finds.{refusal_of}
use Rattle.reads.proofs.Laws.Finds.{refusal_of-find_of, refusal_of-public_find}
use Rattle.reads.proofs.public.check_public.Goals as goal

pub returns-in_err-find_public : goal.returns-in_err-find_public
returns-in_err-find_public c =
    let a = c.args in
    ap answer_number (handed_on c.from_residual.ensures.1) ∙ ap refusal_of c.in_err-find_public.ensures
    ∙ refusal_of-public_find a.disk.now a.number.0 a.blank.now

pub returns : goal.returns
returns c =
    let a = c.args in
    sym (refusal_of-find_of (Ok c.in_ok-find_public.field-0)) ∙ ap refusal_of c.in_ok-find_public.ensures
    ∙ refusal_of-public_find a.disk.now a.number.0 a.blank.now
