-- `mapper_c::finds::pddm_public_find` meets its contract: what is found, as C is told it. Assumes nothing.
use mathlib.Core.Path.{ap, ◌∙◌}
use Rattle.answers_c.specs.Finds.{found_of}
use Rattle.mapper_c.proofs.Laws.Finds.{public_answers}
use Rattle.mapper_c.proofs.finds.pddm_public_find.Goals as goal

pub returns : goal.returns
returns c =
    let a = c.args in
    public_answers a.disk.now a.number a.blank.now c.from.result
    (c.from.ensures ∙ ap found_of c.find_public.ensures)
