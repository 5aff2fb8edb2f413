-- `mapper_c::finds::pddm_hidden_find` meets its contract: what is found, as C is told it. Assumes nothing.
use mathlib.Core.Path.{ap, ◌∙◌}
use Rattle.answers_c.specs.Finds.{found_of}
use Rattle.mapper_c.proofs.Laws.Finds.{hidden_answers}
use Rattle.mapper_c.proofs.finds.pddm_hidden_find.Goals as goal

pub returns : goal.returns
returns c =
    let a = c.args in
    hidden_answers a.disk.now a.number a.blank.now c.from.result
    (c.from.ensures ∙ ap found_of c.find_hidden.ensures)
