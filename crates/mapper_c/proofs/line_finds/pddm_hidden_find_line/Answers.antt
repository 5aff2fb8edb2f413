-- `pddm_hidden_find_line` meets its contract: the line by value is loaded from the lent one. Assumes nothing.
use Rattle.mapper_c.proofs.Laws.LineFinds.{found_of_held}
use Rattle.mapper_c.proofs.line_finds.pddm_hidden_find_line.Goals as goal

pub returns : goal.returns
returns c =
    let a = c.args in
    found_of_held a.disk.now a.number a.blank.now a.blocks.now a.line.now a.waiting c.load_lent-held.result
    c.find_held.result c.load_lent-held.ensures c.find_held.ensures
