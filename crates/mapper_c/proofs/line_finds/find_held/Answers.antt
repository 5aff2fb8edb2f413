-- `mapper_c::line_finds::find_held` meets its contract: what is found through the line, as C is told it.
-- Assumes nothing.
use mathlib.Core.Path.{ap, ◌∙◌}
use Rattle.line.specs.Offers.{line_of}
use Rattle.answers_c.specs.Finds.{found_line_of}
use Rattle.mapper_c.proofs.Laws.LineFinds.{held_found}
use Rattle.mapper_c.proofs.line_finds.find_held.Goals as goal

pub returns : goal.returns
returns c =
    let a = c.args in
    held_found a.disk.now a.number a.blank.now a.blocks.now (line_of a.line)
    c.from.result (c.from.ensures ∙ ap found_line_of c.find_hidden_line.ensures)
