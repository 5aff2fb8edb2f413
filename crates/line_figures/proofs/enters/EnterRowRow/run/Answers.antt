-- The bytes that are lent are the first so many of a disk of 1952.
use Rattle.std.proofs.Common.{replicate, refl, ◌∙◌}
use Rattle.model.specs.Blocks.{Bytes}
use Rattle.figure_lines.proofs.Laws.Counts.{cut_lent}
use Rattle.line_cases.specs.Cases.{case_from}
use Rattle.line_figures.specs.Enters.{enter_start, enter_told, enter_agrees}
use Rattle.line_figures.proofs.enters.EnterRowRow.run.Goals as goal

pub returns : goal.returns
unfolding enter_agrees
returns c =
    let row = c.args.self in
    c.enter_on.ensures.agrees_is
    ∙ cut_lent (λ (disk : Bytes). enter_told row (case_from (enter_start row) disk)) row.1 1952
    (replicate 1952 row.0) c.min-count.ensures refl refl
