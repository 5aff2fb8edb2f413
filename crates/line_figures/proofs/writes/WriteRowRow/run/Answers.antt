-- The bytes that are lent are the first so many of a disk of 1952.
use Rattle.std.proofs.Common.{replicate, refl, ◌∙◌}
use Rattle.model.specs.Blocks.{Bytes}
use Rattle.figure_lines.proofs.Laws.Counts.{cut_lent}
use Rattle.line_figures.specs.Writes.{write_told, row_case, line_agrees}
use Rattle.line_figures.proofs.writes.WriteRowRow.run.Goals as goal

pub returns : goal.returns
unfolding line_agrees
returns c =
    let row = c.args.self in
    c.write_on.ensures.agrees_is
    ∙ cut_lent (λ (disk : Bytes). write_told row (row_case row disk)) row.1 1952 (replicate 1952 row.0)
    c.min-count.ensures refl refl
