-- The bytes that are lent are the first so many of 5696.
use Rattle.std.proofs.Common.{ℕ, replicate, refl, ◌∙◌}
use Rattle.std.proofs.Math.ListN.{length-replicate}
use Rattle.model.specs.Blocks.{Bytes}
use Rattle.model.specs.Promises.Figures.{geometry}
use Rattle.figures.specs.Layouts.{formatted_agrees, format_agrees}
use Rattle.figure_lines.proofs.Laws.Counts.{cut_lent}
use Rattle.figures.proofs.layouts.FormatRowRow.run.Goals as goal

pub returns : goal.returns
unfolding format_agrees
returns c =
    let row = c.args.self in
    let disk : Bytes = replicate 5696 170 in
    let g = geometry row.0 row.1 row.2 row.3 row.4 in
    c.format_on.ensures.agreed
    ∙ cut_lent (λ (part : Bytes). formatted_agrees part g row.6 row.7 row.8) row.5 5696 disk
    c.min-bytes.ensures (length-replicate {A = ℕ} 5696 170) refl
