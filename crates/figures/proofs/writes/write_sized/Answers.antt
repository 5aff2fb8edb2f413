-- The bytes that are lent are the first so many of the drive.
use Rattle.std.proofs.Common.{◌≡◌, length, replicate, ◌∙◌}
use Rattle.std.proofs.lemmas.List.{length-replicate}
use Rattle.figures.specs.Writes.{agrees_on}
use Rattle.figure_lines.proofs.Laws.Counts.{cut_lent}
use Rattle.figures.proofs.writes.write_sized.Goals as goal

pub returns : goal.returns
returns g c =
    let a = c.args in
    let whole : length (replicate g.row.N 0) ≡ g.row.N = length-replicate g.row.N 0 in
    c.write_on.ensures.agrees_is
    ∙ cut_lent (agrees_on a.room a.write a.said a.stored) a.bytes g.row.N _ c.min-count.ensures
    (c.make_drive.auto.disk ∙ whole) c.make_drive.ensures
