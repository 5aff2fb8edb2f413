-- `line_calls::finds::show_line` meets its contract: what the drive shows, or the block at the place, which
-- lies wholly among the lent ones. Assumes nothing.
use mathlib.Core.Path.{◌≡◌, ap, subst, ◌∙◌}
use Rattle.std.specs.Prelude.{Result, Ok}
use Rattle.model.proofs.Laws.Refusals.{long_enough}
use Rattle.layout.specs.declared.refusals.Refusal.{Refusal}
use Rattle.line_calls.specs.declared.finds.LineFind.{LineFind}
use Rattle.line_calls.specs.declared.finds.LineFind.TheVariants.{Lent}
use Rattle.line_calls.specs.Finds.{line_find_of, AmongLent, FoundInside}
use Rattle.line_calls.proofs.finds.show_line.Goals as goal

pub geometry_in-requires : goal.geometry_in-requires
geometry_in-requires c =
    let a = c.args in
    let lent : c.in-Ok-Lent.field-0 ≡ Lent c.in-Ok-Lent.place =
    rw c.in-Ok-Lent.is at c.in-Ok-Lent.field-0-is in
    let inside : AmongLent a.disk.now a.blocks.now c.in-Ok-Lent.place =
    subst (λ (find : Result LineFind Refusal). FoundInside (line_find_of find) a.disk.now a.blocks.now)
    (c.in-Ok-Lent.is ∙ ap Ok lent) c.requires in
    long_enough a.disk.now inside.accepted
