-- `recovery::entries::is_formed` meets its contract: a 0 passes, any other entry is tested. Assumes nothing.
use mathlib.Core.Path.{sym, ◌∙◌}
use borrow.Author.Tests.{eqb-true, eqb-false}
use Rattle.layout.specs.Geometries.{geometry_of}
use Rattle.recovery_model.proofs.Laws.Steps.{are_starts-zero, are_starts_some}
use Rattle.recovery.proofs.entries.is_formed.Goals as goal

pub returns-then-eq : goal.returns-then-eq
returns-then-eq c =
    let a = c.args in
    c.if-eq.true ∙ sym (are_starts-zero (geometry_of a.g) a.entry.0
    (eqb-true a.entry.0 0 (sym c.eq.ensures ∙ c.if-eq.true)))

pub returns-else-eq : goal.returns-else-eq
returns-else-eq c =
    let a = c.args in
    c.is_slot_start.ensures ∙ sym (are_starts_some (geometry_of a.g) a.entry.0
    (eqb-false a.entry.0 0 (sym c.eq.ensures ∙ c.if-eq.false)))
