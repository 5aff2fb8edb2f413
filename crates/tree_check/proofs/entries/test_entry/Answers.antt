-- `test_entry` meets its contract: 13 and 14 by a law each, else what the owner tells. Assumes nothing.
use Rattle.model.specs.TreeCheck.{met_entry}
use Rattle.model.proofs.Laws.TreeCheck.{fault_thirteen, fault_fourteen}
use Rattle.layout.specs.declared.refusals.Refusal.TheVariants as refusal
use Rattle.layout.specs.Geometries.{geometry_of}
use Rattle.tree_check.proofs.Laws.Entries.{tested_fault}
use Rattle.tree_check.proofs.entries.test_entry.Goals as goal

pub returns-then-not-is_formed : goal.returns-then-not-is_formed
returns-then-not-is_formed c =
    let a = c.args in
    let g = geometry_of a.g in
    let met = met_entry a.level a.first a.entry.0 in
    tested_fault g a.disk.now met refusal.IllFormed
    (fault_thirteen g a.disk.now met c.is_formed.result c.is_formed.ensures c.if-not-is_formed.true)

pub returns-then-g-first : goal.returns-then-g-first
returns-then-g-first c =
    let a = c.args in
    let g = geometry_of a.g in
    let met = met_entry a.level a.first a.entry.0 in
    tested_fault g a.disk.now met refusal.PastHidden
    (fault_fourteen g a.disk.now met c.is_formed.result c.is_formed.ensures c.if-not-is_formed.false
    c.if-g-first.true)
