-- `recovery::entries::mark_entry` meets its contract: a 0 marks nothing, any other entry is the start of one
-- of the slots. Assumes nothing.
use mathlib.Core.Path.{◌≡◌, sym, ◌∙◌}
use mathlib.Core.Logic.{◌≢◌}
use mathlib.Core.Bool.{Bool, true, not}
use Prim.Native.Nat.{ℕ}
use lib.Dec.{eqb}
use borrow.Author.Tests.{eqb-true, eqb-false, not-true, not-false}
use Rattle.layout.specs.Geometries.{geometry_of}
use Rattle.recovery_model.proofs.Laws.Steps.{with_marks-zero}
use Rattle.recovery.proofs.Laws.Entries.{formed_above, formed_slot, entry_marked}
use Rattle.recovery.proofs.entries.mark_entry.Goals as goal

is_some : (entry : ℕ) {differs : Bool} → differs ≡ not (eqb entry 0) → differs ≡ true → entry ≢ 0
is_some entry told e = eqb-false entry 0 (not-true (eqb entry 0) (sym told ∙ e))

pub slot_of-requires-clause-g_bound : goal.slot_of-requires-clause-g_bound
slot_of-requires-clause-g_bound c =
    formed_above (geometry_of c.args.g) c.args.entry.0 c.requires.value
    (is_some c.args.entry.0 c.ne.ensures c.if-ne.true)

pub mark_slot-requires-clause-slot_lt_slots : goal.mark_slot-requires-clause-slot_lt_slots
mark_slot-requires-clause-slot_lt_slots c =
    formed_slot (geometry_of c.args.g) c.args.entry.0 c.requires.value
    (is_some c.args.entry.0 c.ne.ensures c.if-ne.true) c.slot_of.result c.slot_of.ensures

pub returns-then-ne : goal.returns-then-ne
returns-then-ne c =
    let a = c.args in
    entry_marked (geometry_of a.g) a.entry.0 a.disk.now (is_some a.entry.0 c.ne.ensures c.if-ne.true)
    c.slot_of.result c.slot_of.ensures c.mark_slot.new.disk c.mark_slot.ensures

pub returns-else-ne : goal.returns-else-ne
returns-else-ne c =
    let a = c.args in
    sym (with_marks-zero (geometry_of a.g) a.entry.0 a.disk.now
    (eqb-true a.entry.0 0 (not-false _ (sym c.ne.ensures ∙ c.if-ne.false))))
