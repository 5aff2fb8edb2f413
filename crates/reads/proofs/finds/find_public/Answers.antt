-- `reads::finds::find_public` meets its contract: the drive's refusal, the number's, or what the map's entry
-- says. Assumes nothing.
use mathlib.Core.Path.{sym, refl, ap, ◌∙◌}
use lib.ListN.{length}
use Rattle.model.proofs.Laws.Chains.{accepted_of_place}
use Rattle.layout.specs.Geometries.{geometry_of}
use Rattle.layout.proofs.Laws.Refusals.{refusal-some, handed_on}
use Rattle.reads.specs.Finds.{find_of}
use Rattle.reads.proofs.Laws.Finds.{public_find_drive, public_find_place, public_find_entry}
use Rattle.reads.proofs.Laws.Finds.{entry_find-zero, entry_find_some}
use Rattle.reads.proofs.finds.find_public.Goals as goal

pub returns-in_err-g : goal.returns-in_err-g
returns-in_err-g c =
    let a = c.args in
    ap find_of (handed_on c.from_residual.ensures.1)
    ∙ public_find_drive a.disk.now a.number.0 a.blank.now c.in_err-g.ensures

pub returns-in_err-check_place : goal.returns-in_err-check_place
returns-in_err-check_place c =
    let a = c.args in
    ap find_of (handed_on c.from_residual-in_err-check_place.ensures.1)
    ∙ public_find_place a.disk.now a.number.0 a.blank.now c.in_ok-g.ensures
    c.in_err-check_place.ensures (refusal-some c.in_err-check_place.field-0.0)

pub map_entry-entry-requires-clause-number_lt_publics : goal.map_entry-entry-requires-clause-number_lt_publics
map_entry-entry-requires-clause-number_lt_publics c =
    let a = c.args in
    (accepted_of_place (geometry_of c.in_ok-g.g) a.disk.now a.number.0 (length a.blank.now)
    (sym c.in_ok-check_place.ensures)).number_inside

pub returns-then-entry-eq0 : goal.returns-then-entry-eq0
returns-then-entry-eq0 c =
    let a = c.args in
    entry_find-zero c.map_entry-entry.result.0 c.if-entry-eq0.true
    ∙ public_find_entry a.disk.now a.number.0 a.blank.now c.in_ok-g.ensures
    c.in_ok-check_place.ensures refl c.map_entry-entry.ensures

pub returns : goal.returns
returns c =
    let a = c.args in
    entry_find_some c.map_entry-entry.result.0 c.if-entry-eq0.false
    ∙ public_find_entry a.disk.now a.number.0 a.blank.now c.in_ok-g.ensures
    c.in_ok-check_place.ensures refl c.map_entry-entry.ensures
