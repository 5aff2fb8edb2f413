-- `check_place` meets its contract: one law for each way through its checks. Assumes nothing.
use mathlib.Core.Path.{◌∙◌, sym}
use Rattle.model.proofs.Laws.CallChecks.{public_number_refused, public_size_refused, public_unplaced_passes}
use Rattle.model.proofs.Laws.CallChecks.{public_placed_passes, public_entry_refused}
use Rattle.layout.specs.Geometries.{geometry_of}
use Rattle.checks.proofs.places.check_place.Goals as goal

-- ---- answers ----
pub returns-then-publics-asked : goal.returns-then-publics-asked
returns-then-publics-asked c =
    let a = c.args in
    public_number_refused (geometry_of a.g) a.disk.now a.number.0 a.size c.if-publics-asked.true

pub returns-then-size-g : goal.returns-then-size-g
returns-then-size-g c =
    let a = c.args in
    public_size_refused (geometry_of a.g) a.disk.now a.number.0 a.size c.if-publics-asked.false
    c.if-size-g.true

pub returns-then-entry-eq0 : goal.returns-then-entry-eq0
returns-then-entry-eq0 c =
    let a = c.args in
    public_unplaced_passes (geometry_of a.g) a.disk.now a.number.0 a.size c.if-publics-asked.false
    c.if-size-g.false c.map_entry-entry.result.0 c.map_entry-entry.ensures c.if-entry-eq0.true

pub returns-then-is_place : goal.returns-then-is_place
returns-then-is_place c =
    let a = c.args in
    public_placed_passes (geometry_of a.g) a.disk.now a.number.0 a.size c.if-publics-asked.false
    c.if-size-g.false c.map_entry-entry.result.0 c.map_entry-entry.ensures
    (sym c.is_place.ensures ∙ c.if-is_place.true)

pub returns : goal.returns
returns c =
    let a = c.args in
    public_entry_refused (geometry_of a.g) a.disk.now a.number.0 a.size c.if-publics-asked.false
    c.if-size-g.false c.map_entry-entry.result.0 c.map_entry-entry.ensures
    c.if-entry-eq0.false (sym c.is_place.ensures ∙ c.if-is_place.false)
