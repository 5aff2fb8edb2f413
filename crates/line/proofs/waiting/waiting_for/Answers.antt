-- `waiting_for` meets its contract: the number's first offer, where no refusal meets it. Assumes nothing.
use Rattle.std.proofs.Common.{refl}
use Rattle.layout.specs.Geometries.{geometry_of}
use Rattle.layout.proofs.Laws.Refusals.{refusal-some}
use Rattle.line.proofs.Laws.Waiting.{waits_of_good, nobody_of_bad, nobody_of_absent}
use Rattle.line.proofs.waiting.waiting_for.Goals as goal

pub returns-in_err-index : goal.returns-in_err-index
returns-in_err-index c =
    let a = c.args in
    rw c.from_residual.ensures
    (nobody_of_absent (geometry_of a.g) c.requires a.lent a.line a.number.0 c.in_err-index.ensures)

pub returns-in-Ok : goal.returns-in-Ok
returns-in-Ok c =
    let a = c.args in
    let found = c.in_ok-index in
    waits_of_good (geometry_of a.g) c.requires a.lent a.line a.number.0 found.index found.ensures 0
    c.in-Ok.ensures refl

pub returns-in-Err : goal.returns-in-Err
returns-in-Err c =
    let a = c.args in
    let found = c.in_ok-index in
    nobody_of_bad (geometry_of a.g) c.requires a.lent a.line a.number.0 found.index found.ensures
    _ c.in-Err.ensures (refusal-some _)
