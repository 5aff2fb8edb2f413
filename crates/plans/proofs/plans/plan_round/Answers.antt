-- `plan_round` meets its contract: the row, the owner and the plan are the hidden half of the model. Assumes
-- nothing.
use Rattle.layout.specs.Geometries.{geometry_of}
use Rattle.plans.proofs.Laws.Plans.{Settled, settled, planned}
use Rattle.plans.proofs.plans.plan_round.Goals as goal

pub returns : goal.returns
returns c =
    let a = c.args in
    let owned = c.owner_of-own in
    let known : Settled (geometry_of a.g) a.disk.now a.slot a.first c.row_at-row.result
    c.walk_owner-owner.result =
    settled (geometry_of a.g) a.disk.now a.slot owned.result.0 a.first
    c.row_at-row.result c.walk_owner-owner.result c.is_some.result c.is_allocated.result
    c.is_live.result owned.ensures c.walk_owner-owner.ensures c.is_some.ensures
    c.is_allocated.ensures c.is_live.ensures c.row_at-row.ensures in
    planned (geometry_of a.g) a.disk.now a.slot a.first c.row_at-row.result
    c.walk_owner-owner.result known c.plan_half-plan.result c.plan_half-plan.ensures
    c.turn_of.result c.turn_of.ensures
