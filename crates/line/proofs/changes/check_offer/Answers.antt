-- `check_offer` meets its contract: one law for each way through its tests. Assumes nothing.
use Rattle.std.proofs.Common.{arith}
use Rattle.model.proofs.Laws.LineSteps.{line_offer_number_refused}
use Rattle.layout.specs.Geometries.{geometry_of}
use Rattle.line.specs.Offers.{offer_of}
use Rattle.line.proofs.Laws.Faults.{offer_fault_outside, offer_fault_none}
use Rattle.line.proofs.changes.check_offer.Goals as goal

pub returns-then-hidden-asked : goal.returns-then-hidden-asked
returns-then-hidden-asked c =
    let a = c.args in
    λ blocks sized.
    line_offer_number_refused (geometry_of a.g) blocks (offer_of a.offer) c.if-hidden-asked.true

pub returns-then-count-offer : goal.returns-then-count-offer
returns-then-count-offer c =
    let a = c.args in
    λ blocks sized.
    offer_fault_outside (geometry_of a.g) (offer_of a.offer) a.lent (omega arith)
    c.if-hidden-asked.false blocks sized c.if-count-offer.true

pub returns : goal.returns
returns c =
    let a = c.args in
    λ blocks sized.
    offer_fault_none (geometry_of a.g) (offer_of a.offer) a.lent (omega arith)
    c.if-hidden-asked.false blocks sized c.if-count-offer.false
