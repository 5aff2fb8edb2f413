-- `outcome_of` meets its contract: what is placed decides, then the damage that was met, and what is left.
-- Assumes nothing.
use Rattle.mapper.proofs.Laws.Outcomes.{outcome_placed, outcome_damaged, outcome_waiting, outcome_none}
use Rattle.mapper.proofs.within.outcome_of.Goals as goal

pub returns-then-state-ne0 : goal.returns-then-state-ne0
returns-then-state-ne0 c =
    λ bad writes counted sized whole.
    outcome_placed bad c.args.state writes counted sized c.if-state-ne0.true

pub returns-then-state : goal.returns-then-state
returns-then-state c =
    λ bad writes counted sized whole.
    outcome_damaged bad c.args.state writes counted sized c.if-state-ne0.false c.if-state.true

pub returns-then-state-count : goal.returns-then-state-count
returns-then-state-count c =
    λ bad writes counted sized whole.
    outcome_waiting bad c.args.state writes counted sized c.if-state-ne0.false c.if-state.false c.args.count
    whole c.if-state-count.true

pub returns : goal.returns
returns c =
    λ bad writes counted sized whole.
    outcome_none bad c.args.state writes counted sized c.if-state-ne0.false c.if-state.false c.args.count
    whole c.if-state-count.false
