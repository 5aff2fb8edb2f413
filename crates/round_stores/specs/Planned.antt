-- The stores of a round as it is planned, and how many there are. Assumes nothing.
use Rattle.std.specs.Prelude.{◌≡◌, ◌++◌, ℕ, ◌+◌, ◌*◌, ◌≤◌, ◌<◌, length}
use Rattle.model.specs.Geometry.{Geometry, Fits}
use Rattle.model.specs.Blocks.{Bytes}
use Rattle.model.specs.Stores.{Trace}
use Rattle.plans.specs.HiddenPlans.{offered_by, BlockLent, PathPlaced}
use Rattle.plans.specs.PublicPlans.{PublicPlaced}
use Rattle.slot_stores.specs.Slots.{slot_trace}
use Rattle.round_stores.specs.declared.planned.PlannedRound.{PlannedRound}
use Rattle.round_stores.specs.Endings.{ending_trace, ending_count}

-- the slot's stores and the root's, then map, bits and header
abbrev pub planned_trace : PlannedRound → Geometry → (disk content blocks random : Bytes) → Trace
planned_trace round g disk content blocks random =
    slot_trace round.public round.hidden g disk round.slot content blocks random ++
    ending_trace round.public g disk round.slot

-- how many there are
abbrev pub planned_count : Geometry → PlannedRound → ℕ
planned_count g round = g.height + 2 + ending_count round.public

-- slot, number and nodes stand on the drive
pub record RoundPlaced (g : Geometry) (round : PlannedRound) : Type 0 where
  pub slot_inside : round.slot < g.slots
  pub public_placed : PublicPlaced g round.slot round.public
  pub hidden_placed : PathPlaced g round.hidden

-- and a place of the round
pub record StoreReady (g : Geometry) (round : PlannedRound) (place : ℕ) : Type 0 where
  pub fits : Fits g
  pub placed : RoundPlaced g round
  pub place_inside : place < planned_count g round

-- a planned round that can be stored: slot, number and nodes of the plan stand on the drive, a whole block of
-- data, the block that is offered lent whole, and random bytes for one round
pub record Storable (g : Geometry) (round : PlannedRound) (content blocks random : Bytes) : Type 0 where
  pub placed : RoundPlaced g round
  pub content_whole : length content ≡ g.block_size
  pub offered_lent : BlockLent g blocks (offered_by round.hidden)
  pub random_enough : g.height * g.block_size ≤ length random
