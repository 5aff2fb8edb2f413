-- What waits, by the first one and those behind it, what a round makes of it, and how far the turns of a call
-- have come. Assumes nothing.
use Rattle.std.specs.Prelude.{true, List, [], ◌∷◌, ℕ, ◌+◌, drop, Some, None}
use Rattle.std.specs.Prelude as code
use Rattle.std.proofs.Math.Option.{Option, none, some}
use Rattle.model.specs.Geometry.{Geometry}
use Rattle.model.specs.Blocks.{Bytes}
use Rattle.model.specs.HiddenHalf.{HiddenWrite, HiddenState, blocked_state, placed_state}
use Rattle.model.specs.Line.{Offer, hidden_write_of, hidden_writes_of}
use Rattle.line.specs.declared.offers.Offer as declared
use Rattle.line.specs.Offers.{offer_of}
use Rattle.plans.specs.declared.states.State.{State}
use Rattle.plans.specs.declared.states.Turn.{Turn}
use Rattle.plans.specs.declared.states.Turn.TheVariants.{Still, Placed, Damaged}

-- ---- the first one ----

-- its number, 0 where nobody waits
abbrev pub first_number : code.Option declared.Offer → ℕ
first_number None = 0
first_number (Some offer) = offer.number.0

-- the place of its block among the lent ones
abbrev pub first_place : code.Option declared.Offer → Option ℕ
first_place None = none
first_place (Some offer) = some offer.place

-- the hidden writes that wait: its own, and those behind it
abbrev pub waiting_by :
    Geometry → (blocks : Bytes) → code.Option declared.Offer → (later : List HiddenWrite) → List HiddenWrite
waiting_by g blocks None later = []
waiting_by g blocks (Some offer) later = hidden_write_of g blocks (offer_of offer) ∷ later

-- what a round with this turn makes of a state in which these wait behind the first one
abbrev pub turned : Turn → (later : List HiddenWrite) → HiddenState → HiddenState
turned Still later state = state
turned Placed later state = placed_state state later
turned Damaged later state = blocked_state state

-- ---- the turns of a call ----

abbrev pub state_after : State → Turn → State
state_after state Still = state
state_after state Placed = record { placed = state.placed + 1; met_damage = state.met_damage }
state_after state Damaged = record { placed = state.placed; met_damage = true }

-- the state of a call's hidden writes that a declared one says, by the turns and the lent blocks
abbrev pub state_of : Geometry → State → (turns : List Offer) → (blocks : Bytes) → HiddenState
state_of g state turns blocks =
    record {
      waiting = drop state.placed (hidden_writes_of g blocks turns);
      placed = state.placed;
      met_damage = state.met_damage;
    }
