-- Laws of a round by its plan: the planned round can be stored, its stores are the model's round, of which
-- those are made that the bound leaves room for, and what it answers. Assumes nothing.
use mathlib.Core.Path.{◌≡◌, sym, ap, ap₂, ◌∙◌}
use mathlib.Core.List.{List, [], ◌∷◌, ◌++◌}
use Prim.Native.Nat.{ℕ, ◌+◌, ◌-◌, ◌≤◌, min}
use native.Mathlib.Omega.{arith}
use lib.Dec.{ltb}
use lib.ListN.{length, take}
use Rattle.std.specs.Prelude.{Option}
use Rattle.model.specs.Geometry.{Geometry, Fits, block_width}
use Rattle.model.specs.Blocks.{Bytes, DiskAddress}
use Rattle.model.specs.Stores.{Trace}
use Rattle.model.specs.Table as model
use Rattle.model.specs.HiddenHalf.{HiddenWrite, HiddenState, HiddenHalf, half, hidden_half, row_of}
use Rattle.model.specs.Rounds.{public_store, header_store, round_trace, choice_goes_on}
use Rattle.model.proofs.Laws.Traces.{round_trace_is}
use Rattle.stores.specs.Made.{LentFor, Made}
use Rattle.table.specs.Rows.{public_of}
use Rattle.line.specs.declared.offers.Offer.{Offer}
use Rattle.plans.specs.declared.plans.Plans.{Plans}
use Rattle.plans.specs.declared.public_plans.PublicPlan.{PublicPlan}
use Rattle.plans.specs.HiddenPlans.{hidden_trace}
use Rattle.plans.specs.PublicPlans.{PublicPlanned}
use Rattle.plans.specs.States.{waiting_by, turned}
use Rattle.plans.specs.Plans.{Planned}
use Rattle.round_stores.specs.declared.planned.PlannedRound.{PlannedRound}
use Rattle.round_stores.specs.Planned.{planned_trace, planned_count, Storable}
use Rattle.round_stores.proofs.Laws.Planned.{length-planned_trace}
use Rattle.rounds.specs.Rounds.{choice_at, round_at, StoresReady, RoundReady}
use Rattle.rounds.proofs.Laws.Bounds.{take_counted, ltb_counted}

-- a round whose halves are planned
pub record Begun (g : Geometry) (disk : Bytes) (number slot : ℕ) (content random : Bytes)
    (first : Option Offer) (blocks : Bytes) (plans : Plans) (public : PublicPlan) : Type 0 where
  pub fits : Fits g
  pub ready : RoundReady g disk number slot content random first blocks
  pub planned : Planned g disk slot first plans
  pub public_planned : PublicPlanned g disk number slot plans.choice public

module _ {g : Geometry} {disk : Bytes} {number slot : ℕ} {content random : Bytes} {first : Option Offer}
    {blocks : Bytes} {plans : Plans} {public : PublicPlan}
    (begun : Begun g disk number slot content random first blocks plans public) where
  abbrev round : PlannedRound
  round = record { slot = slot; public = public; hidden = plans.plan }

  step_storable : Storable g round content blocks random
  step_storable =
      record {
        placed =
            record {
              slot_inside = begun.ready.slot_inside;
              public_placed = begun.public_planned.placed;
              hidden_placed = begun.planned.placed;
            };
        content_whole = begun.ready.content_whole;
        offered_lent = begun.planned.lent blocks begun.ready.first_lent;
        random_enough = begun.ready.random_enough;
      }

  -- the round of a state in which this one is first
  module _ (later : List HiddenWrite) (state : HiddenState)
      (waits : state.waiting ≡ waiting_by g blocks first later) where
    half_is :
        hidden_half g disk slot random state ≡
        half (hidden_trace plans.plan g disk slot blocks random) (turned plans.turn later state)
    half_is = begun.planned.half_is blocks random later state waits

    choice_is : public_of plans.choice ≡ choice_at g disk slot state
    choice_is =
        begun.planned.chosen blocks later
        ∙ sym (ap (λ (writes : List HiddenWrite). (row_of g disk slot writes).public) waits)

    -- the planned round is the model's
    round_is :
        round_at g disk number slot content random state ≡ planned_trace round g disk content blocks random
    round_is =
        ap₂ (λ (choice : model.PublicChoice) (xs : Trace). round_trace choice g disk number slot content xs)
        (sym choice_is) (ap (λ (h : HiddenHalf). h.trace) half_is)
        ∙ round_trace_is g disk slot _ number content _
        ∙ ap₂ (λ (choice : model.PublicChoice) (xs : Trace).
        public_store choice g disk slot content ∷
        (hidden_trace plans.plan g disk slot blocks random ++ (xs ++ (header_store g disk slot ∷ []))))
        (sym begun.public_planned.chosen) begun.public_planned.stores_are

    counted : length (round_at g disk number slot content random state) ≡ planned_count g round
    counted =
        ap length round_is
        ∙ length-planned_trace g begun.fits round disk content blocks random

    module _ (next bound : ℕ) {count : ℕ} (fewer : count ≡ min (planned_count g round) (bound - next)) where
      pub step_ready :
          {buffer : Bytes} {list : List DiskAddress} →
          LentFor g disk buffer list next (length (round_at g disk number slot content random state)) →
          StoresReady g disk buffer list next round count content blocks random
      step_ready lent =
          record { lent = rw round_is at lent; storable = step_storable; count_most = omega arith }

      pub step_made :
          {list entered : List DiskAddress} {last : ℕ} {after : Bytes} →
          Made (block_width g) (take count (planned_trace round g disk content blocks random)) disk list next
          after entered last →
          Made (block_width g) (take (bound - next) (round_at g disk number slot content random state)) disk
          list next after entered last
      step_made made =
          rw (← take_counted (round_at g disk number slot content random state) next bound counted fewer)
          (rw round_is made)

      pub step_cut :
          next ≤ bound →
          ltb count (planned_count g round) ≡
          ltb bound (next + length (round_at g disk number slot content random state))
      step_cut = ltb_counted (round_at g disk number slot content random state) next bound counted fewer

    pub step_state : turned plans.turn later state ≡ (hidden_half g disk slot random state).state
    step_state = sym (ap (λ (h : HiddenHalf). h.state) half_is)

    pub step_goes_on : choice_goes_on (public_of plans.choice) ≡ choice_goes_on (choice_at g disk slot state)
    step_goes_on = ap choice_goes_on choice_is
