-- What is settled before a round's slot is stored: the plan of both halves. Assumes nothing.
use Rattle.std.specs.Prelude.{◌≡◌, true, false, cond, List, ℕ, Option, Some, None}
use Rattle.model.specs.Geometry.{Geometry}
use Rattle.model.specs.Blocks.{Bytes}
use Rattle.model.specs.HiddenTree.{is_damaged}
use Rattle.model.specs.HiddenHalf.{HiddenWrite, HiddenState, half, row_of, hidden_half}
use Rattle.hidden_map.specs.declared.walks.Trail.{Trail}
use Rattle.hidden_map.specs.Ends.{end_of}
use Rattle.hidden_map.specs.Walks.{Walked}
use Rattle.table.specs.declared.HiddenChoice.{HiddenChoice}
use Rattle.table.specs.declared.HiddenChoice.TheVariants.{Keep, Place, Fill}
use Rattle.table.specs.Rows.{public_of}
use Rattle.owners.specs.declared.Owner.{Owner}
use Rattle.owners.specs.Owners.{is_damaged_for}
use Rattle.line.specs.declared.offers.Offer.{Offer}
use Rattle.plans.specs.declared.hidden_plans.Data.TheVariants.{Own, Offered}
use Rattle.plans.specs.declared.hidden_plans.HiddenPlan.{HiddenPlan}
use Rattle.plans.specs.declared.hidden_plans.HiddenPlan.TheVariants as plan
use Rattle.plans.specs.HiddenPlans.{hidden_trace, offered_by, BlockLent, PathPlaced}
use Rattle.plans.specs.declared.states.Turn.{Turn}
use Rattle.plans.specs.declared.states.Turn.TheVariants.{Still, Placed, Damaged}
use Rattle.plans.specs.declared.plans.Plans.{Plans}
use Rattle.plans.specs.States.{first_place, waiting_by, turned}

-- ---- the hidden half ----

-- the owner's path with the slot's own data
abbrev pub kept_plan : Option Owner → HiddenPlan
kept_plan None = plan.Fill
kept_plan (Some owner) = plan.Path owner.number owner.trail.nodes Own

-- an offer's path with its block, unless the walk is damaged
abbrev pub placed_plan : Offer → Trail → HiddenPlan
placed_plan offer trail =
    cond (is_damaged (end_of trail.end)) plan.Back
    (plan.Path offer.number trail.nodes (Offered offer.place))

-- the plan for the first one waiting; what is placed has the nodes of the number's own walk
abbrev pub FirstPlanned : Geometry → (disk : Bytes) → Option Offer → HiddenPlan → Type 0
FirstPlanned g disk None hidden = hidden ≡ plan.Fill
FirstPlanned g disk (Some offer) hidden =
    (trail : Trail) × (Walked g disk offer.number.0 trail × (hidden ≡ placed_plan offer trail))

-- the plan by the table's choice
abbrev pub PlannedBy :
    HiddenChoice → Geometry → (disk : Bytes) → Option Owner → Option Offer → HiddenPlan → Type 0
PlannedBy Keep g disk owner first hidden = hidden ≡ kept_plan owner
PlannedBy Place g disk owner first hidden = FirstPlanned g disk first hidden
PlannedBy Fill g disk owner first hidden = hidden ≡ plan.Fill

-- and where the owner's walk is damaged the slot is written back
pub record HalfPlanned (g : Geometry) (disk : Bytes) (choice : HiddenChoice) (owner : Option Owner)
    (first : Option Offer) (hidden : HiddenPlan) : Type 0 where
  pub stopped : is_damaged_for owner ≡ true → hidden ≡ plan.Back
  pub chosen : is_damaged_for owner ≡ false → PlannedBy choice g disk owner first hidden

-- what a plan does with the first one waiting
abbrev pub turn_of : HiddenPlan → Turn
turn_of plan.Back = Damaged
turn_of (plan.Path number nodes Own) = Still
turn_of (plan.Path number nodes (Offered place)) = Placed
turn_of plan.Fill = Still

-- ---- the round ----

-- the public choice is the table's, and the plan is the hidden half, whatever is lent or random and whoever
-- waits behind the first one; it takes no lent block but the first one's
pub record Planned (g : Geometry) (disk : Bytes) (slot : ℕ) (first : Option Offer) (plans : Plans) :
    Type 0 where
  pub chosen :
      (blocks : Bytes) (later : List HiddenWrite) →
      public_of plans.choice ≡ (row_of g disk slot (waiting_by g blocks first later)).public
  pub half_is :
      (blocks random : Bytes) (later : List HiddenWrite) (state : HiddenState) →
      state.waiting ≡ waiting_by g blocks first later →
      hidden_half g disk slot random state ≡
      half (hidden_trace plans.plan g disk slot blocks random) (turned plans.turn later state)
  pub placed : PathPlaced g plans.plan
  pub lent : (blocks : Bytes) → BlockLent g blocks (first_place first) →
      BlockLent g blocks (offered_by plans.plan)
