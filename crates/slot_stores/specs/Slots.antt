-- A place of a slot, and the stores of a slot and of the root, as both halves are planned. Assumes nothing.
use Rattle.std.specs.Prelude.{◌∷◌, ℕ, ◌≤◌, ◌<◌}
use Rattle.model.specs.Geometry.{Geometry, Fits}
use Rattle.model.specs.Blocks.{Bytes}
use Rattle.model.specs.Stores.{Trace}
use Rattle.model.specs.Rounds.{public_store}
use Rattle.plans.specs.declared.hidden_plans.HiddenPlan.{HiddenPlan}
use Rattle.plans.specs.declared.public_plans.PublicPlan.{PublicPlan}
use Rattle.plans.specs.HiddenPlans.{hidden_trace}
use Rattle.plans.specs.PublicPlans.{choice_of}

-- a slot, and a place from one on and before another
pub record SlotPlace (g : Geometry) (slot from to place : ℕ) : Type 0 where
  pub fits : Fits g
  pub slot_inside : slot < g.slots
  pub low : from ≤ place
  pub high : place < to

-- block A, then A + 1 to A + k and the root
abbrev pub slot_trace :
    PublicPlan → HiddenPlan → Geometry → (disk : Bytes) → (slot : ℕ) → (content blocks random : Bytes) →
    Trace
slot_trace public hidden g disk slot content blocks random =
    public_store (choice_of public) g disk slot content ∷ hidden_trace hidden g disk slot blocks random
