-- What a round stores after its slot and the root, as its public half is planned, and what single stores ask.
-- Assumes nothing.
use Rattle.std.specs.Prelude.{[], ◌∷◌, ◌++◌, ℕ, ◌+◌, ◌<◌}
use Rattle.model.specs.Geometry.{Geometry, Fits}
use Rattle.model.specs.Blocks.{Bytes}
use Rattle.model.specs.Stores.{Trace}
use Rattle.model.specs.Rounds.{header_store}
use Rattle.plans.specs.declared.public_plans.Bits.{Bits}
use Rattle.plans.specs.declared.public_plans.Bits.TheVariants.{New, Shared, Apart}
use Rattle.plans.specs.declared.public_plans.PublicPlan.{PublicPlan}
use Rattle.plans.specs.declared.public_plans.PublicPlan.TheVariants.{Keep, Write}
use Rattle.plans.specs.PublicPlans.{map_trace}

-- ---- what is asked ----

-- a public number and a slot
pub record MapReady (g : Geometry) (number slot : ℕ) : Type 0 where
  pub fits : Fits g
  pub number_inside : number < g.publics
  pub slot_inside : slot < g.slots

-- ---- what is stored ----

-- map and bits, then the header
abbrev pub ending_trace : PublicPlan → Geometry → (disk : Bytes) → (slot : ℕ) → Trace
ending_trace public g disk slot = map_trace public g disk slot ++ (header_store g disk slot ∷ [])

-- how many bitmap blocks
abbrev pub bit_count : Bits → ℕ
bit_count New = 1
bit_count (Shared old) = 1
bit_count (Apart old) = 2

-- how many stores
abbrev pub ending_count : PublicPlan → ℕ
ending_count Keep = 1
ending_count (Write number bits) = 2 + bit_count bits
