-- What is asked of slots: two of a drive, and one with a level of the hidden tree. Assumes nothing.
use Rattle.std.specs.Prelude.{ℕ, ◌<◌}
use Rattle.model.specs.Geometry.{Geometry, Fits}

-- two slots of a drive
pub record TwoSlots (g : Geometry) (slot other : ℕ) : Type 0 where
  pub fits : Fits g
  pub slot_inside : slot < g.slots
  pub other_inside : other < g.slots

-- a slot of a drive and a level below the root
pub record SlotLevel (g : Geometry) (slot level : ℕ) : Type 0 where
  pub fits : Fits g
  pub slot_inside : slot < g.slots
  pub level_lt : level < g.height
