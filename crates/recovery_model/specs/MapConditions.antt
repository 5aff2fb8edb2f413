-- The condition of refusal 17 as a proposition in document 02's words (K5). Assumes nothing.
use Rattle.std.specs.Prelude.{◌≡◌, ◌≢◌, ◌⊎◌, List, [], ◌∷◌, ℕ, ◌<◌}
use Rattle.model.specs.Geometry.{Geometry}
use Rattle.model.specs.Blocks.{Bytes}
use Rattle.model.specs.Layout.{slot_start, map_entry}
use Rattle.model.specs.Conditions.{Condition, condition}

-- a map entry, other than 0, that is no slot's public block
pub record NoStart (g : Geometry) (disk : Bytes) : Type 0 where
  pub number : ℕ
  pub inside : number < g.publics
  pub mapped : map_entry g disk number ≢ 0
  pub no_start : (slot : ℕ) → slot < g.slots → map_entry g disk number ≢ slot_start g slot

-- or that two numbers share
pub record SharedEntry (g : Geometry) (disk : Bytes) : Type 0 where
  pub number : ℕ
  pub other : ℕ
  pub before : number < other
  pub inside : other < g.publics
  pub mapped : map_entry g disk number ≢ 0
  pub shared : map_entry g disk number ≡ map_entry g disk other

abbrev pub map_conditions : Geometry → (disk : Bytes) → List Condition
map_conditions g disk = condition 17 (NoStart g disk ⊎ SharedEntry g disk) ∷ []
