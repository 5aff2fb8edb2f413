-- What the counts of rounds and stores are asked for. Assumes nothing.
use Rattle.std.specs.Prelude.{◌≡◌, ◌≢◌, ℕ, zero, suc, ◌<◌, Bool, Option, Some, None}
use Rattle.model.specs.Geometry.{Geometry, Fits}
use Rattle.model.specs.Blocks.{Bytes, DiskAddress}
use Rattle.model.specs.Layout.{Drive, head_in, map_entry}
use Rattle.model.specs.Refusals.{round_count}
use Rattle.layout.specs.PublicMap.{OldEntry}

-- a test answers of each slot what is said of it
abbrev pub Tells : (slots : ℕ) → (answers : ℕ → Bool → Type 0) → (said : ℕ → Bool) → Type 0
Tells slots answers said = (slot : ℕ) → slot < slots → (told : Bool) → answers slot told → told ≡ said slot

-- the round that is counted, none where the count is 0
abbrev pub found_round : (rounds : ℕ) → Option ℕ
found_round zero = None
found_round (suc rounds) = Some (suc rounds)

-- a number with this entry goes to this slot
pub record Moving (g : Geometry) (entry : DiskAddress) (slot : ℕ) : Type 0 where
  pub fits : Fits g
  pub old : OldEntry g entry
  pub slot_inside : slot < g.slots

-- a public number that 4 and 6 do not meet, on a drive that 1 to 3 do not meet
pub record Writable (g : Geometry) (disk : Bytes) (number : ℕ) : Type 0 where
  pub drive : Drive g disk
  pub head_inside : head_in disk < g.slots
  pub number_inside : number < g.publics
  pub old : OldEntry g (map_entry g disk number)

-- the rounds that its write takes now are counted, and there is one
pub record Counted (g : Geometry) (disk : Bytes) (number rounds : ℕ) : Type 0 where
  pub writable : Writable g disk number
  pub rounds_are : rounds ≡ round_count g disk
  pub some_rounds : rounds ≢ 0
