-- What a plan stores as the public half of a round, after the slot's public block, and what it is made from.
-- Assumes nothing.
use Rattle.std.specs.Prelude.{◌≡◌, true, false, [], ◌∷◌, ℕ, ◌<◌}
use Rattle.laws.specs.Bits.{set_bit}
use Rattle.model.specs.Geometry.{Geometry, Fits}
use Rattle.model.specs.Blocks.{Bytes, DiskAddress}
use Rattle.model.specs.Layout.{Drive, bit_address, bit_place, is_shared, bitmap_with, map_entry}
use Rattle.model.specs.Stores.{Trace, store}
use Rattle.model.specs.Table as model
use Rattle.model.specs.Rounds.{map_store, bit_store, bit_stores, map_stores}
use Rattle.layout.specs.PublicMap.{OldEntry}
use Rattle.table.specs.declared.PublicChoice.{PublicChoice}
use Rattle.table.specs.Rows.{public_of}
use Rattle.plans.specs.declared.public_plans.Bits.{Bits}
use Rattle.plans.specs.declared.public_plans.Bits.TheVariants.{New, Shared, Apart}
use Rattle.plans.specs.declared.public_plans.PublicPlan.{PublicPlan}
use Rattle.plans.specs.declared.public_plans.PublicPlan.TheVariants.{Keep, Write}

-- the choice of a plan
abbrev pub choice_of : PublicPlan → model.PublicChoice
choice_of Keep = model.keep_public
choice_of (Write number bits) = model.write_public

-- ---- bits ----

-- the bitmap's stores: the new bit's block; in one block with it the old bit cleared; or that block after it
abbrev pub bit_trace : Bits → Geometry → (disk : Bytes) → (slot : ℕ) → Trace
bit_trace New g disk slot = bit_store g disk slot true ∷ []
bit_trace (Shared old) g disk slot =
    store (bit_address g slot) (set_bit (bit_place g old) false (bitmap_with g disk slot true)) ∷ []
bit_trace (Apart old) g disk slot = bit_store g disk slot true ∷ bit_store g disk old false ∷ []

-- the slot that is left is one of the drive's, and its bit lies in another block where that is said
abbrev pub BitsPlaced : Geometry → (slot : ℕ) → Bits → Type 0
BitsPlaced g slot New = Unit {0}
BitsPlaced g slot (Shared old) = old < g.slots
BitsPlaced g slot (Apart old) = (old < g.slots) × (is_shared g slot old ≡ false)

-- a slot, and the entry of a number with a place or none
pub record BitsReady (g : Geometry) (slot : ℕ) (entry : DiskAddress) : Type 0 where
  pub fits : Fits g
  pub slot_inside : slot < g.slots
  pub old_entry : OldEntry g entry

-- they are the bitmap's stores for a number with this entry, whatever the disk
pub record BitsPlanned (g : Geometry) (slot : ℕ) (entry : DiskAddress) (bits : Bits) : Type 0 where
  pub stores_are : (disk : Bytes) → Drive g disk → bit_stores g disk entry slot ≡ bit_trace bits g disk slot
  pub placed : BitsPlaced g slot bits

-- ---- map and bits ----

-- what a plan stores between the root and the header
abbrev pub map_trace : PublicPlan → Geometry → (disk : Bytes) → (slot : ℕ) → Trace
map_trace Keep g disk slot = []
map_trace (Write number bits) g disk slot = map_store g disk number.0 slot ∷ bit_trace bits g disk slot

-- its number is one of the drive's
abbrev pub PublicPlaced : Geometry → (slot : ℕ) → PublicPlan → Type 0
PublicPlaced g slot Keep = Unit {0}
PublicPlaced g slot (Write number bits) = (number.0 < g.publics) × BitsPlaced g slot bits

-- a whole drive, a public number with a place or none, and a slot
pub record PublicReady (g : Geometry) (disk : Bytes) (number slot : ℕ) : Type 0 where
  pub drive : Drive g disk
  pub number_inside : number < g.publics
  pub slot_inside : slot < g.slots
  pub old_entry : OldEntry g (map_entry g disk number)

-- the choice is the table's, and the plan stores what a round with this choice does
pub record PublicPlanned (g : Geometry) (disk : Bytes) (number slot : ℕ) (choice : PublicChoice)
    (public : PublicPlan) : Type 0 where
  pub chosen : choice_of public ≡ public_of choice
  pub stores_are : map_stores (public_of choice) g disk number slot ≡ map_trace public g disk slot
  pub placed : PublicPlaced g slot public
