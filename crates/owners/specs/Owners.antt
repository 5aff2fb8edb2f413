-- What is said of a slot by its owner and the owner's walk. Assumes nothing.
use Rattle.std.specs.Prelude.{◌≡◌, Bool, false, ℕ, ◌≤◌, ◌<◌, Option, Some, None}
use Rattle.model.specs.Geometry.{Geometry}
use Rattle.model.specs.Blocks.{Bytes}
use Rattle.model.specs.Layout.{level_address}
use Rattle.model.specs.HiddenTree.{is_found_at, is_damaged}
use Rattle.hidden_map.specs.Ends.{end_of}
use Rattle.hidden_map.specs.Walks.{Walked}
use Rattle.owners.specs.declared.Owner.{Owner}

-- the owner by a reverse number: nobody, where that is no hidden number, else the number with its walk
abbrev pub OwnerWalked : Geometry → (disk : Bytes) → (number : ℕ) → Option Owner → Type 0
OwnerWalked g disk number None = g.hidden ≤ number
OwnerWalked g disk number (Some owner) =
    (owner.number.0 ≡ number) × ((number < g.hidden) × Walked g disk number owner.trail)

-- an owner's trail is that of its walk
abbrev pub OwnWalked : Geometry → (disk : Bytes) → Option Owner → Type 0
OwnWalked g disk None = Unit {0}
OwnWalked g disk (Some owner) = Walked g disk owner.number.0 owner.trail

-- whether the owner's walk ended at the data of a slot
abbrev pub is_live_for : Geometry → (slot : ℕ) → Option Owner → Bool
is_live_for g slot None = false
is_live_for g slot (Some owner) = is_found_at (level_address g slot 0) (end_of owner.trail.end)

-- whether the owner's walk is damaged
abbrev pub is_damaged_for : Option Owner → Bool
is_damaged_for None = false
is_damaged_for (Some owner) = is_damaged (end_of owner.trail.end)
