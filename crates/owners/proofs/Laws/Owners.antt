-- Laws of a slot's owner: what the owner's walk says of the slot in the model, and that its trail is that of
-- its walk. Assumes nothing.
use mathlib.Core.Path.{◌≡◌}
use Prim.Native.Nat.{ℕ}
use borrow.Author.Tests.{lt-ltb, le-ltb}
use Rattle.std.specs.Prelude.{Option, Some, None}
use Rattle.model.specs.Geometry.{Geometry}
use Rattle.model.specs.Blocks.{Bytes}
use Rattle.model.specs.HiddenTree.{owner_of}
use Rattle.model.specs.HiddenHalf.{is_live, is_owner_damaged}
use Rattle.model.proofs.Laws.Owners.{is_live_is, is_owner_damaged_is}
use Rattle.owners.specs.declared.Owner.{Owner}
use Rattle.owners.specs.Owners.{OwnerWalked, is_live_for, is_damaged_for}

module _ (g : Geometry) (disk : Bytes) (slot number : ℕ) (e : number ≡ owner_of g disk slot) where
  pub is_live_owned :
      (owner : Option Owner) → OwnerWalked g disk number owner →
      is_live_for g slot owner ≡ is_live g disk slot
  is_live_owned None high = rw (is_live_is, ← e, le-ltb number g.hidden high)
  is_live_owned (Some owner) (same, (low, walked)) =
      rw (is_live_is, ← e, lt-ltb number g.hidden low, walked.end_is)

  pub is_owner_damaged_owned :
      (owner : Option Owner) → OwnerWalked g disk number owner →
      is_damaged_for owner ≡ is_owner_damaged g disk slot
  is_owner_damaged_owned None high = rw (is_owner_damaged_is, ← e, le-ltb number g.hidden high)
  is_owner_damaged_owned (Some owner) (same, (low, walked)) =
      rw (is_owner_damaged_is, ← e, lt-ltb number g.hidden low, walked.end_is)
