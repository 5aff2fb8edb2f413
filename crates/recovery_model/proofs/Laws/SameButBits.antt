-- Two disks that differ in the bitmap alone: the same header and so the same answers of refusals 1 to 3, the
-- same map, the same blocks from the root on, and the same hidden volume. Assumes nothing.
use mathlib.Core.Path.{◌≡◌}
use mathlib.Core.Logic.{inl, inr}
use Prim.Native.Nat.{ℕ, ◌≤◌, ◌<◌}
use native.Mathlib.Omega.{arith}
use Rattle.model.specs.Geometry.{Geometry, Fits, root_address, block_width}
use Rattle.model.specs.Blocks.{Bytes, DiskAddress, block_at}
use Rattle.model.specs.Layout.{geometry_in, map_address, map_entry}
use Rattle.model.specs.Refusals.{drive_refusal}
use Rattle.model.specs.Calls.{hidden_read}
use Rattle.model.specs.Invariants.{HiddenInvariant}
use Rattle.model.proofs.Laws.Geometry.{map_address_lt}
use Rattle.model.proofs.Laws.PublicMap.{map_entry_block}
use Rattle.model.proofs.Laws.HeaderStores.{DriveOf, head_of-drive_of, drive_of_header}
use Rattle.model.proofs.Tree.Agreed.{hidden_invariant_agreed, hidden_read_agreed}
use Rattle.model.proofs.Volumes.Writes.{fits_of_accepted}
use Rattle.recovery_model.specs.Promises.Recovery.{SameButBits}

module _ (g : Geometry) (disk torn : Bytes) (states : geometry_in disk ≡ g) (accepted : drive_refusal disk ≡ 0)
    (same : SameButBits g disk torn) where
  f : Fits g
  f = fits_of_accepted g disk states accepted

  -- ---- the header ----

  torn_drive : DriveOf g torn
  torn_drive =
      let drive : DriveOf g disk = record { geometry = states; accepted = accepted } in
      drive_of_header drive torn same.same_length
      (rw (same.elsewhere 0 (inl (omega arith))) (head_of-drive_of drive))

  pub geometry_in_torn : geometry_in torn ≡ g
  geometry_in_torn = torn_drive.geometry

  pub drive_refusal_torn : drive_refusal torn ≡ 0
  drive_refusal_torn = torn_drive.accepted

  -- ---- the map ----

  pub map_entry_torn : (number : ℕ) → number < g.publics → map_entry g torn number ≡ map_entry g disk number
  map_entry_torn number h =
      map_entry_block g torn disk number
      (same.elsewhere (map_address g number) (inl (map_address_lt g f number h)))

  -- ---- the root and the data area ----

  pub block_at_torn :
      (address : DiskAddress) → root_address g ≤ address →
      block_at (block_width g) torn address ≡ block_at (block_width g) disk address
  block_at_torn address h = same.elsewhere address (inr h)

  pub hidden_invariant_torn : HiddenInvariant g disk → HiddenInvariant g torn
  hidden_invariant_torn = hidden_invariant_agreed g disk torn block_at_torn

  pub hidden_read_torn :
      (number : ℕ) (blank : Bytes) → hidden_read torn number blank ≡ hidden_read disk number blank
  hidden_read_torn number blank =
      hidden_read_agreed g disk torn block_at_torn states geometry_in_torn accepted drive_refusal_torn number
      blank
