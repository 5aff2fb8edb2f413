-- What a write that is cut after so many stores leaves of both volumes, before any recovery (document 02,
-- K5). Assumes nothing.
use mathlib.Core.Path.{◌≡◌}
use mathlib.Core.Bool.{false}
use mathlib.Core.Logic.{◌≢◌, ◌⊎◌}
use mathlib.Core.Option.{none}
use Prim.Native.Nat.{ℕ, ◌+◌, ◌*◌, ◌≤◌, ◌<◌}
use lib.ListN.{length, take}
use Rattle.model.specs.Geometry.{Geometry, block_width}
use Rattle.model.specs.Blocks.{Bytes, block_at}
use Rattle.model.specs.Layout.{geometry_in, slot_start, is_allocated, map_entry}
use Rattle.model.specs.Refusals.{drive_refusal}
use Rattle.model.specs.Calls.{hidden_read, or_else, Offered, offered_writes}
use Rattle.model.specs.Invariants.{HiddenInvariant}
use Rattle.model.specs.Promises.ReadAfterWrite.{shown_after}
use Rattle.model.specs.Promises.Waiting.{PublicHalf, half_written}
use Rattle.recovery_model.specs.Cuts.{placed_within}

-- a number's new place: a slot that was free, with the data in its public block
pub record NewPlace (g : Geometry) (disk after : Bytes) (number : ℕ) (content : Bytes) : Type 0 where
  pub slot : ℕ
  pub inside : slot < g.slots
  pub was_free : is_allocated g disk slot ≡ false
  pub entry_is : map_entry g after number ≡ slot_start g slot
  pub block_is : block_at (block_width g) after (slot_start g slot) ≡ content

-- the drive that the first stores of a write leave
pub record CutLeaves (g : Geometry) (disk : Bytes) (half : PublicHalf) (offer : Offered) (bound : ℕ)
    (after : Bytes) : Type 0 where
  -- a drive of the same geometry
  pub geometry : geometry_in after ≡ g
  pub accepted : drive_refusal after ≡ 0
  -- a hidden tree that passes, with what the rounds placed whose root is stored
  pub hidden_sound : HiddenInvariant g after
  pub placed_le : placed_within bound half disk offer ≤ (half_written half disk offer).placed
  pub hidden_shown_lem :
      (other : ℕ) (blank : Bytes) → other < g.hidden → length blank ≡ g.block_size →
      hidden_read after other blank ≡
      or_else
      (shown_after (take (placed_within bound half disk offer) (offered_writes g offer)) other none)
      (hidden_read disk other blank)
  -- every block that was mapped keeps its bytes
  pub block_kept :
      (other slot : ℕ) → other < g.publics → slot < g.slots → map_entry g disk other ≡ slot_start g slot →
      block_at (block_width g) after (slot_start g slot) ≡ block_at (block_width g) disk (slot_start g slot)
  -- the other numbers keep their entries, and the number written until the map block is stored
  pub other_entry :
      (other : ℕ) → other < g.publics → other ≢ half.number → map_entry g after other ≡ map_entry g disk other
  pub old_entry :
      ((half_written half disk offer).answer ≢ 0) ⊎
      (bound < (half_written half disk offer).rounds * (g.height + 3)) → half.number < g.publics →
      map_entry g after half.number ≡ map_entry g disk half.number
  pub new_place :
      (half_written half disk offer).answer ≡ 0 →
      (half_written half disk offer).rounds * (g.height + 3) ≤ bound →
      NewPlace g disk after half.number half.content
