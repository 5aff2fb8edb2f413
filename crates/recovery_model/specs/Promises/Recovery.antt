-- Pulled plugs (document 02, K5): refusal 17 is exact, a recovery rebuilds the bitmap and nothing else, every
-- cut of every write recovers, and an inspector learns nothing from it. Assumes nothing.
use Rattle.std.specs.Prelude.{◌≡◌, true, ◌≢◌, ◌⊎◌, List, ◌++◌, ℕ, ◌+◌, ◌*◌, ◌≤◌, ◌<◌, length, take}
use Rattle.std.proofs.Math.Option.{none}
use Rattle.model.specs.Geometry.{Geometry, area_start, map_blocks, bitmap_blocks, root_address, block_width}
use Rattle.model.specs.Blocks.{Bytes, DiskAddress, block_at}
use Rattle.model.specs.Layout.{geometry_in, slot_start, is_allocated, map_entry}
use Rattle.model.specs.Stores.{addresses}
use Rattle.model.specs.Line.{Offer}
use Rattle.model.specs.Calls.{public_read, hidden_read, line_read, or_else, Offered, in_line, offered_writes}
use Rattle.model.specs.Calls.{Written, written_disk, written_list}
use Rattle.model.specs.View.{Alike}
use Rattle.model.specs.Invariants.{bitmap_bit}
use Rattle.model.specs.Conditions.{Answers, drive_conditions}
use Rattle.model.specs.TreeCheck.{tree_refusal}
use Rattle.model.specs.Promises.ReadAfterWrite.{shown_after, Sound}
use Rattle.model.specs.Promises.Waiting.{PublicHalf, half_written}
use Rattle.recovery_model.specs.Cuts.{cut_trace, cut_disk, cut_list, placed_within}
use Rattle.recovery_model.specs.Recovery.{recovery_refusal, recovered}
use Rattle.recovery_model.specs.MapConditions.{map_conditions}
use Rattle.recovery_model.specs.Promises.RecoveryFigures.{RecoveryFigures}

-- ---- a recovery ----

-- two disks that differ in the bitmap alone
pub record SameButBits (g : Geometry) (disk torn : Bytes) : Type 0 where
  pub same_length : length torn ≡ length disk
  pub elsewhere :
      (address : DiskAddress) → (address < 1 + map_blocks g) ⊎ (root_address g ≤ address) →
      block_at (block_width g) torn address ≡ block_at (block_width g) disk address

-- what one that is not refused leaves: of the bits of the whole bitmap just those of the mapped places are 1,
-- and nothing else is changed
pub record Rebuilt (g : Geometry) (disk after : Bytes) : Type 0 where
  pub bit_mapped :
      (place : ℕ) → place < bitmap_blocks g * (8 * g.block_size) → bitmap_bit g after place ≡ true →
      (number : ℕ) × (number < g.publics) × (map_entry g disk number ≡ area_start g + place)
  pub mapped_bit :
      (number place : ℕ) → number < g.publics → map_entry g disk number ≡ area_start g + place →
      bitmap_bit g after place ≡ true
  pub same_but_bits : SameButBits g disk after

-- ---- a cut write, recovered ----

-- what a drive has to be before the write: it passes K1's check, 17 does not meet it, and its marks are
-- exactly its mapped places
pub record Recoverable (g : Geometry) (disk : Bytes) : Type 0 where
  pub geometry : geometry_in disk ≡ g
  pub passes : tree_refusal disk ≡ 0
  pub map_good : recovery_refusal disk ≡ 0
  pub marked_mapped :
      (slot : ℕ) → slot < g.slots → is_allocated g disk slot ≡ true →
      (number : ℕ) × (number < g.publics) × (map_entry g disk number ≡ slot_start g slot)
  pub mapped_marked :
      (number slot : ℕ) → number < g.publics → slot < g.slots →
      map_entry g disk number ≡ slot_start g slot → is_allocated g disk slot ≡ true

-- the drive that is left once the plug is pulled after so many stores and the drive recovered
abbrev pub after_cut : (bound : ℕ) → PublicHalf → (disk : Bytes) → Offered → Bytes
after_cut bound half disk offer = recovered (cut_disk bound (half_written half disk offer) disk)

-- a write, refused or not, cut after so many stores and recovered
pub record Recovers (g : Geometry) (disk : Bytes) (half : PublicHalf) (offer : Offered) (bound : ℕ) : Type 0
  where
    -- the tree passes as the cut leaves it, and the recovery is not refused
    pub passes : tree_refusal (cut_disk bound (half_written half disk offer) disk) ≡ 0
    pub accepted : recovery_refusal (cut_disk bound (half_written half disk offer) disk) ≡ 0
    -- both volumes are sound again, so every other promise goes on from here
    pub sound : Sound g (after_cut bound half disk offer)
    -- the number written shows its old block, and its new one once the map block is stored, which is store
    -- k + 3 of the last round
    pub number_old :
        (blank : Bytes) → length blank ≡ g.block_size →
        ((half_written half disk offer).answer ≢ 0) ⊎
        (bound < (half_written half disk offer).rounds * (g.height + 3)) →
        public_read (after_cut bound half disk offer) half.number blank ≡
        public_read disk half.number blank
    pub number_new :
        (blank : Bytes) → length blank ≡ g.block_size → (half_written half disk offer).answer ≡ 0 →
        (half_written half disk offer).rounds * (g.height + 3) ≤ bound →
        public_read (after_cut bound half disk offer) half.number blank ≡ half.content
    -- every other public number shows what it did
    pub others_same :
        (other : ℕ) (blank : Bytes) → other < g.publics → other ≢ half.number →
        length blank ≡ g.block_size →
        public_read (after_cut bound half disk offer) other blank ≡ public_read disk other blank
    -- of the hidden writes that the whole call places those show their new blocks whose round's root is
    -- stored, and every other hidden number shows what it did
    pub placed_le : placed_within bound half disk offer ≤ (half_written half disk offer).placed
    pub hidden_shown_lem :
        (other : ℕ) (blank : Bytes) → other < g.hidden → length blank ≡ g.block_size →
        hidden_read (after_cut bound half disk offer) other blank ≡
        or_else
        (shown_after (take (placed_within bound half disk offer) (offered_writes g offer)) other none)
        (hidden_read disk other blank)

-- ---- what an inspector sees ----

-- two drives cut after equally many stores, and recovered
pub record CutAlike (disk other : Bytes) (result result_other : Written) (bound : ℕ) : Type 0 where
  pub same_answer : result.answer ≡ result_other.answer
  pub same_stores : addresses (cut_trace bound result) ≡ addresses (cut_trace bound result_other)
  pub alike_cut : Alike (cut_disk bound result disk) (cut_disk bound result_other other)
  pub same_refusal :
      recovery_refusal (cut_disk bound result disk) ≡ recovery_refusal (cut_disk bound result_other other)
  pub alike_recovered :
      Alike (recovered (cut_disk bound result disk)) (recovered (cut_disk bound result_other other))

-- ---- the promise ----

pub record Recovery : Type 0 where
  -- a drive worked out by hand
  pub figures : RecoveryFigures
  -- 1 to 3, then 17
  pub exact :
      (disk : Bytes) →
      Answers (drive_conditions disk ++ map_conditions (geometry_in disk) disk) (recovery_refusal disk)
  pub refused : (disk : Bytes) → recovery_refusal disk ≢ 0 → recovered disk ≡ disk
  pub rebuilt : (disk : Bytes) → recovery_refusal disk ≡ 0 → Rebuilt (geometry_in disk) disk (recovered disk)
  -- a recovery that is cut anywhere, and made again
  pub again :
      (disk torn : Bytes) → recovery_refusal disk ≡ 0 → SameButBits (geometry_in disk) disk torn →
      recovered torn ≡ recovered disk
  -- the whole write is the form with a bound, uncut
  pub uncut :
      (disk : Bytes) (list : List DiskAddress) (result : Written) (bound : ℕ) →
      length result.trace ≤ bound →
      (cut_disk bound result disk ≡ written_disk result disk) ×
      (cut_list bound result list ≡ written_list result list)
  -- a sound drive may be cut
  pub sound_recoverable : (g : Geometry) (disk : Bytes) → Sound g disk → Recoverable g disk
  -- every cut of every write recovers
  pub recovers :
      (g : Geometry) (disk : Bytes) (half : PublicHalf) (offer : Offered) (bound : ℕ) →
      Recoverable g disk → Recovers g disk half offer bound
  -- a read through the line as it was lent shows what it did before the write
  pub line_same :
      (g : Geometry) (disk : Bytes) (half : PublicHalf) (blocks : Bytes) (line : List Offer) (bound : ℕ)
      (asked : ℕ) (blank : Bytes) → Recoverable g disk → asked < g.hidden → length blank ≡ g.block_size →
      line_read (after_cut bound half disk (in_line blocks line)) asked blank blocks line ≡
      line_read disk asked blank blocks line
  -- two drives with equal views, cut after equally many stores of the same public call, whatever they carry
  -- along, recover to equal views; their random bytes are as many
  pub alike :
      (disk other : Bytes) (half otherHalf : PublicHalf) (offer otherOffer : Offered) (bound : ℕ) →
      Alike disk other → half.number ≡ otherHalf.number → half.content ≡ otherHalf.content →
      length half.random ≡ length otherHalf.random → half.room ≡ otherHalf.room →
      CutAlike disk other (half_written half disk offer) (half_written otherHalf other otherOffer) bound
