-- How long a write can be, for whoever has to lend its buffers. Beyond document 01's demands. Assumes
-- nothing.
use Rattle.std.specs.Prelude.{◌≡◌, ◌≢◌, ℕ, ◌+◌, ◌*◌, ◌≤◌, length}
use Rattle.model.specs.Geometry.{Geometry}
use Rattle.model.specs.Blocks.{Bytes}
use Rattle.model.specs.Layout.{geometry_in}
use Rattle.model.specs.Refusals.{drive_refusal}
use Rattle.model.specs.Calls.{Offered, Written, written}
use Rattle.model.specs.Invariants.{BitmapInvariant}

-- a write takes no more rounds; with buffers for so many rounds it never gets 8 or 9
pub record Within (most : ℕ) (g : Geometry) (random room : ℕ) (result : Written) : Type 0 where
  pub rounds : result.rounds ≤ most
  pub never_eight : most * g.height * g.block_size ≤ random → result.answer ≢ 8
  pub never_nine : most * (g.height + 3) + 3 ≤ room → result.answer ≢ 9

-- every write on this disk, whatever it is given
abbrev pub AtMost : (most : ℕ) → Geometry → (disk : Bytes) → Type 0
AtMost most g disk =
    (number : ℕ) (content random : Bytes) (room : ℕ) (offer : Offered) →
    Within most g (length random) room (written disk number content random room offer)

pub record BufferBounds : Type 0 where
  -- where each set bit is that of a public number's place, whatever the head: P + 1 rounds
  pub mapped_bits :
      (g : Geometry) (disk : Bytes) → geometry_in disk ≡ g → drive_refusal disk ≡ 0 → BitmapInvariant g disk →
      AtMost (g.publics + 1) g disk
  -- on any drive: M rounds
  pub any_drive : (disk : Bytes) → AtMost (geometry_in disk).slots (geometry_in disk) disk
