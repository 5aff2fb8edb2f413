-- What is asked of a drive beside the calls of demand 3's lists: which drive it is, where a public block
-- stands, and what a write takes now. Two drives that are alike answer the same. Assumes nothing.
use Rattle.std.specs.Prelude.{◌≡◌, ℕ, ◌<◌}
use Rattle.model.specs.Blocks.{Bytes}
use Rattle.model.specs.Layout.{geometry_in, head_in, map_entry}
use Rattle.model.specs.Refusals.{public_read_refusal}
use Rattle.model.specs.Needs.{needs_of}
use Rattle.model.specs.View.{Alike}

pub record AnsweredAlike (disk other : Bytes) : Type 0 where
  -- which drive it is, where 1 to 3 do not meet
  pub same_geometry : geometry_in disk ≡ geometry_in other
  pub same_head : head_in disk ≡ head_in other
  -- where a public number stands: the refusal of its read, and its map entry
  pub same_refusal :
      (number : ℕ) (blank : Bytes) →
      public_read_refusal disk number blank ≡ public_read_refusal other number blank
  pub same_entry :
      (number : ℕ) → number < (geometry_in disk).publics →
      map_entry (geometry_in disk) disk number ≡ map_entry (geometry_in other) other number
  -- what a write takes now: refusal, rounds, stores and random blocks
  pub same_needs : (number : ℕ) → needs_of disk number ≡ needs_of other number

abbrev pub Questions : Type 0
Questions = (disk other : Bytes) → Alike disk other → AnsweredAlike disk other
