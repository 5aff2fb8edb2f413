-- What a find answers: where the read's block stands, as `reads` finds it, in the fields of the C struct.
-- Assumes nothing.
use Rattle.std.specs.Prelude.{◌≡◌, cond, [], ℕ, ◌+◌, ◌*◌, ◌≤◌, eqb, length}
use Rattle.model.specs.Geometry.{block_width}
use Rattle.model.specs.Blocks.{Bytes, block_at}
use Rattle.model.specs.Layout.{geometry_in}
use Rattle.reads.specs.Finds.{public_find, hidden_find}
use Rattle.answers_c.specs.declared.finds.Found.{Found}
use Rattle.answers_c.specs.Finds.{found_of}

-- ---- the answers ----

-- what the find of a public number answers
abbrev pub found_public : (disk : Bytes) → (number : ℕ) → (blank : Bytes) → Found
found_public disk number blank = found_of (public_find disk number blank)

-- what the find of a hidden number answers
abbrev pub found_hidden : (disk : Bytes) → (number : ℕ) → (blank : Bytes) → Found
found_hidden disk number blank = found_of (hidden_find disk number blank)

-- ---- what an answer shows ----

-- the block at the address, the blank, or nothing where the find is refused
unfoldable pub shown_by : Found → (disk blank : Bytes) → Bytes
shown_by answer disk blank =
    cond (eqb answer.kind 2) (block_at (block_width (geometry_in disk)) disk answer.address)
    (cond (eqb answer.kind 1) blank [])

-- an answer as it is defined, that shows what the read shows; a block that it names lies wholly on the disk
pub record FindAnswered (expected : Found) (shown disk blank : Bytes) (answer : Found) : Type 0 where
  pub found_is : answer ≡ expected
  pub shows : shown_by answer disk blank ≡ shown
  pub inside : answer.kind ≡ 2 → (answer.address + 1) * (geometry_in disk).block_size ≤ length disk
