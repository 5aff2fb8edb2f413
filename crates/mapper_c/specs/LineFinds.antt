-- What a find through a line answers: as a find without one, or the place of a block among the lent ones.
-- Assumes nothing.
use Rattle.std.specs.Prelude.{◌≡◌, cond, List, ℕ, ◌+◌, ◌*◌, ◌≤◌, eqb, length}
use Rattle.model.specs.Geometry.{block_width}
use Rattle.model.specs.Blocks.{Bytes, block_at}
use Rattle.model.specs.Layout.{geometry_in}
use Rattle.model.specs.Line.{Offer}
use Rattle.line_calls.specs.Finds.{line_find}
use Rattle.answers_c.specs.declared.finds.Found.{Found}
use Rattle.answers_c.specs.Finds.{found_line_of}
use Rattle.mapper_c.specs.Finds.{shown_by}

-- what the find of a hidden number answers where these offers wait
abbrev pub found_in_line :
    (disk : Bytes) → (number : ℕ) → (blank blocks : Bytes) → (line : List Offer) → Found
found_in_line disk number blank blocks line = found_line_of (line_find disk number blank blocks line)

-- the block among the lent ones, or what a find without a line shows
unfoldable pub shown_in_line : Found → (disk blank blocks : Bytes) → Bytes
shown_in_line answer disk blank blocks =
    cond (eqb answer.kind 3) (block_at (block_width (geometry_in disk)) blocks answer.address)
    (shown_by answer disk blank)

-- an answer as it is defined, that shows what the read shows; a block that it names lies wholly on the disk
-- or among the lent blocks
pub record LineFound (expected : Found) (shown disk blank blocks : Bytes) (answer : Found) : Type 0 where
  pub found_is : answer ≡ expected
  pub shows : shown_in_line answer disk blank blocks ≡ shown
  pub on_disk : answer.kind ≡ 2 → (answer.address + 1) * (geometry_in disk).block_size ≤ length disk
  pub among_lent : answer.kind ≡ 3 → (answer.address + 1) * (geometry_in disk).block_size ≤ length blocks
