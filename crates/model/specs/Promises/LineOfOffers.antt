-- The line of waiting offers (document 02, K3): what a read through it shows, that a write with it moves
-- blocks from the line to the drive and changes no read through the line, and what entering changes. Assumes
-- nothing.
use Rattle.std.specs.Prelude.{◌≡◌, ◌≢◌, List, [], ◌∷◌, ℕ, ◌+◌, ◌≤◌, ◌<◌, length, take, drop}
use Rattle.model.specs.Geometry.{Geometry}
use Rattle.model.specs.Blocks.{Bytes, block_at}
use Rattle.model.specs.Layout.{geometry_in}
use Rattle.model.specs.Refusals.{hidden_read_refusal}
use Rattle.model.specs.Line.{Offer, most_offers, hidden_write_of, line_offer_refusal, turns, left_after}
use Rattle.model.specs.Line.{enter_refusal, entered}
use Rattle.model.specs.Calls.{hidden_read, nothing, one, in_line, Written, written, written_disk, line_left}
use Rattle.model.specs.Calls.{line_read_refusal, line_read}
use Rattle.model.specs.Conditions.{WaitsUnder}
use Rattle.model.specs.Promises.ReadAfterWrite.{Sound}
use Rattle.model.specs.Promises.LineFigures.{LineFigures}

-- a hidden read through a line, against one of the disk alone
pub record LineReads (disk : Bytes) (number : ℕ) (blank blocks : Bytes) (line : List Offer) : Type 0 where
  -- a block that waits is shown before the disk's
  pub waiting_shown :
      (waits : WaitsUnder (geometry_in disk) blocks line number) →
      line_read_refusal disk number blank blocks line ≡ 0 →
      line_read disk number blank blocks line ≡
      block_at (geometry_in disk).block_size blocks waits.offer.place
  -- where none waits it is the read of before
  pub disk_answer :
      (WaitsUnder (geometry_in disk) blocks line number → ⊥) →
      line_read_refusal disk number blank blocks line ≡ hidden_read_refusal disk number blank
  pub disk_shown :
      (WaitsUnder (geometry_in disk) blocks line number → ⊥) →
      line_read disk number blank blocks line ≡ hidden_read disk number blank

-- what a write with a line places and leaves, refused or not: of those that count the first so many are
-- placed, the others have their turn as before
pub record LineKept (g : Geometry) (blocks : Bytes) (line left : List Offer) (result : Written) : Type 0 where
  pub counts_kept : result.placed + length (turns g blocks left) ≡ length (turns g blocks line)
  pub turns_kept : turns g blocks left ≡ drop result.placed (turns g blocks line)
  -- so they have on every other drive and with other blocks, those too that were passed over here
  pub turns_elsewhere :
      (drive : Geometry) (others : Bytes) →
      turns drive others left ≡
      left_after (take result.placed (turns g blocks line)) (turns drive others line)

-- what an offer's entering changes, refused or not, in a lent line of this length
pub record Entering (disk : Bytes) (offer : Offer) (blocks : Bytes) (line left : List Offer)
    (room answer : ℕ) : Type 0 where
  -- no line gets too long
  pub enter_fits :
      length line ≤ most_offers → length line ≤ room → (length left ≤ most_offers) × (length left ≤ room)
  -- one that enters is what its number shows
  pub enter_shows :
      (blank : Bytes) → answer ≡ 0 → length blank ≡ (geometry_in disk).block_size →
      line_read disk offer.number blank blocks left ≡
      block_at (geometry_in disk).block_size blocks offer.place
  pub enter_answer :
      (blank : Bytes) → answer ≡ 0 → length blank ≡ (geometry_in disk).block_size →
      line_read_refusal disk offer.number blank blocks left ≡ 0
  -- no other number's read changes
  pub enter_keeps_others :
      (asked : ℕ) (blank : Bytes) → asked ≢ offer.number →
      line_read disk asked blank blocks left ≡ line_read disk asked blank blocks line
  pub enter_keeps_answers :
      (asked : ℕ) (blank : Bytes) → asked ≢ offer.number →
      line_read_refusal disk asked blank blocks left ≡ line_read_refusal disk asked blank blocks line

pub record LineOfOffers : Type 0 where
  pub figures : LineFigures
  pub reads :
      (disk : Bytes) (number : ℕ) (blank blocks : Bytes) (line : List Offer) →
      LineReads disk number blank blocks line
  -- on a sound drive a write, refused or not, moves blocks from the line to the drive: no read through the
  -- line sees it
  pub write_keeps_shown :
      (g : Geometry) (disk : Bytes) (number : ℕ) (content random : Bytes) (room : ℕ) (blocks : Bytes)
      (line : List Offer) (asked : ℕ) (blank : Bytes) → Sound g disk → asked < g.hidden →
      length blank ≡ g.block_size →
      let result = written disk number content random room (in_line blocks line) in
      line_read (written_disk result disk) asked blank blocks (line_left result disk blocks line) ≡
      line_read disk asked blank blocks line
  pub kept :
      (disk : Bytes) (number : ℕ) (content random : Bytes) (room : ℕ) (blocks : Bytes) (line : List Offer) →
      let result = written disk number content random room (in_line blocks line) in
      LineKept (geometry_in disk) blocks line (line_left result disk blocks line) result
  pub entering :
      (disk : Bytes) (offer : Offer) (blocks : Bytes) (line : List Offer) (room : ℕ) →
      Entering disk offer blocks line (entered disk offer blocks line room) room
      (enter_refusal disk offer blocks line room)
  -- a line of one good offer is document 01's write with it, and an empty line its write with nothing
  pub one_offer_lem :
      (disk : Bytes) (number : ℕ) (content random : Bytes) (room : ℕ) (blocks : Bytes) (offer : Offer) →
      line_offer_refusal (geometry_in disk) blocks offer ≡ 0 →
      written disk number content random room (in_line blocks (offer ∷ [])) ≡
      written disk number content random room (one (hidden_write_of (geometry_in disk) blocks offer))
  pub no_offer_lem :
      (disk : Bytes) (number : ℕ) (content random : Bytes) (room : ℕ) (blocks : Bytes) →
      written disk number content random room (in_line blocks []) ≡
      written disk number content random room nothing
