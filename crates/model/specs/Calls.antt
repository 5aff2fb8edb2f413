-- The calls (document 01, "Public numbers and hidden outcomes" and "The disk"): formatting, both reads, the
-- write with its hidden outcome, and what a line changes of them (document 02, K3): what a write brings along
-- and leaves of it, and the hidden read. Assumes nothing.
use Rattle.std.specs.Prelude.{false, cond, not, List, [], ◌∷◌, ◌++◌, ℕ, ◌*◌, ◌-◌, eqb, length, take, replicate}
use Rattle.std.proofs.Math.Option.{Option, none, some}
use Rattle.laws.specs.Checks.{Check, first_of}
use Rattle.laws.specs.Lists.{over}
use Rattle.model.specs.Geometry.{Geometry, area_start, block_width}
use Rattle.model.specs.Blocks.{Bytes, DiskAddress, block_at, packed}
use Rattle.model.specs.Layout.{geometry_in, head_in, map_entry}
use Rattle.model.specs.HiddenTree.{End, found, unmapped, damaged, walk}
use Rattle.model.specs.Stores.{Trace, apply, addresses}
use Rattle.model.specs.HiddenHalf.{HiddenWrite, HiddenState, is_waiting}
use Rattle.model.specs.Rounds.{Run, run_from}
use Rattle.model.specs.Refusals.{format_refusal, public_read_refusal, hidden_read_refusal, write_refusal}
use Rattle.model.specs.Refusals.{hidden_write_refusal, drive_checks, hidden_checks, walk_checks}
use Rattle.model.specs.Line.{Offer, turns, hidden_writes_of, left_after, waiting_for}

-- ---- formatting ----

-- block 0: B, k, P, H, M, the head 0, the rest zero
unfoldable pub header_block : Geometry → Bytes
header_block g =
    packed (g.block_size ∷ g.height ∷ g.publics ∷ g.hidden ∷ g.slots ∷ 0 ∷ []) ++
    replicate (g.block_size - 24) 0

-- header, map, bitmap and root
unfoldable pub fresh_front : Geometry → Bytes
fresh_front g = header_block g ++ replicate ((area_start g - 1) * g.block_size) 0

-- the disk that formatting leaves: the data area as it was, a refused disk as it was
unfoldable pub formatted : (disk : Bytes) → Geometry → Bytes
formatted disk g = cond (eqb (format_refusal disk g) 0) (over 0 (fresh_front g) disk) disk

-- ---- reads ----

-- what a public read shows: the block, the caller's blank, or nothing where it is refused
unfoldable pub public_read : (disk : Bytes) → (number : ℕ) → (blank : Bytes) → Bytes
public_read disk number blank =
    let g = geometry_in disk in
    let entry = map_entry g disk number in
    cond (eqb (public_read_refusal disk number blank) 0)
    (cond (eqb entry 0) blank (block_at (block_width g) disk entry)) []

abbrev pub shown_at : Geometry → (disk blank : Bytes) → End → Bytes
shown_at g disk blank (found address) = block_at (block_width g) disk address
shown_at g disk blank unmapped = blank
shown_at g disk blank damaged = []

-- what a hidden read shows, likewise
unfoldable pub hidden_read : (disk : Bytes) → (number : ℕ) → (blank : Bytes) → Bytes
hidden_read disk number blank =
    let g = geometry_in disk in
    cond (eqb (hidden_read_refusal disk number blank) 0) (shown_at g disk blank (walk g disk number).end) []

-- ---- the hidden outcome of a write ----

pub data Outcome : Type 0 where
  no_write : Outcome
  placed : Outcome
  waiting : Outcome
  not_tried : Outcome
  bad_number : Outcome
  bad_size : Outcome
  damaged_walk : Outcome

-- document 01's words and numbers: none, placed, waiting and not tried are 0 to 3, the others their refusals
abbrev pub outcome_number : Outcome → ℕ
outcome_number no_write = 0
outcome_number placed = 1
outcome_number waiting = 2
outcome_number not_tried = 3
outcome_number bad_number = 10
outcome_number bad_size = 11
outcome_number damaged_walk = 12

-- the first that holds: 10 or 11 for a bad hidden write, placed, 12 where a round met damage, waiting, none
unfoldable pub offer_outcome : (refusal : ℕ) → HiddenState → Outcome
offer_outcome refusal state =
    cond (eqb refusal 10) bad_number
    (cond (eqb refusal 11) bad_size
    (cond (not (eqb state.placed 0)) placed
    (cond state.met_damage damaged_walk (cond (is_waiting state.waiting) waiting no_write))))

-- ---- the write ----

-- what a write brings along: nothing or one hidden write, or a line of offers and the blocks that their
-- places are among
pub data Offered : Type 0 where
  nothing : Offered
  one : HiddenWrite → Offered
  in_line : (blocks : Bytes) → (line : List Offer) → Offered

-- 10 or 11 of the one hidden write that a call offers, else 0: of a line those that they meet are passed over
unfoldable pub offer_refusal : Geometry → Offered → ℕ
offer_refusal g nothing = 0
offer_refusal g (one write) = hidden_write_refusal g write.number write.content
offer_refusal g (in_line blocks line) = 0

-- the hidden writes that a call brings to its rounds: a bad one is left out, of a line those are that count
unfoldable pub offered_writes : Geometry → Offered → List HiddenWrite
offered_writes g nothing = []
offered_writes g (one write) =
    cond (eqb (hidden_write_refusal g write.number write.content) 0) (write ∷ []) []
offered_writes g (in_line blocks line) = hidden_writes_of g blocks (turns g blocks line)

abbrev pub start_state : (writes : List HiddenWrite) → HiddenState
start_state writes = record { waiting = writes; placed = 0; met_damage = false }

-- the rounds of a write that is not refused, at most one for each slot
unfoldable pub write_run :
    Geometry → (disk : Bytes) → (number : ℕ) → (content random : Bytes) → Offered → Run
write_run g disk number content random offer =
    run_from g.slots g number content (head_in disk) random disk (start_state (offered_writes g offer))

-- what a write answers, its stores, and how many hidden writes it placed
pub record Written : Type 0 where
  pub answer : ℕ
  pub rounds : ℕ
  pub trace : Trace
  pub outcome : Outcome
  pub placed : ℕ

abbrev pub refused_write : (answer : ℕ) → Written
refused_write answer = record { answer = answer; rounds = 0; trace = []; outcome = not_tried; placed = 0 }

abbrev pub done_write : (refusal : ℕ) → Run → Written
done_write refusal run =
    record {
      answer = 0;
      rounds = run.rounds;
      trace = run.trace;
      outcome = offer_outcome refusal run.state;
      placed = run.state.placed;
    }

-- a write, with a list of this length lent
unfoldable pub written :
    (disk : Bytes) → (number : ℕ) → (content random : Bytes) → (room : ℕ) → Offered → Written
written disk number content random room offer =
    let g = geometry_in disk in
    let refusal = write_refusal disk number content (length random) room in
    cond (eqb refusal 0) (done_write (offer_refusal g offer) (write_run g disk number content random offer))
    (refused_write refusal)

-- the disk that a write leaves
abbrev pub written_disk : Written → (disk : Bytes) → Bytes
written_disk result disk = apply (block_width (geometry_in disk)) result.trace disk

-- the lent list that a write leaves: its stores' addresses in front, the rest as it was
abbrev pub written_list : Written → (list : List DiskAddress) → List DiskAddress
written_list result list = over 0 (addresses result.trace) list

-- the line that a write leaves: every offer of a number that it placed leaves, of a refused one none
unfoldable pub line_left : Written → (disk blocks : Bytes) → (line : List Offer) → List Offer
line_left result disk blocks line =
    left_after (take result.placed (turns (geometry_in disk) blocks line)) line

-- ---- the hidden read through a line ----

-- what waits, or else this
abbrev pub or_else : Option Bytes → (otherwise : Bytes) → Bytes
or_else none otherwise = otherwise
or_else (some block) otherwise = block

-- 12, where no block waits under the number
unfoldable pub disk_checks : (waiting : Option Bytes) → Geometry → (disk : Bytes) → (number : ℕ) → List Check
disk_checks none g disk number = walk_checks g disk number
disk_checks (some block) g disk number = []

unfoldable pub line_read_refusal :
    (disk : Bytes) → (number : ℕ) → (blank blocks : Bytes) → (line : List Offer) → ℕ
line_read_refusal disk number blank blocks line =
    let g = geometry_in disk in
    first_of
    (drive_checks disk ++
    (hidden_checks g number (length blank) ++ disk_checks (waiting_for g blocks line number) g disk number))

-- what it shows: the block that waits, else what a hidden read of the disk shows
unfoldable pub line_read : (disk : Bytes) → (number : ℕ) → (blank blocks : Bytes) → (line : List Offer) → Bytes
line_read disk number blank blocks line =
    let g = geometry_in disk in
    cond (eqb (line_read_refusal disk number blank blocks line) 0)
    (or_else (waiting_for g blocks line number) (shown_at g disk blank (walk g disk number).end)) []
