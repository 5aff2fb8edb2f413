-- How long an offer waits (document 02, K12), in rounds, on a drive that passes the check of the whole tree:
-- the exact round of the first one waiting, how it counts down, and the bounds for one offer and for a place
-- in the line. Assumes nothing.
use Rattle.std.specs.Prelude.{◌≡◌, ◌≢◌, true, List, [], ℕ, suc, ◌+◌, ◌*◌, ◌≤◌, ◌<◌, length, take}
use Rattle.std.proofs.Math.Option.{none}
use Rattle.model.specs.Blocks.{Bytes}
use Rattle.model.specs.Layout.{geometry_in, head_in}
use Rattle.model.specs.HiddenHalf.{HiddenWrite}
use Rattle.model.specs.Rounds.{Run, run_from}
use Rattle.model.specs.Refusals.{drive_refusal, round_count, write_refusal, hidden_write_refusal}
use Rattle.model.specs.Line.{Offer, turns, left_after, is_waiting_in, entered, waiting_for}
use Rattle.model.specs.Calls.{Offered, one, in_line, offered_writes, start_state, Written, written}
use Rattle.model.specs.Calls.{written_disk, line_left}
use Rattle.model.specs.Waits.{wait_rounds, offers_before}
use Rattle.model.specs.TreeCheck.{tree_refusal}
use Rattle.model.specs.Promises.WaitFigures.{WaitFigures, nines, seven_live, six_five}

-- ---- a write and its first rounds ----

-- a write but for what it carries along: number, data, random bytes and the length of the list lent
pub record PublicHalf : Type 0 where
  pub number : ℕ
  pub content : Bytes
  pub random : Bytes
  pub room : ℕ

abbrev pub half_refusal : PublicHalf → (disk : Bytes) → ℕ
half_refusal half disk = write_refusal disk half.number half.content (length half.random) half.room

abbrev pub half_written : PublicHalf → (disk : Bytes) → Offered → Written
half_written half disk offer = written disk half.number half.content half.random half.room offer

abbrev pub half_disk : PublicHalf → (disk : Bytes) → Offered → Bytes
half_disk half disk offer = written_disk (half_written half disk offer) disk

-- the first so many rounds of a write that is not refused
abbrev pub first_rounds : (most : ℕ) → PublicHalf → (disk : Bytes) → Offered → Run
first_rounds most half disk offer =
    let g = geometry_in disk in
    run_from most g half.number half.content (head_in disk) half.random disk
    (start_state (offered_writes g offer))

-- the line that they leave: every offer of a number that they placed leaves
abbrev pub left_by_first : Run → (disk blocks : Bytes) → (line : List Offer) → List Offer
left_by_first run disk blocks line =
    left_after (take run.state.placed (turns (geometry_in disk) blocks line)) line

-- ---- rounds in a row that have not placed an offer ----

-- the same hidden write with write after write, from a drive on; reads and entries change no drive and make
-- no round, and nor does a refused write
pub data StillOffered (write : HiddenWrite) : (disk : Bytes) → (rounds : ℕ) → Type 0 where
  -- the first so many rounds of a write, all of them at most
  offered_within :
      (half : PublicHalf) (disk : Bytes) (most : ℕ) → half_refusal half disk ≡ 0 →
      most ≤ round_count (geometry_in disk) disk → (first_rounds most half disk (one write)).state.placed ≡ 0 →
      StillOffered write disk (first_rounds most half disk (one write)).rounds
  -- a whole write, refused or not, and rounds after it
  offered_then :
      (half : PublicHalf) (disk : Bytes) (rounds : ℕ) → (half_written half disk (one write)).placed ≡ 0 →
      StillOffered write (half_disk half disk (one write)) rounds →
      StillOffered write disk ((half_written half disk (one write)).rounds + rounds)

-- a number's offer in a line that write after write carries, each with the line that the last one left and
-- blocks of its own, among which 10 and 11 do not meet the offer
pub data StillWaiting (asked : ℕ) : (disk : Bytes) → (line : List Offer) → (rounds : ℕ) → Type 0 where
  waits_within :
      (half : PublicHalf) (disk blocks : Bytes) (line : List Offer) (most : ℕ) → half_refusal half disk ≡ 0 →
      most ≤ round_count (geometry_in disk) disk → waiting_for (geometry_in disk) blocks line asked ≢ none →
      is_waiting_in (left_by_first (first_rounds most half disk (in_line blocks line)) disk blocks line) asked ≡
      true →
      StillWaiting asked disk line (first_rounds most half disk (in_line blocks line)).rounds
  waits_then :
      (half : PublicHalf) (disk blocks : Bytes) (line : List Offer) (rounds : ℕ) →
      waiting_for (geometry_in disk) blocks line asked ≢ none →
      is_waiting_in (line_left (half_written half disk (in_line blocks line)) disk blocks line) asked ≡ true →
      StillWaiting asked (half_disk half disk (in_line blocks line))
      (line_left (half_written half disk (in_line blocks line)) disk blocks line) rounds →
      StillWaiting asked disk line ((half_written half disk (in_line blocks line)).rounds + rounds)
  -- an offer enters, refused or not, of any number
  waits_entered :
      (offer : Offer) (disk blocks : Bytes) (line : List Offer) (room rounds : ℕ) →
      is_waiting_in line asked ≡ true →
      StillWaiting asked disk (entered disk offer blocks line room) rounds →
      StillWaiting asked disk line rounds

-- ---- the promise ----

-- of a write's first rounds: the first hidden write that counts is placed in one round, and in none before
pub record ExactRound (run : Run) (round : ℕ) : Type 0 where
  pub waits_before : run.rounds < round → run.state.placed ≡ 0
  pub placed_from : round ≤ run.rounds → 1 ≤ run.state.placed

pub record Waiting : Type 0 where
  -- a drive worked out by hand
  pub figures : WaitFigures
  -- the round is one of the next H + 1, on every drive
  pub near :
      (disk : Bytes) → drive_refusal disk ≡ 0 →
      (1 ≤ wait_rounds (geometry_in disk) disk) ×
      (wait_rounds (geometry_in disk) disk ≤ suc (geometry_in disk).hidden)
  -- on one that passes the check the first one waiting is placed in it
  pub exact :
      (half : PublicHalf) (disk : Bytes) (offer : Offered) (most : ℕ) → tree_refusal disk ≡ 0 →
      half_refusal half disk ≡ 0 → most ≤ round_count (geometry_in disk) disk →
      offered_writes (geometry_in disk) offer ≢ [] →
      ExactRound (first_rounds most half disk offer) (wait_rounds (geometry_in disk) disk)
  -- a write, refused or not, that carries one along and places none brings it as much nearer as it has rounds
  pub counts_down :
      (half : PublicHalf) (disk : Bytes) (offer : Offered) → tree_refusal disk ≡ 0 →
      offered_writes (geometry_in disk) offer ≢ [] → (half_written half disk offer).placed ≡ 0 →
      (half_written half disk offer).rounds + wait_rounds (geometry_in disk) (half_disk half disk offer) ≡
      wait_rounds (geometry_in disk) disk
  -- one offer that 10 and 11 do not meet is placed by round H + 1
  pub one_offer_lem :
      (write : HiddenWrite) (disk : Bytes) (rounds : ℕ) → tree_refusal disk ≡ 0 →
      hidden_write_refusal (geometry_in disk) write.number write.content ≡ 0 →
      StillOffered write disk rounds → rounds < suc (geometry_in disk).hidden
  -- in H rounds in a row it may not be
  pub one_reached : StillOffered (nines 3) seven_live 7
  -- at place w of a line, behind w - 1 others, by round w × (H + 1)
  pub in_line_lem :
      (asked : ℕ) (disk : Bytes) (line : List Offer) (rounds : ℕ) → tree_refusal disk ≡ 0 →
      StillWaiting asked disk line rounds →
      rounds < suc (offers_before asked line) * suc (geometry_in disk).hidden
  -- and even by round w × H + 1
  pub in_line_most :
      (asked : ℕ) (disk : Bytes) (line : List Offer) (rounds : ℕ) → tree_refusal disk ≡ 0 →
      StillWaiting asked disk line rounds →
      rounds < suc (suc (offers_before asked line) * (geometry_in disk).hidden)
  -- in w × H rounds in a row it may not be: hidden 5 behind hidden 6
  pub line_reached : StillWaiting 5 seven_live six_five 14
