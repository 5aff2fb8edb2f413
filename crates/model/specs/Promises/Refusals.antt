-- Demand 1: a public half is refused exactly on document 01's conditions, whatever is offered, and a hidden
-- call exactly on document 01's and document 02's (K3); a refusal and a read change nothing; a bad offer
-- leaves what a write without one leaves. Assumes nothing.
use Rattle.std.specs.Prelude.{◌≡◌, ◌≢◌, List, [], ◌++◌, ℕ, ◌≤◌, length, get_or}
use Rattle.model.specs.Geometry.{Geometry}
use Rattle.model.specs.Blocks.{Bytes, DiskAddress}
use Rattle.model.specs.Layout.{geometry_in}
use Rattle.model.specs.Stores.{addresses}
use Rattle.model.specs.Refusals.{format_refusal, public_read_refusal, hidden_read_refusal}
use Rattle.model.specs.Line.{Offer, line_offer_refusal, enter_refusal, entered}
use Rattle.model.specs.Calls.{formatted, public_read, hidden_read, outcome_number, Offered, nothing}
use Rattle.model.specs.Calls.{offer_refusal, offered_writes, Written, written, written_disk, written_list}
use Rattle.model.specs.Calls.{line_left, line_read_refusal, line_read}
use Rattle.model.specs.Conditions.{Answers, size_conditions, drive_conditions, place_conditions}
use Rattle.model.specs.Conditions.{round_conditions, hidden_conditions, walk_conditions, offer_conditions}
use Rattle.model.specs.Conditions.{room_conditions, line_read_conditions}
use Rattle.model.specs.Runs.{HiddenCall, read_public, ask_hidden, disk_after}

-- what holds of every write: of its result, and of what the same write has with nothing offered
pub record WriteRefusals (disk : Bytes) (number : ℕ) (content random : Bytes) (list : List DiskAddress)
    (offer : Offered) (result bare : Written) : Type 0 where
  -- 1 to 9, whatever is offered
  pub exact :
      Answers
      (drive_conditions disk ++
      (place_conditions (geometry_in disk) disk number (length content) ++
      round_conditions (geometry_in disk) disk number (length random) (length list)))
      result.answer
  -- answer, rounds and stores are those of the same write with nothing offered
  pub offer_answer : result.answer ≡ bare.answer
  pub offer_rounds : result.rounds ≡ bare.rounds
  pub offer_stores : addresses result.trace ≡ addresses bare.trace
  -- a bad offer leaves the very disk of a write with nothing offered, and so does all that brings nothing to
  -- the rounds, as a line of which none counts
  pub bad_offer : offer_refusal (geometry_in disk) offer ≢ 0 → written_disk result disk ≡ written_disk bare disk
  pub nothing_counts :
      offered_writes (geometry_in disk) offer ≡ [] → written_disk result disk ≡ written_disk bare disk
  -- a refused write has no rounds and no stores, is not tried, places nothing, and leaves disk, list and any
  -- line
  pub refused_rounds : result.answer ≢ 0 → result.rounds ≡ 0
  pub refused_stores : result.answer ≢ 0 → result.trace ≡ []
  pub refused_outcome : result.answer ≢ 0 → outcome_number result.outcome ≡ 3
  pub refused_placed : result.answer ≢ 0 → result.placed ≡ 0
  pub refused_disk : result.answer ≢ 0 → written_disk result disk ≡ disk
  pub refused_list : result.answer ≢ 0 → written_list result list ≡ list
  pub refused_line :
      result.answer ≢ 0 → (blocks : Bytes) (line : List Offer) → line_left result disk blocks line ≡ line
  -- the list keeps its length, and its entries past the stores keep their values
  pub list_length : length (written_list result list) ≡ length list
  pub list_rest :
      (index : ℕ) → length result.trace ≤ index →
      get_or (written_list result list) index 0 ≡ get_or list index 0

pub record Refusals : Type 0 where
  pub format_exact :
      (disk : Bytes) (g : Geometry) → Answers (size_conditions (length disk) g) (format_refusal disk g)
  pub format_refused : (disk : Bytes) (g : Geometry) → format_refusal disk g ≢ 0 → formatted disk g ≡ disk
  pub public_read_exact :
      (disk : Bytes) (number : ℕ) (blank : Bytes) →
      Answers (drive_conditions disk ++ place_conditions (geometry_in disk) disk number (length blank))
      (public_read_refusal disk number blank)
  pub public_read_refused :
      (disk : Bytes) (number : ℕ) (blank : Bytes) →
      public_read_refusal disk number blank ≢ 0 → public_read disk number blank ≡ []
  pub hidden_read_exact :
      (disk : Bytes) (number : ℕ) (blank : Bytes) →
      Answers
      (drive_conditions disk ++
      (hidden_conditions (geometry_in disk) number (length blank) ++
      walk_conditions (geometry_in disk) disk number))
      (hidden_read_refusal disk number blank)
  pub hidden_read_refused :
      (disk : Bytes) (number : ℕ) (blank : Bytes) →
      hidden_read_refusal disk number blank ≢ 0 → hidden_read disk number blank ≡ []
  -- 10 and 11 of an offer: 11 exactly if its number is below H and its block not wholly inside those lent
  pub line_offer_exact :
      (g : Geometry) (blocks : Bytes) (offer : Offer) →
      Answers (offer_conditions g blocks offer) (line_offer_refusal g blocks offer)
  -- entering: 1 to 3, 10, 11 and 16; a refused offer leaves the line
  pub enter_exact :
      (disk : Bytes) (offer : Offer) (blocks : Bytes) (line : List Offer) (room : ℕ) →
      Answers
      (drive_conditions disk ++
      (offer_conditions (geometry_in disk) blocks offer ++ room_conditions line offer.number room))
      (enter_refusal disk offer blocks line room)
  pub enter_refused :
      (disk : Bytes) (offer : Offer) (blocks : Bytes) (line : List Offer) (room : ℕ) →
      enter_refusal disk offer blocks line room ≢ 0 → entered disk offer blocks line room ≡ line
  -- a read through a line: 1 to 3, 10, 11, and 12 only where no block waits
  pub line_read_exact :
      (disk : Bytes) (number : ℕ) (blank blocks : Bytes) (line : List Offer) →
      Answers
      (drive_conditions disk ++
      (hidden_conditions (geometry_in disk) number (length blank) ++
      line_read_conditions (geometry_in disk) disk number blocks line))
      (line_read_refusal disk number blank blocks line)
  pub line_read_refused :
      (disk : Bytes) (number : ℕ) (blank blocks : Bytes) (line : List Offer) →
      line_read_refusal disk number blank blocks line ≢ 0 → line_read disk number blank blocks line ≡ []
  -- by the definition of `disk_after`, which no promise pins; the code's reads are lent the disk to read only
  pub reads_change_nothing :
      (disk : Bytes) (number : ℕ) (blank : Bytes) (asked : HiddenCall) →
      (disk_after disk (read_public number blank) ≡ disk) × (disk_after disk (ask_hidden asked) ≡ disk)
  pub writes :
      (disk : Bytes) (number : ℕ) (content random : Bytes) (list : List DiskAddress) (offer : Offered) →
      WriteRefusals disk number content random list offer
      (written disk number content random (length list) offer)
      (written disk number content random (length list) nothing)
