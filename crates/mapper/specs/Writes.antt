-- What a write answers and leaves, by the model's `written`. Assumes nothing.
use Rattle.std.specs.Prelude.{◌≡◌, Bool, true, false, cond, List, ℕ, eqb, length}
use Rattle.std.specs.Prelude.{Option, None, Some, Result, Ok, Err}
use Rattle.model.specs.Blocks.{Bytes, DiskAddress}
use Rattle.model.specs.Calls as model
use Rattle.layout.specs.declared.refusals.Refusal.{Refusal}
use Rattle.layout.specs.Refusals.{refusal_number}
use Rattle.line.specs.declared.offers.Line.{Line}
use Rattle.line.specs.Offers.{line_of}
use Rattle.mapper.specs.declared.offers.HiddenOffer.{HiddenOffer}
use Rattle.mapper.specs.declared.write.Outcome.{Outcome}
use Rattle.mapper.specs.declared.write.Outcome.TheVariants.{NoWrite, Placed, Waiting, NotTried}
use Rattle.mapper.specs.declared.write.Outcome.TheVariants.{BadNumber, BadSize, DamagedWalk}
use Rattle.mapper.specs.declared.write.Written.{Written}
use Rattle.mapper.specs.declared.write.LineWritten.{LineWritten}

-- the outcome that a declared one says; `outcome_number` of the model gives document 01's number for it
abbrev pub outcome_of : Outcome → model.Outcome
outcome_of NoWrite = model.no_write
outcome_of Placed = model.placed
outcome_of Waiting = model.waiting
outcome_of NotTried = model.not_tried
outcome_of BadNumber = model.bad_number
outcome_of BadSize = model.bad_size
outcome_of DamagedWalk = model.damaged_walk

-- what a call offers
abbrev pub brought_by : Option HiddenOffer → model.Offered
brought_by None = model.nothing
brought_by (Some write) = model.one (record { number = write.number.0; content = write.content.now })

-- the same said flat: whether there is one, its number and its data
abbrev pub call_offer : (is_offered : Bool) → (number : ℕ) → (content : Bytes) → model.Offered
call_offer true number content = model.one (record { number = number; content = content })
call_offer false number content = model.nothing

-- how many turns its offer has: one, where it is made and 10 and 11 do not meet it
abbrev pub offer_count : Option HiddenOffer → (bad : ℕ) → ℕ
offer_count None bad = 0
offer_count (Some write) bad = cond (eqb bad 0) 1 0

-- it has this number and data, where it is made
abbrev pub OfferLent : Option HiddenOffer → (number : ℕ) → (content : Bytes) → Type 0
OfferLent None number content = Unit {0}
OfferLent (Some write) number content = (number ≡ write.number.0) × (content ≡ write.content.now)

-- ---- what a write tells ----

-- by numbers: 0, or the refusal
pub record WriteTold : Type 0 where
  pub answer : ℕ
  pub rounds : ℕ
  pub stores : ℕ
  pub outcome : model.Outcome

abbrev pub made_told : Written → WriteTold
made_told made =
    record { answer = 0; rounds = made.rounds; stores = made.stores; outcome = outcome_of made.outcome }

-- no rounds, no stores, and not tried
abbrev pub refused_told : (refusal : ℕ) → WriteTold
refused_told refusal = record { answer = refusal; rounds = 0; stores = 0; outcome = model.not_tried }

abbrev pub told_by_write : Result Written Refusal → WriteTold
told_by_write (Ok made) = made_told made
told_by_write (Err refused) = refused_told (refusal_number refused)

-- and of a line how many offers were placed, and what is left of it: the line as it was lent, where the write
-- is refused
pub record LineTold : Type 0 where
  pub told : WriteTold
  pub placed : ℕ
  pub line : Line

abbrev pub made_line_told : LineWritten → LineTold
made_line_told made = record { told = made_told made.written; placed = made.placed; line = made.line }

abbrev pub refused_line_told : (refusal : ℕ) → (lent : Line) → LineTold
refused_line_told refusal lent = record { told = refused_told refusal; placed = 0; line = lent }

abbrev pub told_by_line_write : (lent : Line) → Result LineWritten Refusal → LineTold
told_by_line_write lent (Ok made) = made_line_told made
told_by_line_write lent (Err refused) = refused_line_told (refusal_number refused) lent

-- ---- what a write answers and leaves ----

-- the answer, rounds, stores and outcome of the model's write, and the disk and the list that it leaves
pub record WriteAnswered (result : model.Written) (disk : Bytes) (list : List DiskAddress) (disk_after : Bytes)
    (listAfter : List DiskAddress) (answer : Result Written Refusal) : Type 0 where
  pub answered : (told_by_write answer).answer ≡ result.answer
  pub rounds_are : (told_by_write answer).rounds ≡ result.rounds
  pub stores_are : (told_by_write answer).stores ≡ length result.trace
  pub outcome_is : (told_by_write answer).outcome ≡ result.outcome
  pub stored : disk_after ≡ model.written_disk result disk
  pub listed : listAfter ≡ model.written_list result list

-- and how many it placed, and the line without their numbers
pub record LineAnswered (result : model.Written) (disk : Bytes) (list : List DiskAddress) (blocks : Bytes)
    (line : Line) (disk_after : Bytes) (listAfter : List DiskAddress) (answer : Result LineWritten Refusal) :
    Type 0 where
  pub answered : (told_by_line_write line answer).told.answer ≡ result.answer
  pub rounds_are : (told_by_line_write line answer).told.rounds ≡ result.rounds
  pub stores_are : (told_by_line_write line answer).told.stores ≡ length result.trace
  pub outcome_is : (told_by_line_write line answer).told.outcome ≡ result.outcome
  pub placed_are : (told_by_line_write line answer).placed ≡ result.placed
  pub line_left_lem :
      line_of (told_by_line_write line answer).line ≡ model.line_left result disk blocks (line_of line)
  pub stored : disk_after ≡ model.written_disk result disk
  pub listed : listAfter ≡ model.written_list result list
