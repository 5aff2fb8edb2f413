-- What a write that is stopped after so many stores answers and leaves (document 02, K5). Assumes nothing.
use Rattle.std.specs.Prelude.{◌≡◌, Bool, false, List, ℕ, length, Result, Ok, Err}
use Rattle.model.specs.Blocks.{Bytes, DiskAddress}
use Rattle.model.specs.Calls as model
use Rattle.recovery_model.specs.Cuts.{cut_trace, is_cut, cut_disk, cut_list}
use Rattle.layout.specs.declared.refusals.Refusal.{Refusal}
use Rattle.layout.specs.Refusals.{refusal_number}
use Rattle.line.specs.declared.offers.Line.{Line}
use Rattle.line.specs.Offers.{line_of}
use Rattle.mapper.specs.declared.cuts.CutWritten.{CutWritten}
use Rattle.mapper.specs.declared.cuts.LineCutWritten.{LineCutWritten}
use Rattle.mapper.specs.Within.{line_within}

-- what such a write tells by numbers; a refused one makes no store and is not cut
pub record CutAnswer : Type 0 where
  pub answer : ℕ
  pub stores : ℕ
  pub is_cut : Bool

abbrev pub cut_made : CutWritten → CutAnswer
cut_made made = record { answer = 0; stores = made.stores; is_cut = made.is_cut }

abbrev pub cut_refused : (refusal : ℕ) → CutAnswer
cut_refused refusal = record { answer = refusal; stores = 0; is_cut = false }

abbrev pub cut_answer_of : Result CutWritten Refusal → CutAnswer
cut_answer_of (Ok made) = cut_made made
cut_answer_of (Err refused) = cut_refused (refusal_number refused)

-- and the line, which is as it was lent where the write is refused
pub record LineCutAnswer : Type 0 where
  pub told : CutAnswer
  pub line : Line

abbrev pub line_cut_answer_of : (lent : Line) → Result LineCutWritten Refusal → LineCutAnswer
line_cut_answer_of lent (Ok made) = record { told = cut_made made.cut; line = made.line }
line_cut_answer_of lent (Err refused) = record { told = cut_refused (refusal_number refused); line = lent }

-- the answer of the model's write, the first so many of its stores, whether some are left out, and the disk
-- and the list that these leave
pub record CutAnswered (result : model.Written) (bound : ℕ) (disk : Bytes) (list : List DiskAddress)
    (disk_after : Bytes) (listAfter : List DiskAddress) (answer : Result CutWritten Refusal) : Type 0 where
  pub answered : (cut_answer_of answer).answer ≡ result.answer
  pub stores_are : (cut_answer_of answer).stores ≡ length (cut_trace bound result)
  pub cut_is : (cut_answer_of answer).is_cut ≡ is_cut bound result
  pub stored : disk_after ≡ cut_disk bound result disk
  pub listed : listAfter ≡ cut_list bound result list

-- and the line as it was lent, or without what was placed where no store is left out
pub record LineCutAnswered (result : model.Written) (bound : ℕ) (disk : Bytes) (list : List DiskAddress)
    (blocks : Bytes) (line : Line) (disk_after : Bytes) (listAfter : List DiskAddress)
    (answer : Result LineCutWritten Refusal) : Type 0 where
  pub answered : (line_cut_answer_of line answer).told.answer ≡ result.answer
  pub stores_are : (line_cut_answer_of line answer).told.stores ≡ length (cut_trace bound result)
  pub cut_is : (line_cut_answer_of line answer).told.is_cut ≡ is_cut bound result
  pub line_is :
      line_of (line_cut_answer_of line answer).line ≡ line_within bound result disk blocks (line_of line)
  pub stored : disk_after ≡ cut_disk bound result disk
  pub listed : listAfter ≡ cut_list bound result list
