-- What a write with a line tells, and the lent line that it leaves, by the model's `written`. Assumes
-- nothing.
use Rattle.std.specs.Prelude.{◌≡◌, ◌≢◌, List, length}
use Rattle.laws.specs.Lists.{over}
use Rattle.model.specs.Blocks.{Bytes, DiskAddress}
use Rattle.model.specs.Line as model
use Rattle.model.specs.Calls.{Written, outcome_number, written_disk, written_list, line_left}
use Rattle.line.specs.declared.offers.Offer.{Offer}
use Rattle.line.specs.Offers.{offers_of}
use Rattle.answers_c.specs.declared.line_writes.LineWritten.{LineWritten}

-- the numbers of a write: its refusal or 0, rounds, stores, document 01's number for the outcome, how many
-- were placed, and how many offers are left
abbrev pub line_numbers : Written → (left : List model.Offer) → LineWritten
line_numbers result left =
    record {
      answer = result.answer;
      rounds = result.rounds;
      stores = length result.trace;
      outcome = outcome_number result.outcome;
      placed = result.placed;
      waiting = length left;
    }

-- with a lent line: what is left of the line handed over stands in its front, the rest is as it was; all is
-- where the write is refused
pub record LentWritten (result : Written) (disk : Bytes) (list : List DiskAddress) (blocks : Bytes)
    (handed : List model.Offer) (lent : List Offer) (disk_after : Bytes) (listAfter : List DiskAddress)
    (lent_after : List Offer) (answer : LineWritten) : Type 0 where
  pub answered : answer ≡ line_numbers result (line_left result disk blocks handed)
  pub line_left_lem : offers_of lent_after ≡ over 0 (line_left result disk blocks handed) (offers_of lent)
  pub line_kept : answer.answer ≢ 0 → lent_after ≡ lent
  pub stored : disk_after ≡ written_disk result disk
  pub listed : listAfter ≡ written_list result list
