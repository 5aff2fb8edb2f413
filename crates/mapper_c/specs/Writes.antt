-- What a write answers and leaves, by the model's `written`. Assumes nothing.
use Rattle.std.specs.Prelude.{◌≡◌, List, length}
use Rattle.model.specs.Blocks.{Bytes, DiskAddress}
use Rattle.model.specs.Calls as model
use Rattle.answers_c.specs.declared.writes.Written.{Written}

-- the numbers of a write: its refusal or 0, rounds, stores, and document 01's number for the outcome
abbrev pub written_numbers : model.Written → Written
written_numbers result =
    record {
      answer = result.answer;
      rounds = result.rounds;
      stores = length result.trace;
      outcome = model.outcome_number result.outcome;
    }

-- the numbers of the model's write, and the disk and the list that it leaves
pub record Answered (result : model.Written) (disk : Bytes) (list : List DiskAddress) (disk_after : Bytes)
    (listAfter : List DiskAddress) (answer : Written) : Type 0 where
  pub answered : answer ≡ written_numbers result
  pub stored : disk_after ≡ model.written_disk result disk
  pub listed : listAfter ≡ model.written_list result list
