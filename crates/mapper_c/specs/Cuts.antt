-- What a write that is cut after so many stores answers and leaves, by the model's `written`. Assumes
-- nothing.
use Rattle.std.specs.Prelude.{◌≡◌, List, ℕ, length}
use Rattle.model.specs.Blocks.{Bytes, DiskAddress}
use Rattle.model.specs.Calls.{Written}
use Rattle.recovery_model.specs.Cuts.{cut_trace, is_cut, cut_disk, cut_list}
use Rattle.answers_c.specs.declared.cuts.Cut.{Cut}
use Rattle.answers_c.specs.Cuts.{cut_said}

-- the numbers of a write: its refusal or 0, the stores made, and 1 where others are left out
abbrev pub cut_numbers : (bound : ℕ) → Written → Cut
cut_numbers bound result =
    cut_said
    (record {
      answer = result.answer;
      stores = length (cut_trace bound result);
      is_cut = is_cut bound result;
    })

pub record CutTold (result : Written) (bound : ℕ) (disk : Bytes) (list : List DiskAddress)
    (disk_after : Bytes) (listAfter : List DiskAddress) (answer : Cut) : Type 0 where
  pub answered : answer ≡ cut_numbers bound result
  pub stored : disk_after ≡ cut_disk bound result disk
  pub listed : listAfter ≡ cut_list bound result list
