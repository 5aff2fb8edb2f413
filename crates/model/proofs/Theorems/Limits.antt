-- What is computed at the limits: each field by computation. Assumes nothing.
use mathlib.Core.Path.{refl}
use Rattle.laws.proofs.Lists.{same_of_is_same}
use Rattle.model.specs.Calls.{hidden_read}
use Rattle.model.proofs.Theorems.Computing.{computing}
use Rattle.model.specs.Promises.Limits.{Limits, three_lines, listed_drive, six_lines, aged_drive}
use Rattle.model.specs.Promises.Figures.{filled}

pub limits : Limits
unfolding computing
limits =
    record {
      hidden_is_slots = refl;
      hidden_below_slots = refl;
      most_blocks_lem = refl;
      most_blocks_fit = refl;
      too_many_blocks = refl;
      too_many_blocks_refused = refl;
      size_largest = refl;
      size_too_large = refl;
      size_no_power = refl;
      height_one = refl;
      height_four = refl;
      height_five = refl;
      no_public = refl;
      no_hidden = refl;
      bytes_23 = refl;
      bytes_24 = refl;
      format_23 = refl;
      format_24 = refl;
      refusal_two = refl;
      refusal_three = refl;
      head_three = refl;
      refusal_four = refl;
      refusal_five = refl;
      refusal_six = refl;
      refusal_six_free = refl;
      refusal_six_past = refl;
      refusal_seven = refl;
      refusal_eight = refl;
      random_64 = refl;
      refusal_nine = refl;
      list_7 = refl;
      refusal_ten = refl;
      refusal_eleven = refl;
      refusal_twelve = refl;
      list_rest = same_of_is_same _ _ refl;
      format_leaves = same_of_is_same _ _ refl;
      three_lines_lem = same_of_is_same three_lines listed_drive refl;
      six_lines_lem = same_of_is_same six_lines aged_drive refl;
      hidden_zero_kept = same_of_is_same (hidden_read six_lines 0 (filled 0)) (filled 5) refl;
      bits_in_first = refl;
      bits_in_both = refl;
      bits_in_both_short = refl;
      bits_in_second = refl;
    }
