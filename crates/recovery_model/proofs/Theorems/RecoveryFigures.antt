-- The figures of cut writes and of recoveries: each field by computation. Assumes nothing.
use mathlib.Core.Path.{refl}
use mathlib.Core.List.{◌∷◌, ◌++◌}
use lib.ListN.{replicate}
use Rattle.laws.proofs.Lists.{same_of_is_same}
use Rattle.model.specs.Promises.Limits.{with_head}
use Rattle.model.proofs.Theorems.Computing.{computing}
use Rattle.recovery_model.specs.Recovery.{used_from, are_starts, are_apart, map_checks, recovery_refusal}
use Rattle.recovery_model.specs.Recovery.{without_bits, with_marks, recovered}
use Rattle.recovery_model.specs.Promises.RecoveryFigures.{RecoveryFigures, pulled_at, with_map}
use Rattle.recovery_model.specs.Promises.RecoveryFigures.{with_bitmap, wide_with}

pub recovery_figures : RecoveryFigures
unfolding computing used_from are_starts are_apart map_checks recovery_refusal without_bits with_marks recovered
recovery_figures =
    record {
      stores = refl;
      cut_sixteen = refl;
      uncut_seventeen = refl;
      uncut_eighteen = refl;
      list_of_nine = refl;
      list_uncut = refl;
      placed_eight = refl;
      placed_nine = refl;
      placed_uncut = refl;
      placed_refused = refl;
      hidden_old = refl;
      hidden_new = refl;
      line_placed_thirteen = refl;
      line_placed_fourteen = refl;
      first_new = refl;
      second_old = refl;
      second_new = refl;
      public_old = refl;
      six_before = refl;
      public_new = refl;
      bits_fourteen = same_of_is_same (recovered (pulled_at 14)) (pulled_at 14) refl;
      bits_fifteen = same_of_is_same (recovered (pulled_at 15)) (with_bitmap 65 2 (pulled_at 15)) refl;
      bits_sixteen = same_of_is_same (recovered (pulled_at 16)) (pulled_at 16) refl;
      tall_one_root = refl;
      tall_two_roots = refl;
      tall_stores = refl;
      tall_hidden_old = refl;
      tall_hidden_new = refl;
      tall_public_old = refl;
      tall_public_new = refl;
      used_later = refl;
      empty = same_of_is_same (recovered (with_map 0 0 0 0)) (with_bitmap 0 0 (with_map 0 0 0 0)) refl;
      three = same_of_is_same (recovered (with_map 4 7 13 0)) (with_bitmap 9 2 (with_map 4 7 13 0)) refl;
      wide =
          same_of_is_same (recovered (wide_with (replicate 64 255)))
          (wide_with (replicate 31 0 ++ (128 ∷ 4 ∷ replicate 31 0))) refl;
      leaf_entry = refl;
      data_entry = refl;
      root_entry = refl;
      map_entry_lem = refl;
      past_slots = refl;
      shared = refl;
      shared_around = refl;
      shared_later = refl;
      last_slot = refl;
      past_publics = refl;
      past_shared = refl;
      one_first = refl;
      two_first = refl;
      three_first = refl;
      kept_by_seventeen = same_of_is_same (recovered (with_map 5 0 0 0)) (with_map 5 0 0 0) refl;
      kept_by_three =
          same_of_is_same (recovered (with_bitmap 1 0 (with_head 4))) (with_bitmap 1 0 (with_head 4)) refl;
    }
