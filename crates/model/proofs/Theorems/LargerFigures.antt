-- What larger drives do, worked out by hand: each field by computation. Assumes nothing.
use mathlib.Core.Path.{refl}
use Rattle.model.specs.HiddenTree.{span}
use Rattle.model.specs.Needs.{needs_refusal, needs_of}
use Rattle.model.specs.TreeCheck.{met_in_turn, met_with, met_below, is_owned, entry_checks, met_checks}
use Rattle.model.specs.TreeCheck.{tree_refusal}
use Rattle.model.specs.Promises.RoundFigures.{bytes_from}
use Rattle.model.specs.Promises.LargerFigures.{LargerFigures}
use Rattle.model.proofs.Theorems.Computing.{computing}

pub larger_figures : LargerFigures
unfolding computing bytes_from needs_refusal needs_of span met_in_turn met_with met_below is_owned entry_checks
    met_checks tree_refusal
larger_figures =
    record {
      three_levels_full = refl;
      three_levels_over = refl;
      four_levels_full = refl;
      four_levels_over = refl;
      size_64 = refl;
      size_128 = refl;
      size_256 = refl;
      size_512 = refl;
      size_1024 = refl;
      size_2048 = refl;
      filled_leaf = refl;
      filled-node = refl;
      filled_data = refl;
      filled_next = refl;
      damaged_outcome = refl;
      damaged_leaf_lem = refl;
      damaged_stores = refl;
      seven_stores = refl;
      seven_root = refl;
      seven-node = refl;
      seven_leaf = refl;
      seven_data = refl;
      below_second = refl;
      zero-node = refl;
      zero_root = refl;
      both_read = refl;
      kept_node = refl;
      kept_leaf = refl;
      kept_root = refl;
      kept_data = refl;
      met_in_order = refl;
      deep_passes = refl;
      digit_root = refl;
      digit_second = refl;
      digit_third = refl;
      place_in_leaf = refl;
      second_map = refl;
      second_map_entry = refl;
      first_map_left = refl;
      far_entry = refl;
      far_shown = refl;
      last_bit = refl;
      bit_beyond = refl;
      old_bit = refl;
      first_beyond_lem = refl;
      needs_both = refl;
    }
