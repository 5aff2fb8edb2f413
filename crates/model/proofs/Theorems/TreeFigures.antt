-- What the whole-tree check answers on drives worked out by hand: each field by computation. Assumes nothing.
use mathlib.Core.Path.{refl}
use Rattle.laws.proofs.Lists.{same_of_is_same}
use Rattle.model.specs.HiddenTree.{span}
use Rattle.model.specs.TreeCheck.{met_in_turn, met_with, met_below, is_owned, entry_checks, met_checks}
use Rattle.model.specs.TreeCheck.{tree_refusal}
use Rattle.model.specs.Promises.Figures.{filled}
use Rattle.model.specs.Promises.TreeFigures.{TreeFigures, five_lines, node, drive_with, stale_leaf}
use Rattle.model.proofs.Theorems.Computing.{computing}

pub tree_figures : TreeFigures
unfolding computing span met_in_turn met_with met_below is_owned entry_checks met_checks tree_refusal
tree_figures =
    record {
      span_data = refl;
      span_leaf = refl;
      span_second = refl;
      span_third = refl;
      two_hidden =
          same_of_is_same five_lines (drive_with (node 5 0 0 0) (node 6 9 0 0) stale_leaf (filled 165)) refl;
      two_hidden_passes = refl;
      moved_leaf_passes = refl;
      stale_slot_passes = refl;
      data_in_root = refl;
      leaf_in_leaf = refl;
      number_at_limit = refl;
      root_last_entry = refl;
      owner_unmapped = refl;
      owner_elsewhere = refl;
      owner_not_below = refl;
      owner_just_above = refl;
      owner_just_below = refl;
      owner_at_limit = refl;
      thirteen_first = refl;
      fourteen_first = refl;
      entry_before_node = refl;
      node_before_next = refl;
    }
