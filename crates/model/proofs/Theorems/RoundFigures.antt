-- What rounds do on drives worked out by hand: each field by computation. Assumes nothing.
use mathlib.Core.Path.{refl}
use Rattle.model.specs.Needs.{needs_refusal, needs_of}
use Rattle.model.specs.Promises.RoundFigures.{bytes_from, RoundFigures}
use Rattle.model.proofs.Theorems.Computing.{computing}

pub round_figures : RoundFigures
unfolding computing bytes_from needs_refusal needs_of
round_figures =
    record {
      random_first = refl;
      random_second = refl;
      random_third = refl;
      random_last = refl;
      marked_placed = refl;
      marked_placed_data = refl;
      marked_placed_leaf = refl;
      random_passed_over = refl;
      marked_placed_stores = refl;
      owner_damaged = refl;
      owner_damaged_offer = refl;
      owner_damaged_leaf = refl;
      owner_damaged_data = refl;
      owner_damaged_root = refl;
      owner_damaged_stores = refl;
      offer_damaged = refl;
      offer_damaged_leaf = refl;
      offer_damaged_none = refl;
      offer_damaged_filled = refl;
      live_waits = refl;
      live_waits_leaf = refl;
      live_free_leaf = refl;
      live_free_data = refl;
      live_free_stores = refl;
      leaf_damaged = refl;
      leaf_sound = refl;
      damaged_then_placed = refl;
      damaged_then_leaf = refl;
      damaged_then_root = refl;
      damaged_then_kept = refl;
      damaged_then_stores = refl;
      stale_filled = refl;
      stale_kept_elsewhere = refl;
      stale_taken_leaf = refl;
      stale_taken_root = refl;
      live_marked_leaf = refl;
      live_marked_data = refl;
      live_marked_next = refl;
      owner_is_hidden = refl;
      owner_is_hidden_damaged = refl;
      outcome_none = refl;
      outcome_placed = refl;
      outcome_not_tried = refl;
      refused_rounds = refl;
      refused_stores = refl;
      outcome_eleven = refl;
      outcome_ten_first = refl;
      public_shown = refl;
      hidden_shown_lem = refl;
      hidden_blank = refl;
      needs_first = refl;
      needs_fifth = refl;
      needs_outside = refl;
      needs_full = refl;
      header_kept = refl;
      map_kept = refl;
      bits_kept = refl;
    }
