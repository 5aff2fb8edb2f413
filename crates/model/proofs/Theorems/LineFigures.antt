-- The figures of the line: each field by computation. Assumes nothing.
use mathlib.Core.Path.{refl}
use Rattle.model.specs.Promises.LineFigures.{LineFigures}
use Rattle.model.proofs.Theorems.Computing.{computing}

pub line_figures : LineFigures
unfolding computing
line_figures =
    record {
      first_answer = refl;
      first_stores = refl;
      first_outcome = refl;
      first_placed_lem = refl;
      first_left = refl;
      first_head = refl;
      next_stores = refl;
      next_placed = refl;
      next_left = refl;
      next_zero = refl;
      next_one = refl;
      both_rounds = refl;
      both_stores = refl;
      both_outcome = refl;
      both_placed = refl;
      both_left = refl;
      both_zero = refl;
      both_one = refl;
      twice_placed = refl;
      twice_left = refl;
      twice_lent = refl;
      twice_shown = refl;
      passed_placed = refl;
      passed_left = refl;
      passed_outcome = refl;
      passed_none = refl;
      passed_stay = refl;
      outside_outcome = refl;
      outside_placed = refl;
      outside_shown = refl;
      waiting_shown = refl;
      waiting_answer = refl;
      other_answer = refl;
      damaged_outcome = refl;
      damaged_placed = refl;
      damaged_first = refl;
      damaged_first_placed = refl;
      damaged_first_left = refl;
      damaged_later = refl;
      damaged_later_placed = refl;
      damaged_later_left = refl;
      damaged_next = refl;
      enter_first = refl;
      enter_next = refl;
      enter_again = refl;
      entered-zero = refl;
      entered_one = refl;
      seventeenth = refl;
      seventeenth_outside = refl;
      seventeenth_past = refl;
      waiting_again = refl;
      still_sixteen = refl;
      no_room = refl;
      handed_most = refl;
      handed_waiting = refl;
    }
