-- The starred figures: each field by computation. Assumes nothing.
use mathlib.Core.Path.{refl}
use Rattle.model.proofs.Theorems.Computing.{computing}
use Rattle.model.specs.Promises.Figures.{Figures}

pub figures : Figures
unfolding computing
figures =
    record {
      area_start_lem = refl;
      block_count_lem = refl;
      drive_size_lem = refl;
      hidden_fifty_six = refl;
      hidden_fifty_seven = refl;
      publics_three = refl;
      publics_four = refl;
      size_thirty_two = refl;
      size_sixteen = refl;
      first_answer = refl;
      first_stores = refl;
      offer_answer = refl;
      offer_stores = refl;
      offer_outcome_lem = refl;
      fifth_answer = refl;
      fifth_rounds = refl;
      fifth_count = refl;
      fifth_stores = refl;
      random_short = refl;
      list_short = refl;
      blank_answer = refl;
      blank_shown = refl;
    }
