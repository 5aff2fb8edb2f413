-- The figures of how long an offer waits: each field by computation. Assumes nothing.
use mathlib.Core.Path.{refl}
use Rattle.model.specs.Blocks.{Bytes}
use Rattle.model.specs.Layout.{head_in}
use Rattle.model.specs.Calls.{nothing}
use Rattle.model.specs.Waits.{wait_rounds, offers_before}
use Rattle.model.specs.Promises.WaitFigures.{WaitFigures, seven, seven_after, of_nines, outcomes_of}
use Rattle.model.specs.Promises.WaitFigures.{placed_in, six_five, three_two}
use Rattle.model.proofs.Theorems.Computing.{computing}
use Rattle.model.proofs.Theorems.WaitDrive.{told-seven_live}

pub wait_figures : WaitFigures
unfolding computing offers_before outcomes_of placed_in
wait_figures =
    record {
      head = told-seven_live head_in refl;
      rounds = told-seven_live (wait_rounds seven) refl;
      rounds_later = told-seven_live (λ (disk : Bytes). wait_rounds seven (seven_after disk nothing)) refl;
      three_told = told-seven_live (outcomes_of 8 (of_nines 3)) refl;
      six_five_lem = told-seven_live (placed_in 16 0 six_five) refl;
      three_two_lem = told-seven_live (placed_in 12 0 three_two) refl;
      first_place_lem = refl;
      second_place = refl;
      place_twice = refl;
      place_absent = refl;
    }
