-- Two refusals at once: each field by computation. Assumes nothing.
use mathlib.Core.Path.{refl}
use Rattle.model.specs.Promises.OrderFigures.{OrderFigures}
use Rattle.model.proofs.Theorems.Computing.{computing}

pub order_figures : OrderFigures
unfolding computing
order_figures =
    record {
      one_before_two = refl;
      two_before_three = refl;
      three_before_four = refl;
      four_before_five = refl;
      five_before_six = refl;
      three_before_ten = refl;
      ten_before_eleven = refl;
      eleven_before_twelve = refl;
      write_three_before_four = refl;
      write_four_before_five = refl;
      write_five_before_six = refl;
      write_six_before_seven = refl;
      write_ends_at_seven = refl;
      write_eight_before_nine = refl;
    }
