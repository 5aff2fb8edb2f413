-- What C is told of a cut. Assumes nothing.
use mathlib.Core.Path.{◌≡◌, refl, ap, ◌∙◌}
use mathlib.Core.Bool.{Bool, true, false, cond}
use Rattle.model.specs.Table.{digit}

cond_digit : (b : Bool) → cond b 1 0 ≡ digit b
cond_digit true = refl
cond_digit false = refl

-- whether stores are left out, as a number
pub said_cut : {made is : Bool} → made ≡ is → cond made 1 0 ≡ digit is
said_cut {made} same = cond_digit made ∙ ap digit same
