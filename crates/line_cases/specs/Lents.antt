-- What lies in a line that was handed over once the line that is left is saved in it. Assumes nothing.
use Rattle.std.specs.Prelude.{◌≡◌, List, length, take}
use Rattle.laws.specs.Lists.{over}
use Rattle.model.specs.Line.{Offer}
use Rattle.line.specs.declared.offers.Line.{Line}
use Rattle.line.specs.Offers.{line_of}
use Rattle.lent_line.specs.Lent.{saved_offers}

-- those that stay in front, and past them what was handed over
abbrev pub lent_after : (lent left : List Offer) → List Offer
lent_after lent left = take (length lent) (over 0 left lent)

-- the same of declared lines: all sixteen offers, and how many were handed over
pub record LentAfter (lent left after : Line) : Type 0 where
  pub offers_are : after.offers ≡ saved_offers left lent.offers
  pub waiting_is : after.waiting ≡ length (line_of lent)
  pub line_is : line_of after ≡ lent_after (line_of lent) (line_of left)
