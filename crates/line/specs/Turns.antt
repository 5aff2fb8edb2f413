-- The turns of a line on a drive, and the first of them that is not placed. Assumes nothing.
use Rattle.std.specs.Prelude.{◌≡◌, List, [], ◌∷◌, ℕ, zero, suc, ◌≤◌, length, Option, Some, None}
use Rattle.model.specs.Geometry.{Geometry}
use Rattle.model.specs.Blocks.{Bytes}
use Rattle.model.specs.Line as model
use Rattle.line.specs.declared.offers.Offer.{Offer}
use Rattle.line.specs.declared.offers.Line.{Line}
use Rattle.line.specs.Offers.{line_of}

-- the first one after so many
unfoldable pub first_at : List model.Offer → (placed : ℕ) → Option Offer
first_at [] placed = None
first_at (offer ∷ later) zero = Some (record { number = record { 0 = offer.number }; place = offer.place })
first_at (offer ∷ later) (suc placed) = first_at later placed

-- they are a line's turns on a drive, whatever the so many bytes of lent blocks
pub record TurnsFound (g : Geometry) (lent : ℕ) (line : List model.Offer) (turns : Line) : Type 0 where
  pub count_most : turns.waiting ≤ 16
  pub turns_are : (blocks : Bytes) → length blocks ≡ lent → line_of turns ≡ model.turns g blocks line
