-- How long an offer waits (document 02, K12), counted in rounds. Assumes nothing.
use Rattle.std.specs.Prelude.{cond, List, [], ◌∷◌, ℕ, suc, eqb}
use Rattle.model.specs.Geometry.{Geometry}
use Rattle.model.specs.Blocks.{Bytes}
use Rattle.model.specs.Layout.{head_in}
use Rattle.model.specs.HiddenHalf.{is_live}
use Rattle.model.specs.Refusals.{rounds_to}
use Rattle.model.specs.Line.{Offer}

-- the round, counted from the head, that comes to the first slot that is not live: there the first one
-- waiting is placed
abbrev pub wait_rounds : Geometry → (disk : Bytes) → ℕ
wait_rounds g disk = rounds_to g.slots (is_live g disk) g (head_in disk)

-- the offers that stand in front of a number's first one, all of them where none is of the number
unfoldable pub offers_before : (number : ℕ) → (line : List Offer) → ℕ
offers_before number [] = 0
offers_before number (offer ∷ later) = cond (eqb offer.number number) 0 (suc (offers_before number later))
