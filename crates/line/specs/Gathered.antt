-- The offers that two runs of numbers say. Assumes nothing.
use Rattle.std.specs.Prelude.{List, [], ◌∷◌, ℕ}
use Rattle.model.specs.Line.{Offer}

-- offers by their numbers and their places
unfoldable pub offers_by : (numbers places : List ℕ) → List Offer
offers_by [] places = []
offers_by (number ∷ numbers) [] = []
offers_by (number ∷ numbers) (place ∷ places) =
    record { number = number; place = place } ∷ offers_by numbers places
