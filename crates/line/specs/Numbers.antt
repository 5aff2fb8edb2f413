-- Where a number stands in a line. Assumes nothing.
use Rattle.std.specs.Prelude.{◌≡◌, false, List, ℕ, ◌<◌, length, take, get_or, Option, Some, None}
use Rattle.model.specs.Line.{Offer, is_waiting_in}

-- an offer of number 0 and place 0
abbrev pub past_offer : Offer
past_offer = record { number = 0; place = 0 }

-- the offer at an index is the first one of a number
pub record FirstAt (line : List Offer) (number index : ℕ) : Type 0 where
  pub inside : index < length line
  pub none_before : is_waiting_in (take index line) number ≡ false
  pub found : (get_or line index past_offer).number ≡ number

-- the index of the first offer of a number, none where it does not wait
abbrev pub FoundAt : (line : List Offer) → (number : ℕ) → Option ℕ → Type 0
FoundAt line number None = is_waiting_in line number ≡ false
FoundAt line number (Some index) = FirstAt line number index
