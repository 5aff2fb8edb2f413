-- The line that a row says, and when two lines are the same. Assumes nothing.
use Rattle.std.specs.Prelude.{Bool, true, false, ◌&&◌, cond, List, [], ◌∷◌, ℕ, zero, suc, ◌-◌, ◌*◌, ◌/◌, ◌%◌}
use Rattle.std.specs.Prelude.{◌^◌, eqb, ltb}
use Rattle.model.specs.Line as model
use Rattle.line.specs.declared.offers.Offer.{Offer}
use Rattle.line.specs.declared.offers.Line.{Line}
use Rattle.line.specs.Offers.{no_line, pushed}

-- ---- the line of a row ----

abbrev pub numbered : (number place : ℕ) → Offer
numbered number place = record { number = record { 0 = number }; place = place }

-- the two hex digits of an offer, of the first four
abbrev pub digits_of : (said i : ℕ) → ℕ
digits_of said i = said / 2 ^ (24 - 8 * i)

-- its number and its place; past the first four number i at place 0
unfoldable pub offer_said : (said i : ℕ) → Offer
offer_said said i =
    cond (ltb i 4) (numbered (digits_of said i / 16 % 16) (digits_of said i % 16)) (numbered i 0)

-- the first so many offers
unfoldable pub offers_said : (said count : ℕ) → Line
offers_said said zero = no_line
offers_said said (suc count) = pushed (offers_said said count) (offer_said said count)

-- in hex digits how many wait, and number and place of the first four
abbrev pub line_said : (said : ℕ) → Line
line_said said = offers_said said (said / 2 ^ 32)

-- ---- lines that are the same ----

abbrev pub same_offer : (said got : model.Offer) → Bool
same_offer said got = eqb said.number got.number && eqb said.place got.place

-- the same offers in the same turn
unfoldable pub same_line : (said got : List model.Offer) → Bool
same_line [] [] = true
same_line [] (offer ∷ got) = false
same_line (offer ∷ said) [] = false
same_line (offer ∷ said) (other ∷ got) = same_offer offer other && same_line said got
