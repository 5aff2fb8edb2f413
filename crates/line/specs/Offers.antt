-- The offers that declared ones say, and the line that a declared one hands over. Assumes nothing.
use Rattle.std.specs.Prelude.{cond, List, [], ◌∷◌, ℕ, ◌+◌, ltb, get_or, set, replicate}
use Rattle.model.specs.Line as model
use Rattle.line.specs.declared.offers.Offer.{Offer}
use Rattle.line.specs.declared.offers.Line.{Line}

-- ---- what they say ----

abbrev pub offer_of : Offer → model.Offer
offer_of offer = record { number = offer.number.0; place = offer.place }

unfoldable pub offers_of : List Offer → List model.Offer
offers_of [] = []
offers_of (offer ∷ later) = offer_of offer ∷ offers_of later

-- the line that is handed over
abbrev pub line_of : Line → List model.Offer
line_of line = model.handed_over line.waiting (offers_of line.offers)

-- ---- a line's offers, one by one ----

-- what stands past the end of a line
abbrev pub no_offer : Offer
no_offer = record { number = record { 0 = 0 }; place = 0 }

abbrev pub no_line : Line
no_line = record { offers = replicate 16 no_offer; waiting = 0 }

-- one offer more at the end, while there is room
unfoldable pub pushed : Line → Offer → Line
pushed line offer =
    cond (ltb line.waiting 16)
    (record { offers = set line.offers line.waiting offer; waiting = line.waiting + 1 }) line

-- the offer at an index
abbrev pub offer_in : Line → (index : ℕ) → Offer
offer_in line index = get_or line.offers index no_offer
