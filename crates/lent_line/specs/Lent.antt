-- What a lent line hands over, as a line by value, and what it holds once such a line is saved. Assumes
-- nothing.
use Rattle.std.specs.Prelude.{List, [], ◌∷◌, ℕ, min, length, take}
use Rattle.laws.specs.Lists.{over}
use Rattle.line.specs.declared.offers.Offer.{Offer}
use Rattle.line.specs.declared.offers.Line.{Line}
use Rattle.line.specs.Offers.{no_line, pushed}

-- the least of how many wait, how many are lent, and 16
abbrev pub most_of : (lent waiting : ℕ) → ℕ
most_of lent waiting = min waiting (min 16 lent)

-- offers pushed one after another
unfoldable pub pushed_all : List Offer → Line → Line
pushed_all [] line = line
pushed_all (offer ∷ later) line = pushed_all later (pushed line offer)

-- the line that lent offers hand over, where so many wait
unfoldable pub loaded_line : (waiting : ℕ) → (lent : List Offer) → Line
loaded_line waiting lent = pushed_all (take (most_of (length lent) waiting) lent) no_line

-- the lent offers once the waiting ones of a line are put in their front
unfoldable pub saved_offers : Line → (lent : List Offer) → List Offer
saved_offers line lent = over 0 (take (most_of (length lent) line.waiting) line.offers) lent
