-- Lines of the listing, written on a disk. Assumes nothing.
use Rattle.std.specs.Prelude.{ℕ, replicate, Option, Some, None}
use Rattle.model.specs.Blocks.{Bytes}
use Rattle.model.specs.Calls.{Offered, one, formatted, nothing}
use Rattle.model.specs.Promises.Figures.{filled, small}
use Rattle.model.specs.Promises.Limits.{listed_on, one_offer}

-- data that is offered to a hidden number, or nothing
abbrev pub data_offered : Option ℕ → (content : Bytes) → Offered
data_offered None content = nothing
data_offered (Some number) content = one (record { number = number; content = content })

-- what a line offers: data of its number
abbrev pub listed_offer : Option ℕ → (line : ℕ) → Offered
listed_offer offer line = data_offered offer (filled line)

-- lines 0 -, 0 1 and 1 -
unfoldable pub three_written : (disk : Bytes) → Bytes
three_written disk = listed_on (listed_on (listed_on disk 1 0 nothing) 2 0 (one_offer 1 2)) 3 1 nothing

-- lines 2 - and 2 0
unfoldable pub two_written : (disk : Bytes) → Bytes
two_written disk = listed_on (listed_on disk 4 2 nothing) 5 2 (one_offer 0 5)

-- formatted, and all five lines
abbrev pub five_written : (disk : Bytes) → Bytes
five_written disk = two_written (three_written (formatted disk small))

-- on zeros: the model's `five_lines`
unfoldable pub five_drive : Bytes
five_drive = five_written (replicate 512 0)
