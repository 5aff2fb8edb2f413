-- The drive and the line of a row once the writes that go before are made. Assumes nothing.
use Rattle.std.specs.Prelude.{◌≡◌, List, [], ℕ, zero, suc, ◌+◌, ◌-◌, min, replicate}
use Rattle.model.specs.Blocks.{Bytes}
use Rattle.model.specs.Line.{Offer}
use Rattle.model.specs.Calls.{formatted, in_line, Written, written}
use Rattle.model.specs.Promises.Figures.{geometry, filled}
use Rattle.model.specs.Promises.LineFigures.{three_blocks, disk_after_line, left_by}
use Rattle.line.specs.declared.offers.Line.{Line}
use Rattle.line.specs.Offers.{line_of}
use Rattle.figure_lines.specs.Counts.{puts}
use Rattle.line_cases.specs.Offers.{line_said}
use Rattle.line_cases.specs.declared.cases.Start.{Start}

-- ---- the drive ----

-- formatted with the P, H and M said, and the root's first entry put
unfoldable pub case_drive : Start → (disk : Bytes) → Bytes
case_drive start disk =
    puts 24 start.entry
    (formatted disk (geometry 32 2 start.publics start.hidden start.slots))

-- ---- writes ----

-- a write of bytes 7 with the three blocks, 256 random bytes of 165 and a list of so much room
abbrev pub written_with : (disk : Bytes) → (number : ℕ) → (line : List Offer) → (room : ℕ) → Written
written_with disk number line room =
    written disk number (filled 7) (replicate 256 165) room (in_line three_blocks line)

pub record Case : Type 0 where
  pub disk : Bytes
  pub line : List Offer

abbrev pub case_on : (disk : Bytes) → (line : List Offer) → Case
case_on disk line = record { disk = disk; line = line }

-- after a write with a list of 23
abbrev pub written_case : (number : ℕ) → Case → Case
written_case number case =
    case_on (disk_after_line case.disk number case.line) (left_by case.disk number case.line)

-- after so many of the writes to numbers 0, 1 and so on up to the last and then to the last
unfoldable pub case_after : (from times last : ℕ) → Case → Case
case_after from zero last case = case
case_after from (suc times) last case =
    written_case (min (from + times) last) (case_after from times last case)

-- a disk and a declared line are those of a case
pub record CaseLeft (case : Case) (disk : Bytes) (line : Line) : Type 0 where
  pub disk_is : disk ≡ case.disk
  pub line_is : line_of line ≡ case.line

-- ---- the case ----

-- so many writes with an empty line, then up to so many in all with the line that is said
unfoldable pub case_from : Start → (disk : Bytes) → Case
case_from start disk =
    case_after start.plain (start.writes - start.plain) start.last
    (case_on (case_after 0 start.plain start.last (case_on (case_drive start disk) [])).disk
    (line_of (line_said start.line)))
