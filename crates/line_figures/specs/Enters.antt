-- When a row of an offer that enters agrees with the model. Assumes nothing.
use Rattle.std.specs.Prelude.{◌≡◌, Bool, ◌&&◌, eqb, take, replicate}
use Rattle.model.specs.Blocks.{Bytes}
use Rattle.model.specs.Line.{Offer, enter_refusal, entered}
use Rattle.model.specs.Promises.LineFigures.{offer_at, three_blocks}
use Rattle.line.specs.Offers.{line_of}
use Rattle.line_cases.specs.Offers.{line_said, same_line}
use Rattle.line_cases.specs.Cases.{Case, case_from}
use Rattle.line_cases.specs.declared.cases.Start.{Start}
use Rattle.line_figures.specs.declared.enters.EnterRow.{EnterRow}

-- no write goes before
abbrev pub enter_start : EnterRow → Start
enter_start row =
    record {
      publics = row.2;
      hidden = row.3;
      slots = row.4;
      entry = row.5;
      plain = 0;
      writes = 0;
      last = 0;
      line = row.6;
    }

abbrev pub row_offer : EnterRow → Offer
row_offer row = offer_at row.7 row.8

-- the answer, and the line after it
unfoldable pub enter_told : EnterRow → Case → Bool
enter_told row case =
    eqb row.10 (enter_refusal case.disk (row_offer row) three_blocks case.line row.9) &&
    same_line (line_of (line_said row.11))
    (entered case.disk (row_offer row) three_blocks case.line row.9)

-- the row's drive is made, and the offer that enters leaves it as it is
pub record EnteredOn (row : EnterRow) (disk disk_after : Bytes) (agreed : Bool) : Type 0 where
  pub agrees_is : agreed ≡ enter_told row (case_from (enter_start row) disk)
  pub disk_is : disk_after ≡ (case_from (enter_start row) disk).disk

unfoldable pub enter_agrees : EnterRow → Bool
enter_agrees row = enter_told row (case_from (enter_start row) (take row.1 (replicate 1952 row.0)))
