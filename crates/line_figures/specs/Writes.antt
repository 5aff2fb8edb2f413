-- When a row of a write with a line agrees with the model. Assumes nothing.
use Rattle.std.specs.Prelude.{◌≡◌, Bool, ◌&&◌, List, ℕ, min, eqb, length, get_or, take, replicate}
use Rattle.model.specs.Blocks.{Bytes, DiskAddress}
use Rattle.model.specs.Line.{Offer}
use Rattle.model.specs.Calls.{Written, written_list, outcome_number}
use Rattle.model.specs.Promises.LineFigures.{line_written, line_shown, line_answer}
use Rattle.line.specs.Offers.{line_of}
use Rattle.figure_lines.specs.Counts.{entry_or, is_listed}
use Rattle.line_cases.specs.Offers.{line_said, same_line}
use Rattle.line_cases.specs.Cases.{Case, case_from, written_case}
use Rattle.line_cases.specs.Lents.{lent_after}
use Rattle.line_cases.specs.declared.cases.Start.{Start}
use Rattle.line_figures.specs.declared.writes.WriteRow.{WriteRow}

-- ---- reads ----

-- the refusal, and the first byte shown, 256 where there is none
abbrev pub line_read_agrees : (disk : Bytes) → (line : List Offer) → (number answer shown : ℕ) → Bool
line_read_agrees disk line number answer shown =
    eqb answer (line_answer disk number line) && eqb shown (get_or (line_shown disk number line) 0 256)

-- of hidden numbers 0 and 1
unfoldable pub reads_agree : WriteRow → (disk : Bytes) → (line : List Offer) → Bool
reads_agree row disk line =
    line_read_agrees disk line 0 row.18 row.19 && line_read_agrees disk line 1 row.20 row.21

-- ---- a write ----

abbrev pub made_agrees : WriteRow → (answer rounds stores outcome placed : ℕ) → Bool
made_agrees row answer rounds stores outcome placed =
    eqb row.10 answer && eqb row.11 rounds && eqb row.12 stores && eqb row.13 outcome &&
    eqb row.14 placed

-- the head, and the list
abbrev pub stored_agrees : WriteRow → (disk : Bytes) → (list : List DiskAddress) → Bool
stored_agrees row disk list = eqb row.16 (entry_or 5 disk) && is_listed row.17 list

-- the line left, and what lies in the line that was handed over
abbrev pub kept_agrees : WriteRow → (handed left : List Offer) → Bool
kept_agrees row handed left =
    same_line (line_of (line_said row.15)) left &&
    same_line (line_of (line_said row.22)) (lent_after handed left)

-- the number that a row's write goes to
abbrev pub row_number : WriteRow → ℕ
row_number row = min row.7 row.8

-- the reads through the line, the write with its figures, what it leaves, and the reads after it
unfoldable pub result_told : WriteRow → (before after : Case) → Written → Bool
result_told row before after result =
    reads_agree row before.disk before.line &&
    made_agrees row result.answer result.rounds (length result.trace)
    (outcome_number result.outcome) result.placed &&
    stored_agrees row after.disk (written_list result (replicate 23 99)) &&
    kept_agrees row before.line after.line &&
    reads_agree row after.disk after.line

abbrev pub write_told : WriteRow → Case → Bool
write_told row case =
    result_told row case (written_case (row_number row) case)
    (line_written case.disk (row_number row) case.line)

-- ---- a row ----

abbrev pub write_start : WriteRow → Start
write_start row =
    record {
      publics = row.2;
      hidden = row.3;
      slots = row.4;
      entry = row.5;
      plain = row.6;
      writes = row.7;
      last = row.8;
      line = row.9;
    }

abbrev pub row_case : WriteRow → (disk : Bytes) → Case
row_case row disk = case_from (write_start row) disk

-- the row's case is made, and the write leaves its disk
pub record WrittenOn (row : WriteRow) (disk disk_after : Bytes) (agreed : Bool) : Type 0 where
  pub agrees_is : agreed ≡ write_told row (row_case row disk)
  pub disk_is : disk_after ≡ (written_case (row_number row) (row_case row disk)).disk

unfoldable pub line_agrees : WriteRow → Bool
line_agrees row = write_told row (row_case row (take row.1 (replicate 1952 row.0)))
