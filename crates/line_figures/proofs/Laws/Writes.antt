-- What a write with a line comes to, held to its row. Assumes nothing.
use mathlib.Core.Path.{◌≡◌, ap, ◌∙◌}
use mathlib.Core.Bool.{Bool, ◌&&◌}
use mathlib.Core.List.{List}
use Prim.Native.Nat.{ℕ}
use lib.Dec.{eqb}
use lib.ListN.{get_or, replicate}
use Rattle.model.specs.Blocks.{Bytes, DiskAddress}
use Rattle.model.specs.Line.{Offer}
use Rattle.model.specs.Calls.{line_read_refusal, line_read}
use Rattle.model.specs.Promises.Figures.{filled}
use Rattle.model.specs.Promises.LineFigures.{three_blocks, line_written}
use Rattle.std.specs.Prelude.{Result}
use Rattle.layout.specs.declared.refusals.Refusal.{Refusal}
use Rattle.line.specs.declared.offers.Line.{Line}
use Rattle.line.specs.Offers.{line_of}
use Rattle.mapper.specs.declared.write.LineWritten.{LineWritten}
use Rattle.mapper.specs.Writes.{LineAnswered, told_by_line_write}
use Rattle.answers_c.specs.declared.line_writes.LineWritten.{LineWritten as Flat}
use Rattle.answers_c.specs.LineWrites.{line_written_said}
use Rattle.line_cases.specs.Cases.{Case, case_on, written_case, CaseLeft}
use Rattle.line_figures.specs.Writes.{reads_agree, made_agrees, stored_agrees, row_number, result_told}
use Rattle.line_figures.specs.Writes.{line_read_agrees, kept_agrees, row_case, WrittenOn}
use Rattle.line_figures.specs.declared.writes.WriteRow.{WriteRow}
use Rattle.line_cases.proofs.Laws.Cases.{case_is, case_written}

-- a read through a line, held to what is said
pub read_agrees_lem :
    {blocks : Bytes} {fault got : ℕ} {answered seen : Bool} (disk : Bytes) (line : List Offer)
    (number answer shown : ℕ) → blocks ≡ three_blocks →
    fault ≡ line_read_refusal disk number (filled 5) blocks line →
    got ≡ get_or (line_read disk number (filled 5) blocks line) 0 256 →
    answered ≡ eqb answer fault → seen ≡ eqb shown got →
    (answered && seen) ≡ line_read_agrees disk line number answer shown
read_agrees_lem disk line number answer shown blocks-are fault_is got-is answered-is seen-is =
    rw (answered-is, seen-is, fault_is, got-is, blocks-are)

-- what a write to a number comes to
abbrev number_told : WriteRow → (number : ℕ) → Case → Bool
number_told row number case =
    result_told row case (written_case number case) (line_written case.disk number case.line)

module _ (row : WriteRow) (number : ℕ) {disk after : Bytes} {line : Line} {list : List DiskAddress}
    {made : Result LineWritten Refusal} {flat : Flat} {left : Line}
    (wrote :
    LineAnswered (line_written disk number (line_of line)) disk (replicate 23 99) three_blocks line after list
    made)
    (flat_is : flat ≡ line_written_said (told_by_line_write line made))
    (left_is : left ≡ (told_by_line_write line made).line)
    {seen told stored kept shown : Bool} (seen-is : seen ≡ reads_agree row disk (line_of line))
    (told_is :
    told ≡ made_agrees row flat.answer flat.rounds flat.stores flat.outcome flat.placed)
    (stored_is : stored ≡ stored_agrees row after list)
    (kept-is : kept ≡ kept_agrees row (line_of line) (line_of left))
    (shown-is : shown ≡ reads_agree row after (line_of left)) where
  told_of_made :
      (seen && told && stored && kept && shown) ≡ number_told row number (case_on disk (line_of line))
  unfolding result_told
  told_of_made =
      rw (
        seen-is,
        told_is,
        stored_is,
        kept-is,
        shown-is,
        flat_is,
        left_is,
        wrote.answered,
        wrote.rounds_are,
        wrote.stores_are,
        wrote.outcome_is,
        wrote.placed_are,
        wrote.line_left_lem,
        wrote.stored,
        wrote.listed,
      )

  -- on the row's case
  pub written_on :
      (start : Bytes) → CaseLeft (row_case row start) disk line → number ≡ row_number row →
      WrittenOn row start after (seen && told && stored && kept && shown)
  written_on start before number_is =
      record {
        agrees_is =
            told_of_made ∙ ap (number_told row number) (case_is before) ∙
            ap (λ (n : ℕ). number_told row n (row_case row start)) number_is;
        disk_is = (case_written before number_is wrote).disk_is;
      }
