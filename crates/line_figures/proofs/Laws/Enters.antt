-- What an offer that enters comes to, held to its row. Assumes nothing.
use mathlib.Core.Path.{◌≡◌, refl, ap, ◌∙◌}
use mathlib.Core.Bool.{Bool, ◌&&◌}
use lib.Dec.{eqb}
use Rattle.std.specs.Prelude.{Result, Ok, Err}
use Rattle.std.specs.Result.{result_unwrap_or}
use Rattle.model.specs.Blocks.{Bytes}
use Rattle.model.specs.Promises.LineFigures.{three_blocks}
use Rattle.layout.specs.declared.refusals.Refusal.{Refusal}
use Rattle.layout.specs.Refusals.{answer_number}
use Rattle.line.specs.declared.offers.Line.{Line}
use Rattle.line.specs.Offers.{line_of}
use Rattle.line_calls.specs.Enters.{line_entered, EnterAnswered}
use Rattle.answers_c.specs.declared.enters.Entered.{Entered}
use Rattle.answers_c.specs.Enters.{entered_said}
use Rattle.line_cases.specs.Offers.{line_said, same_line}
use Rattle.line_cases.specs.Cases.{case_on, case_from, CaseLeft}
use Rattle.line_figures.specs.Enters.{enter_start, row_offer, enter_told, EnteredOn}
use Rattle.line_figures.specs.declared.enters.EnterRow.{EnterRow}
use Rattle.line_cases.proofs.Laws.Cases.{case_is}

answer_said :
    (line : Line) (result : Result Line Refusal) → (entered_said line result).answer ≡ answer_number result
answer_said line (Ok after) = refl
answer_said line (Err refused) = refl

left_said :
    (line : Line) (result : Result Line Refusal) → result_unwrap_or result line ≡ line_entered result line
left_said line (Ok after) = refl
left_said line (Err refused) = refl

module _ (row : EnterRow) {disk blocks : Bytes} {line said left : Line} {result : Result Line Refusal}
    {told : Entered} {answered kept : Bool} (blocks-are : blocks ≡ three_blocks)
    (enters : EnterAnswered disk (row_offer row) blocks line row.9 result)
    (left_is : left ≡ result_unwrap_or result line) (told_is : told ≡ entered_said line result)
    (answered-is : answered ≡ eqb row.10 told.answer) (said-is : said ≡ line_said row.11)
    (kept-is : kept ≡ same_line (line_of said) (line_of left)) where
  told_of-entered : (answered && kept) ≡ enter_told row (case_on disk (line_of line))
  unfolding enter_told
  told_of-entered =
      rw (
        answered-is,
        told_is,
        answer_said line result,
        kept-is,
        said-is,
        left_is,
        left_said line result,
        enters.answered,
        enters.line_left_lem,
        blocks-are,
      )

  -- on the row's drive
  pub entered_on :
      (start : Bytes) → CaseLeft (case_from (enter_start row) start) disk line →
      EnteredOn row start disk (answered && kept)
  entered_on start before =
      record {
        agrees_is = told_of-entered ∙ ap (enter_told row) (case_is before);
        disk_is = before.disk_is;
      }
