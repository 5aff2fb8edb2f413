-- What the write tells, and how many it leaves waiting, are compared.
use Rattle.std.proofs.Common.{◌≡◌, Bool, ◌&&◌, List, ℕ, eqb, length, replicate, Result, ap, ◌∙◌}
use Rattle.std.specs.Int.{from_bool}
use Rattle.model.specs.Blocks.{Bytes, DiskAddress}
use Rattle.model.specs.Line.{Offer}
use Rattle.model.specs.Calls.{in_line, written}
use Rattle.model.specs.Promises.Figures.{filled}
use Rattle.figure_lines.proofs.Laws.Counts.{from_digit}
use Rattle.line.specs.declared.offers.Line.{Line}
use Rattle.line.specs.Offers.{line_of}
use Rattle.layout.specs.declared.refusals.Refusal.{Refusal}
use Rattle.mapper.specs.Cuts.{LineCutAnswered, cut_answer_of, line_cut_answer_of}
use Rattle.mapper.specs.declared.cuts.CutWritten.{CutWritten}
use Rattle.answers_c.specs.declared.cuts.Cut.{Cut}
use Rattle.answers_c.specs.Cuts.{cut_said}
use Rattle.recovery_figures.proofs.Laws.Cuts.{said_cut}
use Rattle.mapper.specs.declared.cuts.LineCutWritten.{LineCutWritten}
use Rattle.recovery_figures.specs.declared.line_cuts.LineCutRow.{LineCutRow}
use Rattle.recovery_figures.specs.LineCuts.{two_blocks, zero_one, line_pulled_on, line_cut_told}
use Rattle.recovery_figures.proofs.line_cuts.tell_line_cut.Goals as goal

-- a write with that line and these blocks
same_line :
    {blocks after : Bytes} {line : Line} {list list_after : List DiskAddress}
    {made : Result LineCutWritten Refusal}
    (disk : Bytes) (bound : ℕ) → blocks ≡ two_blocks → line ≡ zero_one →
    LineCutAnswered (written disk 0 (filled 8) (replicate 256 165) 23 (in_line blocks (line_of line))) bound
    disk list blocks line after list_after made →
    LineCutAnswered (line_pulled_on disk) bound disk list two_blocks zero_one after list_after made
same_line disk bound blocks_are line_is made = rw (blocks_are, line_is) at made

-- three comparisons of what it answers
told_is :
    {disk after : Bytes} {list list_after : List DiskAddress} {made : Result LineCutWritten Refusal}
    {told : Cut} {line : Line} {counted ended waits : Bool} {wanted left : ℕ} (row : LineCutRow)
    (cut : Result CutWritten Refusal) →
    LineCutAnswered (line_pulled_on disk) row.0 disk list two_blocks zero_one after list_after made →
    cut_answer_of cut ≡ (line_cut_answer_of zero_one made).told → told ≡ cut_said (cut_answer_of cut) →
    line ≡ (line_cut_answer_of zero_one made).line → counted ≡ eqb row.1 told.stores →
    wanted ≡ from_bool row.2 → ended ≡ eqb wanted told.cut →
    left ≡ length (line_of line) → waits ≡ eqb row.3 left →
    (counted && ended && waits) ≡ line_cut_told row disk
unfolding line_cut_told
told_is {told = told} row cut good cut_is said line_is counted_is wanted_is ended_is left_is waits_are =
    let wanted_lem = wanted_is ∙ from_digit row.2 in
    let all = said ∙ ap cut_said cut_is in
    let stores_lem = ap (λ (t : Cut). t.stores) all ∙ good.stores_are in
    let cut_lem = ap (λ (t : Cut). t.cut) all ∙ said_cut good.cut_is in
    let waiting =
    left_is ∙ ap (λ (l : Line). length (line_of l)) line_is
    ∙ ap (λ (l : List Offer). length l) good.line_is in
    rw (counted_is, ended_is, waits_are)
    (λ i. eqb row.1 (stores_lem i) && eqb (wanted_lem i) (cut_lem i) && eqb row.3 (waiting i))

pub returns-clause-told : goal.returns-clause-told
returns-clause-told c =
    told_is c.args.row c.cut_of.result
    (same_line c.args.disk.now c.args.row.0 c.two_blocks-blocks.ensures c.line_by-line.ensures
    c.write_line_cut-made.ensures) (c.cut_of.ensures zero_one) c.from-told.ensures
    (c.left_after_cut-left.ensures
    ∙ ap (λ (line : Line). (line_cut_answer_of line c.write_line_cut-made.result).line)
    c.line_by-line.ensures)
    c.print_count-counted.ensures c.from.ensures c.print_count-ended.ensures c.held.ensures
    c.print_figure-waits.ensures

pub returns-clause-stored : goal.returns-clause-stored
returns-clause-stored c =
    (same_line c.args.disk.now c.args.row.0 c.two_blocks-blocks.ensures c.line_by-line.ensures
    c.write_line_cut-made.ensures).stored
