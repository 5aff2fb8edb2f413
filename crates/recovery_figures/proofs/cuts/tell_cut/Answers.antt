-- What the write tells, and the list that it leaves, are compared.
use Rattle.std.proofs.Common.{◌≡◌, Bool, ◌&&◌, List, ℕ, eqb, take, replicate, Result, ap, ◌∙◌}
use Rattle.std.specs.Int.{from_bool}
use Rattle.model.specs.Blocks.{Bytes, DiskAddress}
use Rattle.layout.specs.declared.refusals.Refusal.{Refusal}
use Rattle.mapper.specs.Cuts.{CutAnswered, cut_answer_of}
use Rattle.mapper.specs.declared.cuts.CutWritten.{CutWritten}
use Rattle.answers_c.specs.declared.cuts.Cut.{Cut}
use Rattle.answers_c.specs.Cuts.{cut_said}
use Rattle.figure_lines.specs.Counts.{is_listed}
use Rattle.figure_lines.proofs.Laws.Counts.{from_digit}
use Rattle.recovery_figures.specs.declared.cuts.CutRow.{CutRow}
use Rattle.recovery_figures.specs.Cuts.{pulled_on, cut_stores, cut_told}
use Rattle.recovery_figures.proofs.Laws.Cuts.{said_cut}
use Rattle.recovery_figures.proofs.cuts.tell_cut.Goals as goal

-- three comparisons of what the write answers and leaves
told_is :
    {disk after : Bytes} {list_after stores front : List DiskAddress} {made : Result CutWritten Refusal}
    {told : Cut} {counted ended listed : Bool} {wanted : ℕ} (row : CutRow) →
    CutAnswered (pulled_on disk 23) row.0 disk (replicate 23 99) after list_after made →
    told ≡ cut_said (cut_answer_of made) → counted ≡ eqb row.1 told.stores →
    wanted ≡ from_bool row.2 → ended ≡ eqb wanted told.cut →
    stores ≡ cut_stores → front ≡ take row.0 stores → listed ≡ is_listed front list_after →
    (counted && ended && listed) ≡ cut_told row (pulled_on disk 23)
unfolding cut_told
told_is {made = made} {told = told} row good said counted_is wanted_is ended_is stores_are front_is
    listed_is =
    let wanted_lem = wanted_is ∙ from_digit row.2 in
    let stores_lem = ap (λ (t : Cut). t.stores) said ∙ good.stores_are in
    let cut = ap (λ (t : Cut). t.cut) said ∙ said_cut good.cut_is in
    let front_lem = front_is ∙ ap (take row.0) stores_are in
    rw (counted_is, ended_is, listed_is)
    (λ i. eqb row.1 (stores_lem i) && eqb (wanted_lem i) (cut i) && is_listed (front_lem i) (good.listed i))

pub returns-clause-told : goal.returns-clause-told
returns-clause-told c =
    told_is c.args.row c.cut_write.ensures c.from-made.ensures c.print_count-counted.ensures c.from.ensures
    c.print_count-ended.ensures c.all_stores-stores.ensures c.part_of.ensures c.print_list-listed.ensures

pub returns-clause-stored : goal.returns-clause-stored
returns-clause-stored c = c.cut_write.ensures.stored
