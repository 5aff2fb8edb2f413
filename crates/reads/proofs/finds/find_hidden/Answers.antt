-- `reads::finds::find_hidden` meets its contract: the drive's refusal, the number's, or what the walk's end
-- says. Assumes nothing.
use mathlib.Core.Path.{◌≡◌, sym, refl, ap, ◌∙◌}
use Rattle.model.specs.HiddenTree.{End}
use Rattle.layout.proofs.Laws.Refusals.{refusal-some, handed_on}
use Rattle.hidden_map.specs.Ends.{end_of}
use Rattle.reads.specs.Finds.{find_of, end_find, hidden_find}
use Rattle.reads.proofs.Laws.Finds.{hidden_find_drive, hidden_find_number, hidden_find_end}
use Rattle.reads.proofs.finds.find_hidden.Goals.{After-walk-end}
use Rattle.reads.proofs.finds.find_hidden.Goals as goal

pub returns-in_err-geometry : goal.returns-in_err-geometry
returns-in_err-geometry c =
    let a = c.args in
    ap find_of (handed_on c.from_residual.ensures.1)
    ∙ hidden_find_drive a.disk.now a.number.0 a.blank.now c.in_err-geometry.ensures

pub returns-in_err-check_hidden_number : goal.returns-in_err-check_hidden_number
returns-in_err-check_hidden_number c =
    let a = c.args in
    ap find_of (handed_on c.from_residual-in_err-check_hidden_number.ensures.1)
    ∙ hidden_find_number a.disk.now a.number.0 a.blank.now c.in_ok-geometry.ensures
    c.in_err-check_hidden_number.ensures (refusal-some c.in_err-check_hidden_number.field-0.0)

-- what is found by where the walk ends
by_end :
    (c : After-walk-end) {end : End} → end_of c.walk-end.result.end ≡ end →
    end_find end ≡ hidden_find c.args.disk.now c.args.number.0 c.args.blank.now
by_end c {end} e =
    let a = c.args in
    hidden_find_end a.disk.now a.number.0 a.blank.now c.in_ok-geometry.ensures
    c.in_ok-check_hidden_number.ensures refl end (sym e ∙ c.walk-end.ensures.end_is)

pub returns-in-Found : goal.returns-in-Found
returns-in-Found c = by_end (goal.at.returns-in-Found c).After-walk-end (ap end_of c.in-Found.is)

pub returns-in-Unmapped : goal.returns-in-Unmapped
returns-in-Unmapped c = by_end (goal.at.returns-in-Unmapped c).After-walk-end (ap end_of c.in-Unmapped.is)

pub returns-in-Damaged : goal.returns-in-Damaged
returns-in-Damaged c = by_end (goal.at.returns-in-Damaged c).After-walk-end (ap end_of c.in-Damaged.is)
