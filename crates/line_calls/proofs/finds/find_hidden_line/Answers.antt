-- `line_calls::finds::find_hidden_line` meets its contract: the drive's refusal, the number's, the place of
-- the offer that counts, or what the read of the drive finds. Assumes nothing.
use mathlib.Core.Path.{◌≡◌, refl, sym, ap, ◌∙◌}
use Rattle.std.specs.Prelude.{Option, Ok}
use Rattle.layout.specs.declared.numbers.DiskAddress.{DiskAddress}
use Rattle.layout.proofs.Laws.Refusals.{refusal-some, handed_on}
use Rattle.line.specs.Offers.{offer_of, line_of}
use Rattle.reads.specs.Finds.{Find, find_of, hidden_find}
use Rattle.line_calls.specs.Finds.{drive_find, line_find_of, line_find}
use Rattle.line_calls.proofs.Laws.Finds.{line_find_drive, line_find_number, line_find_lent}
use Rattle.line_calls.proofs.Laws.Finds.{line_find_unoffered}
use Rattle.line_calls.proofs.finds.find_hidden_line.Goals.{In-None}
use Rattle.line_calls.proofs.finds.find_hidden_line.Goals as goal

pub returns-in_err-geometry : goal.returns-in_err-geometry
returns-in_err-geometry c =
    let a = c.args in
    ap line_find_of (handed_on c.from_residual.ensures.1)
    ∙ line_find_drive a.disk.now a.number.0 a.blank.now a.blocks.now (line_of a.line)
    c.in_err-geometry.ensures

pub returns-in_err-check_hidden_number : goal.returns-in_err-check_hidden_number
returns-in_err-check_hidden_number c =
    let a = c.args in
    ap line_find_of (handed_on c.from_residual-in_err-check_hidden_number.ensures.1)
    ∙ line_find_number a.disk.now a.number.0 a.blank.now a.blocks.now (line_of a.line)
    c.in_ok-geometry.ensures
    c.in_err-check_hidden_number.ensures (refusal-some c.in_err-check_hidden_number.field-0.0)

pub returns-in-Some : goal.returns-in-Some
returns-in-Some c =
    let a = c.args in
    line_find_lent a.disk.now a.number.0 a.blank.now a.blocks.now (line_of a.line) c.in_ok-geometry.ensures
    c.in_ok-check_hidden_number.ensures refl (offer_of c.in-Some.offer)
    (c.in-Some.ensures.offer_is a.blocks.now refl)

-- where no offer counts, it is what the read of the drive finds
unoffered :
    (c : In-None) {find : Find} → find ≡ hidden_find c.args.disk.now c.args.number.0 c.args.blank.now →
    drive_find find ≡
    line_find c.args.disk.now c.args.number.0 c.args.blank.now c.args.blocks.now (line_of c.args.line)
unoffered c =
    let a = c.args in
    line_find_unoffered a.disk.now a.number.0 a.blank.now a.blocks.now (line_of a.line)
    c.in_ok-geometry.ensures
    (c.in-None.ensures.offer_is a.blocks.now refl)

pub returns-in_err-address-in-None : goal.returns-in_err-address-in-None
returns-in_err-address-in-None c =
    ap line_find_of (handed_on c.from_residual-in_err-address-in-None.ensures.1)
    ∙ unoffered (goal.at.returns-in_err-address-in-None c).In-None c.in_err-address-in-None.ensures

pub returns-in-Some-2 : goal.returns-in-Some-2
returns-in-Some-2 c =
    unoffered (goal.at.returns-in-Some-2 c).In-None
    (ap (λ (found : Option DiskAddress). find_of (Ok found)) (sym c.in-Some-2.is)
    ∙ c.in_ok-address-in-None.ensures)

pub returns-in-None-2 : goal.returns-in-None-2
returns-in-None-2 c =
    unoffered (goal.at.returns-in-None-2 c).In-None
    (ap (λ (found : Option DiskAddress). find_of (Ok found)) (sym c.in-None-2.is)
    ∙ c.in_ok-address-in-None.ensures)
