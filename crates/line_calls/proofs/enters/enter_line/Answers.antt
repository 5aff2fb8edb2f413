-- `line_calls::enters::enter_line` meets its contract: the drive's refusal, the offer's, the room's, or the
-- line with the offer. Assumes nothing.
use mathlib.Core.Path.{refl}
use Rattle.layout.proofs.Laws.Refusals.{handed_on}
use Rattle.line_calls.proofs.Laws.Enters.{enter_drive, enter_offer, enter_full, enter_done}
use Rattle.line_calls.proofs.enters.enter_line.Goals as goal

pub returns-in_err-geometry : goal.returns-in_err-geometry
returns-in_err-geometry c =
    let a = c.args in
    rw (handed_on c.from_residual.ensures.1)
    (enter_drive a.disk.now a.offer a.blocks.now a.line a.room _ c.in_err-geometry.ensures)

pub returns-in_err-check_offer : goal.returns-in_err-check_offer
returns-in_err-check_offer c =
    let a = c.args in
    rw (handed_on c.from_residual-in_err-check_offer.ensures.1)
    (enter_offer a.disk.now a.offer a.blocks.now a.line a.room c.in_ok-geometry.ensures _
    (c.in_err-check_offer.ensures a.blocks.now refl))

pub returns-in_err-check_room : goal.returns-in_err-check_room
returns-in_err-check_room c =
    let a = c.args in
    rw (handed_on c.from_residual-in_err-check_room.ensures.1)
    (enter_full a.disk.now a.offer a.blocks.now a.line a.room c.in_ok-geometry.ensures
    (c.in_ok-check_offer.ensures a.blocks.now refl) c.in_err-check_room.ensures _ refl)

pub returns : goal.returns
returns c =
    let a = c.args in
    enter_done a.disk.now a.offer a.blocks.now a.line a.room c.in_ok-geometry.ensures
    (c.in_ok-check_offer.ensures a.blocks.now refl) c.in_ok-check_room.ensures refl c.with_offer.result
    c.with_offer.ensures
