-- `write_line` meets its contract: the list has room for all stores of a write that is not refused, so the
-- list's length as the bound leaves none out. Assumes nothing.
use mathlib.Core.Path.{refl, ap}
use lib.ListN.{length}
use Rattle.std.specs.Prelude.{Ok, Err}
use Rattle.model.specs.Calls.{in_line, written}
use Rattle.model.proofs.Refusals.Writes.{stores_written_le}
use Rattle.layout.proofs.Laws.Refusals.{handed_on}
use Rattle.line.specs.Offers.{line_of}
use Rattle.mapper.specs.Writes.{told_by_line_write}
use Rattle.mapper.specs.Within.{line_bounded_of}
use Rattle.mapper.proofs.Laws.Uncut.{line_uncut}
use Rattle.mapper.proofs.write.write_line.Goals as goal

pub returns-in_err-done : goal.returns-in_err-done
returns-in_err-done c =
    let a = c.args in
    let offered = in_line a.blocks.now (line_of a.line) in
    let room = length a.list.now in
    line_uncut (written a.disk.now a.number.0 a.content.now a.random.now room offered) room
    (stores_written_le a.disk.now a.number.0 a.content.now a.random.now room offered)
    (line_bounded_of a.line (Err c.in_err-done.field-0.0)) c.in_err-done.ensures c.from_residual.result
    (ap (told_by_line_write a.line) (handed_on c.from_residual.ensures.1))

pub returns : goal.returns
returns c =
    let a = c.args in
    let offered = in_line a.blocks.now (line_of a.line) in
    let room = length a.list.now in
    line_uncut (written a.disk.now a.number.0 a.content.now a.random.now room offered) room
    (stores_written_le a.disk.now a.number.0 a.content.now a.random.now room offered)
    (line_bounded_of a.line (Ok c.in_ok-done.done)) c.in_ok-done.ensures (Ok c.in_ok-done.done.written) refl
