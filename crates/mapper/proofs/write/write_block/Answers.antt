-- `write_block` meets its contract: the list has room for all stores of a write that is not refused, so the
-- list's length as the bound leaves none out. Assumes nothing.
use mathlib.Core.Path.{refl, ap}
use lib.ListN.{length}
use Rattle.std.specs.Prelude.{Ok}
use Rattle.model.specs.Calls.{written}
use Rattle.model.proofs.Refusals.Writes.{stores_written_le}
use Rattle.layout.specs.Refusals.{refusal_number}
use Rattle.layout.proofs.Laws.Refusals.{handed_on}
use Rattle.mapper.specs.Writes.{brought_by, told_by_write}
use Rattle.mapper.specs.Within.{bounded_made, bounded_refused}
use Rattle.mapper.proofs.Laws.Uncut.{block_uncut}
use Rattle.mapper.proofs.write.write_block.Goals as goal

pub returns-in_err-done : goal.returns-in_err-done
returns-in_err-done c =
    let a = c.args in
    let offered = brought_by a.offer in
    let room = length a.list.now in
    block_uncut (written a.disk.now a.number.0 a.content.now a.random.now room offered) room
    (stores_written_le a.disk.now a.number.0 a.content.now a.random.now room offered)
    (bounded_refused (refusal_number c.in_err-done.field-0.0)) c.in_err-done.ensures c.from_residual.result
    (ap told_by_write (handed_on c.from_residual.ensures.1))

pub returns : goal.returns
returns c =
    let a = c.args in
    let offered = brought_by a.offer in
    let room = length a.list.now in
    block_uncut (written a.disk.now a.number.0 a.content.now a.random.now room offered) room
    (stores_written_le a.disk.now a.number.0 a.content.now a.random.now room offered)
    (bounded_made c.in_ok-done.done) c.in_ok-done.ensures (Ok c.in_ok-done.done.written) refl
