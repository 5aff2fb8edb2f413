-- `pddm_write_line` meets its contract: the line by value is loaded from the lent one, and what the write
-- leaves of it is saved in it. Assumes nothing.
use Rattle.std.proofs.Common.{refl}
use Rattle.mapper_c.proofs.Laws.LineWrites.{saved_written, saved_unwritten, written_of_held}
use Rattle.mapper_c.proofs.line_writes.pddm_write_line.Goals as goal

pub returns-in-Ok : goal.returns-in-Ok
returns-in-Ok c =
    let a = c.args in
    let lent = a.line.now in
    let held = c.load_lent-held in
    let write = c.write_line-written in
    let saved = c.save_lent.new.line in
    rw c.line_written_as-told.ensures
    (written_of_held a.disk.now a.number a.content.now _ a.random.now a.list.now lent a.waiting held.result
    write.result saved held.ensures write.ensures
    (saved_written lent a.waiting held.result held.ensures write.result saved _ c.in-Ok.is
    c.save_lent.ensures))

pub returns-in-Err : goal.returns-in-Err
returns-in-Err c =
    let a = c.args in
    let lent = a.line.now in
    let held = c.load_lent-held in
    let write = c.write_line-written in
    rw c.line_written_as-told.ensures
    (written_of_held a.disk.now a.number a.content.now _ a.random.now a.list.now lent a.waiting held.result
    write.result lent held.ensures write.ensures
    (saved_unwritten lent a.waiting held.result held.ensures write.result lent _ c.in-Err.is refl))
