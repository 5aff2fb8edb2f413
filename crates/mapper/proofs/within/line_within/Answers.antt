-- `line_within` meets its contract: with an empty line it is the write with nothing offered. Assumes nothing.
use mathlib.Core.Path.{sym, ◌∙◌}
use Rattle.layout.specs.Refusals.{refusal_number}
use Rattle.layout.proofs.Laws.Refusals.{handed_on}
use Rattle.mapper.specs.Within.{bounded_made, bounded_refused}
use Rattle.mapper.proofs.Laws.LineWrites.{line_empty}
use Rattle.mapper.proofs.within.line_within.Goals as goal

pub returns-in_err-done : goal.returns-in_err-done
returns-in_err-done c =
    let a = c.args in
    let write = c.write_within in
    rw (handed_on c.from_residual.ensures.1)
    (line_empty a.disk.now a.number.0 a.content.now a.random.now a.list.now a.line a.blocks.now a.bound
    (sym c.held.ensures ∙ c.if-held-ne0.false) write.new.disk write.new.list
    (bounded_refused (refusal_number c.in_err-done.field-0.0)) c.in_err-done.ensures)

pub returns : goal.returns
returns c =
    let a = c.args in
    let write = c.write_within in
    line_empty a.disk.now a.number.0 a.content.now a.random.now a.list.now a.line a.blocks.now a.bound
    (sym c.held.ensures ∙ c.if-held-ne0.false) write.new.disk write.new.list (bounded_made c.in_ok-done.done)
    c.in_ok-done.ensures
