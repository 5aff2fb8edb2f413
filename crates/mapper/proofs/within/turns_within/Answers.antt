-- `turns_within` meets its contract: a refused write leaves disk, list and line, another one is run up to the
-- bound with the turns of the line. Assumes nothing.
use Rattle.model.specs.Calls.{in_line}
use Rattle.layout.specs.Geometries.{geometry_of}
use Rattle.layout.specs.Refusals.{refusal_number}
use Rattle.layout.proofs.Laws.Refusals.{handed_on}
use Rattle.line.specs.Offers.{line_of}
use Rattle.mapper.proofs.Laws.Writes.{runnable}
use Rattle.mapper.proofs.Laws.LineWrites.{line_refused, brought_in_line, line_fits, line_done}
use Rattle.mapper.proofs.within.turns_within.Goals as goal

pub returns-in_err-g : goal.returns-in_err-g
returns-in_err-g c =
    let a = c.args in
    let refused = c.in_err-g.ensures in
    rw (handed_on c.from_residual.ensures.1)
    (line_refused a.disk.now a.number.0 a.content.now a.random.now a.list.now a.line a.blocks.now a.bound
    (refusal_number c.in_err-g.field-0.0) refused.fault_is refused.fault_some)

pub run_write-ran-requires : goal.run_write-ran-requires
run_write-ran-requires c =
    let a = c.args in
    let opened = c.in_ok-g.ensures in
    let head = c.head_in-head in
    let turns = c.turns_of-turns in
    rw c.waiting_offers.ensures
    (runnable a.disk.now a.number.0 a.content.now a.random.now a.list.now
    (in_line a.blocks.now (line_of a.line)) a.blocks.now opened.accepted (geometry_of c.in_ok-g.g) opened.same
    head.result head.ensures (line_of turns.result)
    (brought_in_line a.disk.now a.number.0 a.content.now a.random.now a.list.now a.line a.blocks.now a.bound
    opened.accepted (geometry_of c.in_ok-g.g) opened.same head.result head.ensures turns.result
    turns.ensures))

pub answer_line-requires : goal.answer_line-requires
answer_line-requires c =
    let a = c.args in
    let opened = c.in_ok-g.ensures in
    let head = c.head_in-head in
    let turns = c.turns_of-turns in
    let ran = c.run_write-ran in
    line_fits a.disk.now a.number.0 a.content.now a.random.now a.list.now a.line a.blocks.now a.bound
    opened.accepted (geometry_of c.in_ok-g.g) opened.same head.result head.ensures turns.result turns.ensures
    ran.new.disk ran.new.list ran.result (rw c.waiting_offers.ensures at ran.ensures)

pub returns : goal.returns
returns c =
    let a = c.args in
    let opened = c.in_ok-g.ensures in
    let head = c.head_in-head in
    let turns = c.turns_of-turns in
    let ran = c.run_write-ran in
    line_done a.disk.now a.number.0 a.content.now a.random.now a.list.now a.line a.blocks.now a.bound
    opened.accepted (geometry_of c.in_ok-g.g) opened.same head.result head.ensures turns.result turns.ensures
    ran.new.disk ran.new.list ran.result (rw c.waiting_offers.ensures at ran.ensures) c.answer_line.result
    c.answer_line.ensures
