-- `write_within` meets its contract: a refused write leaves disk and list, another one is run up to the bound
-- with the turn of what is offered. Assumes nothing.
use mathlib.Core.Path.{◌≡◌}
use Rattle.model.specs.Line.{hidden_writes_of}
use Rattle.model.specs.Calls.{offered_writes}
use Rattle.layout.specs.Geometries.{geometry_of}
use Rattle.layout.specs.Refusals.{refusal_number, answer_number}
use Rattle.layout.proofs.Laws.Refusals.{handed_on}
use Rattle.mapper.specs.Writes.{brought_by}
use Rattle.mapper.proofs.Laws.Offers.{one_turn, count_one, length_turn, writes_offered}
use Rattle.mapper.proofs.Laws.Writes.{block_refused, runnable, next_fits, block_done}
use Rattle.mapper.proofs.within.write_within.Goals as goal
use Rattle.mapper.proofs.within.write_within.Goals.{After-write_or_none-write}

-- the hidden write of its turn is what the call brings
brought : (c : After-write_or_none-write) →
    hidden_writes_of (geometry_of c.in_ok-g.g) c.write_or_none-write.result.content.now
    (one_turn c.write_or_none-write.result.number.0 c.offer_count-count.result) ≡
    offered_writes (geometry_of c.in_ok-g.g) (brought_by c.args.offer)
brought c =
    let write = c.write_or_none-write in
    writes_offered (geometry_of c.in_ok-g.g) c.args.offer write.result.number.0 write.result.content.now
    write.ensures (answer_number c.check_offered-judged.result) c.check_offered-judged.ensures
    c.offer_count-count.result c.offer_count-count.ensures

pub returns-in_err-g : goal.returns-in_err-g
returns-in_err-g c =
    let a = c.args in
    let refused = c.in_err-g.ensures in
    rw (handed_on c.from_residual.ensures.1)
    (block_refused a.disk.now a.number.0 a.content.now a.random.now a.list.now
    (refusal_number c.in_err-g.field-0.0) refused.fault_is refused.fault_some
    (brought_by a.offer) a.bound)

pub run_write-ran-requires : goal.run_write-ran-requires
run_write-ran-requires c =
    let a = c.args in
    let opened = c.in_ok-g.ensures in
    runnable a.disk.now a.number.0 a.content.now a.random.now a.list.now
    (brought_by a.offer) c.write_or_none-write.result.content.now opened.accepted
    (geometry_of c.in_ok-g.g) opened.same c.head_in-head.result c.head_in-head.ensures
    (one_turn c.write_or_none-write.result.number.0 c.offer_count-count.result)
    (brought (goal.at.run_write-ran-requires c).After-write_or_none-write)

pub answer_done-requires : goal.answer_done-requires
answer_done-requires c =
    let a = c.args in
    let opened = c.in_ok-g.ensures in
    let ran = c.run_write-ran in
    next_fits a.disk.now a.number.0 a.content.now a.random.now a.list.now
    (brought_by a.offer) c.write_or_none-write.result.content.now opened.accepted
    (geometry_of c.in_ok-g.g) opened.same c.head_in-head.result c.head_in-head.ensures
    (one_turn c.write_or_none-write.result.number.0 c.offer_count-count.result)
    (brought (goal.at.answer_done-requires c).After-write_or_none-write) ran.new.disk ran.new.list ran.result
    ran.ensures

pub returns : goal.returns
returns c =
    let a = c.args in
    let opened = c.in_ok-g.ensures in
    let judged = c.check_offered-judged in
    let count = c.offer_count-count in
    let few = count_one a.offer (answer_number judged.result) count.result count.ensures in
    let ran = c.run_write-ran in
    block_done a.disk.now a.number.0 a.content.now a.random.now a.list.now
    (brought_by a.offer) c.write_or_none-write.result.content.now opened.accepted
    (geometry_of c.in_ok-g.g) opened.same c.head_in-head.result c.head_in-head.ensures
    (one_turn c.write_or_none-write.result.number.0 count.result)
    (brought (goal.at.returns c).After-write_or_none-write) ran.new.disk ran.new.list ran.result
    ran.ensures (answer_number judged.result) count.result
    judged.ensures (length_turn c.write_or_none-write.result.number.0 count.result few) c.answer_done.result
    c.answer_done.ensures
