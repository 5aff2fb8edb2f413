-- The stores fit the list, and what the call answers is what is put.
use Rattle.std.proofs.Common.{replicate, refl, arith}
use Rattle.script.specs.Lines.{plain_offer}
use Rattle.listing.specs.Writes.{list_room}
use Rattle.listing.proofs.Laws.Writes.{line_stores_fit, line_reported}
use Rattle.listing.proofs.writes.report_line.Goals as goal

pub put_made-requires : goal.put_made-requires
put_made-requires c =
    let a = c.args in
    let call = c.write_line-made in
    let fit =
    line_stores_fit a.disk.now a.line a.number.0 (plain_offer a.offer) (replicate list_room 0) call.new.disk
    call.new.list call.result refl call.ensures in
    record {
      stores_in_bounds = omega (arith, fit, call.auto.list);
      room_in_bounds = omega (arith, fit, c.requires.list_room_in_bounds);
    }

pub returns : goal.returns
returns c =
    let a = c.args in
    let call = c.write_line-made in
    let put = c.put_made in
    line_reported a.disk.now a.line a.number.0 (plain_offer a.offer) (replicate list_room 0)
    call.new.disk call.new.list call.result refl call.ensures c.head_in-head.result a.out.now put.new.out
    put.result c.head_in-head.ensures put.ensures
