-- The call gets the line's data, and its list has 23 entries.
use Rattle.listing.proofs.Laws.Writes.{line_answered}
use Rattle.listing.proofs.writes.write_line.Goals as goal

pub returns : goal.returns
returns c =
    let a = c.args in
    let call = c.write_block in
    line_answered a.disk.now a.line a.number.0 a.offer a.list.now call.new.disk call.new.list call.result
    c.requires _ c.offer_with-offered.ensures call.ensures
