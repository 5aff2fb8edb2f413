-- No byte, one byte more, and all of them.
use Rattle.std.proofs.Common.{arith}
use Rattle.listing.specs.Listings.{listing_of}
use Rattle.listing.proofs.Laws.Steps.{lent_again}
use Rattle.listing.proofs.Laws.Pieces.{taken_none, taken_one, taken_all}
use Rattle.listing.proofs.list_bytes.Goals as goal

pub loop-byte-init : goal.loop-byte-init
loop-byte-init c =
    let a = c.args in taken_none (listing_of a.progress a.buffer.now a.disk.now) a.piece.now

pub list_byte-current-requires-clause-line_bound : goal.list_byte-current-requires-clause-line_bound
list_byte-current-requires-clause-line_bound c =
    omega (arith, c.loop-byte.invariant.counted, c.requires.piece_bound)

pub list_byte-current-requires-clause-lent : goal.list_byte-current-requires-clause-lent
list_byte-current-requires-clause-lent c =
    let kept = c.loop-byte.auto in lent_again c.requires.lent kept.buffer kept.disk kept.out

pub loop-byte-preserved : goal.loop-byte-preserved
loop-byte-preserved c =
    let call = c.list_byte-current in
    taken_one c.loop-byte.invariant c.loop-byte-test.true
    (listing_of call.result call.new.buffer call.new.disk) call.ensures.stands

pub returns-clause-disk_after : goal.returns-clause-disk_after
returns-clause-disk_after c = taken_all c.loop-byte.invariant c.loop-byte-test.false

pub returns-clause-line_bound : goal.returns-clause-line_bound
returns-clause-line_bound c = omega (arith, c.loop-byte.invariant.counted)
