-- No turn, a listing that has ended, one turn more, and all of them.
use Rattle.std.proofs.Common.{arith}
use borrow.Author.Tests.{not-false}
use Rattle.listing.specs.Listings.{listing_of}
use Rattle.listing.proofs.Laws.Steps.{lent_again}
use Rattle.listing.proofs.Laws.Pieces.{turned_none, turned_one}
use Rattle.listing.proofs.list_input.Goals as goal

pub loop-init : goal.loop-init
loop-init c =
    let a = c.args in
    turned_none (listing_of a.progress a.buffer.now a.disk.now) c.requires.line_value

pub returns-then-not-current : goal.returns-then-not-current
returns-then-not-current c = c.loop.invariant.led

pub list_piece-current-requires-clause-piece_bound : goal.list_piece-current-requires-clause-piece_bound
list_piece-current-requires-clause-piece_bound c =
    omega (arith, c.loop.invariant.counted, c.loop.auto.piece, c.requires.piece_len_bound)

pub list_piece-current-requires-clause-lent : goal.list_piece-current-requires-clause-lent
list_piece-current-requires-clause-lent c =
    let kept = c.loop.auto in lent_again c.requires.lent kept.buffer kept.disk kept.out

pub loop-preserved : goal.loop-preserved
loop-preserved c =
    let call = c.list_piece-current in
    turned_one c.loop.invariant (not-false c.loop.current.is_open c.if-not-current.false)
    (listing_of call.result call.new.buffer call.new.disk) call.new.piece
    (omega (arith, call.auto.piece, c.loop.auto.piece, c.requires.piece_len_bound)) call.ensures.fed
    (omega (arith, call.ensures.line_bound, call.auto.piece))

pub returns : goal.returns
returns c = c.loop.invariant.led
