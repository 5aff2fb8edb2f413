-- Nothing comes of a byte once the listing has ended, and before that the bytes end where it leads.
use borrow.Author.Tests.{not-true, not-false}
use Rattle.script.specs.Feeding.{reading_in}
use Rattle.listing.proofs.Laws.Steps.{byte_after_all, byte_taken}
use Rattle.listing.proofs.progress.step_byte.Goals as goal

pub returns-then-not-progress : goal.returns-then-not-progress
returns-then-not-progress c =
    let a = c.args in
    byte_after_all a.progress a.buffer.now a.disk.now a.out.now
    (not-true a.progress.is_open c.if-not-progress.true)
    c.stay.result c.stay.ensures.nothing (c.stay.ensures.same a.buffer.now a.disk.now) a.byte

pub returns : goal.returns
returns c =
    let a = c.args in
    let fed = c.feed_byte-next in
    let moved = c.move_to in
    byte_taken a.progress a.buffer.now a.disk.now a.out.now
    (not-false a.progress.is_open c.if-not-progress.false)
    (reading_in fed.result fed.new.buffer) moved.new.disk moved.new.out moved.result a.byte fed.new.buffer
    fed.ensures moved.ensures
