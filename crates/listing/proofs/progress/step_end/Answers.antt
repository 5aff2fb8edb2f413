-- Nothing comes of the end once the listing has ended, and before that a last line is taken.
use borrow.Author.Tests.{not-true, not-false}
use Rattle.script.specs.Feeding.{reading_in}
use Rattle.listing.proofs.Laws.Steps.{end_after_all, end_taken}
use Rattle.listing.proofs.progress.step_end.Goals as goal

pub returns-then-not-progress : goal.returns-then-not-progress
returns-then-not-progress c =
    let a = c.args in
    end_after_all a.progress a.buffer.now a.disk.now a.out.now
    (not-true a.progress.is_open c.if-not-progress.true)
    c.stay.result c.stay.ensures.nothing (c.stay.ensures.same a.buffer.now a.disk.now)

pub returns : goal.returns
returns c =
    let a = c.args in
    let fed = c.feed_end-next in
    let moved = c.move_to-last in
    end_taken a.progress a.buffer.now a.disk.now a.out.now
    (not-false a.progress.is_open c.if-not-progress.false)
    (reading_in fed.result a.buffer.now) moved.new.disk moved.new.out moved.result fed.ensures moved.ensures
