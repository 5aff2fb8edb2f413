-- By where the bytes end.
use mathlib.Core.Logic.{⊎_elim}
use Rattle.listing.proofs.Laws.Steps.{moved_names, moved_inside, moved_ended}
use Rattle.listing.proofs.progress.move_to.Goals as goal

pub returns-in-NoLine : goal.returns-in-NoLine
returns-in-NoLine c =
    let a = c.args in
    ⊎_elim (moved_names a.feed a.line a.buffer.now a.disk.now a.out.now)
    (λ inside. moved_inside a.feed a.line a.buffer.now a.disk.now a.out.now inside.1) c.in-NoLine.is

pub returns-in-Ended : goal.returns-in-Ended
returns-in-Ended c =
    let a = c.args in
    moved_ended a.feed a.line a.buffer.now a.disk.now a.out.now c.in-Ended.is c.read_held-said.ensures
    (c.take_line.ensures a.buffer.now)
