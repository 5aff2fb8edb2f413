-- No entry, and one entry more.
use Rattle.std.proofs.Common.{refl}
use Rattle.figure_lines.specs.Counts.{is_listed}
use Rattle.figure_lines.proofs.Laws.Counts.{is_listed_more}
use Rattle.figure_lines.proofs.lists.is_listed.Goals as goal

pub loop-i-init : goal.loop-i-init
unfolding is_listed
loop-i-init c = refl

pub loop-i-preserved : goal.loop-i-preserved
loop-i-preserved c =
    is_listed_more c.args.stored.now c.args.list.now c.loop-i.i c.loop-i-test.true c.loop-i.invariant
    c.entry_said.ensures refl
