-- No write, one write more, and all of them.
use Rattle.std.proofs.Common.{rules}
use Rattle.line_cases.proofs.Laws.Cases.{carrying_start, carrying_more, carrying_end}
use Rattle.line_cases.proofs.cases.carry.Goals as goal

pub loop-i-init : goal.loop-i-init
loop-i-init c = carrying_start _ _ _ _ _

pub loop-i-preserved : goal.loop-i-preserved
loop-i-preserved c =
    carrying_more c.loop-i.invariant c.loop-i-test.true c.min.ensures c.write_with-made.ensures
    c.left_after-left.ensures (search rules)

pub returns : goal.returns
returns c = carrying_end c.loop-i.invariant c.loop-i-test.false
