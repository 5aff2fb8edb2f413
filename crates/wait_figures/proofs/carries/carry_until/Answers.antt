-- No write, few left, one write more, and all of them.
use Rattle.std.proofs.Common.{◌≤◌, length, arith, rules}
use Rattle.line.specs.Offers.{line_of}
use Rattle.wait_figures.proofs.Laws.Carries.{followed_start, few_more, followed_more, followed_left}
use Rattle.wait_figures.proofs.Laws.Carries.{followed_all}
use Rattle.wait_figures.proofs.carries.carry_until.Goals as goal

pub loop-i-init : goal.loop-i-init
loop-i-init c = followed_start _ _ _

pub returns-then-held-left : goal.returns-then-held-left
returns-then-held-left c =
    let few : length (line_of c.loop-i.carried.line) ≤ c.args.left =
    omega (arith, c.if-held-left.true, c.held.ensures) in
    followed_left c.loop-i.invariant c.loop-i-test.true few

pub carry_more-carried-requires : goal.carry_more-carried-requires
carry_more-carried-requires c = few_more c.loop-i.invariant c.loop-i-test.true

pub loop-i-preserved : goal.loop-i-preserved
loop-i-preserved c =
    followed_more c.loop-i.invariant c.loop-i-test.true (omega (arith, c.if-held-left.false, c.held.ensures))
    c.carry_more-carried.ensures.made (c.carry_more-carried.ensures.few c.loop-i._i c.loop-i.invariant.few)
    (search rules)

pub returns : goal.returns
returns c = followed_all c.loop-i.invariant c.loop-i-test.false
