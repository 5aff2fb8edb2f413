-- `branch_at` meets its contract: one law for each level. Assumes nothing.
use mathlib.Core.Path.{◌≡◌}
use native.Mathlib.Omega.{arith}
use Rattle.model.proofs.Laws.Branches.{branch_at_leaf, branch_at_first, branch_at_second, branch_at_third}
use Rattle.hidden_map.proofs.branches.branch_at.Goals as goal

pub returns-then-level-eq0 : goal.returns-then-level-eq0
returns-then-level-eq0 c =
    let a = c.args in
    λ g e. branch_at_leaf g a.size e a.number.0 a.level c.if-level-eq0.true

pub returns-then-level-eq1 : goal.returns-then-level-eq1
returns-then-level-eq1 c =
    let a = c.args in
    λ g e. branch_at_first g a.size e a.number.0 a.level c.if-level-eq1.true

pub returns-then-level-eq2 : goal.returns-then-level-eq2
returns-then-level-eq2 c =
    let a = c.args in
    λ g e. branch_at_second g a.size e a.number.0 a.level c.if-level-eq2.true

pub returns : goal.returns
returns c =
    let last : c.args.level ≡ 3 = omega arith in
    λ g e. branch_at_third g c.args.size e c.args.number.0 c.args.level last
