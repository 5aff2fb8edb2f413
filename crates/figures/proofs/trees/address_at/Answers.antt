-- A level outside 1 to 3 has no node, and any other is one of the three.
use Rattle.std.proofs.Common.{sym, ap, ◌∙◌, arith}
use Rattle.hidden_map.proofs.Laws.Levels.{by_level_other}
use Rattle.figures.specs.Trees.{address_told}
use Rattle.figures.proofs.trees.address_at.Goals as goal

pub returns-then-level-lt1 : goal.returns-then-level-lt1
returns-then-level-lt1 c =
    let below = c.if-level-lt1.true in
    sym (ap address_told (by_level_other _ _ (λ z. omega arith) (λ z. omega arith) (λ z. omega arith)))

pub returns-then-level-gt3 : goal.returns-then-level-gt3
returns-then-level-gt3 c =
    let past = c.if-level-gt3.true in
    sym (ap address_told (by_level_other _ _ (λ z. omega arith) (λ z. omega arith) (λ z. omega arith)))

pub returns : goal.returns
returns c = c.address_of.ensures ∙ ap address_told c.node_at.ensures
