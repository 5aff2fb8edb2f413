-- `set_node` meets its contract. Assumes nothing.
use native.Mathlib.Omega.{arith}
use Rattle.hidden_map.proofs.Laws.Levels.{by_level_set}
use Rattle.hidden_map.proofs.nodes.set_node.Goals as goal

pub returns : goal.returns
returns c =
    let a = c.args in
    by_level_set a.nodes.now.by_level (omega arith) a.level (omega arith) (omega arith) a.address
