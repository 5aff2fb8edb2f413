-- `node_at` meets its contract. Assumes nothing.
use native.Mathlib.Omega.{arith}
use Rattle.hidden_map.proofs.Laws.Levels.{by_level_here}
use Rattle.hidden_map.proofs.nodes.node_at.Goals as goal

pub returns : goal.returns
returns c = by_level_here c.args.nodes.by_level c.args.level (omega arith) (omega arith)
