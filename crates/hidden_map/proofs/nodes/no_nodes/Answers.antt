-- `no_nodes` meets its contract. Assumes nothing.
use Rattle.hidden_map.proofs.Laws.Levels.{by_level_none}
use Rattle.hidden_map.proofs.nodes.no_nodes.Goals as goal

pub returns : goal.returns
returns c = by_level_none
