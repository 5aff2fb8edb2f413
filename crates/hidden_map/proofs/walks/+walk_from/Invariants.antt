-- The measure of the walk: the level of the entry that it takes. Assumes nothing.
use Rattle.hidden_map.proofs.walks.+walk_from.Given as goal

abbrev pub decreases-walk_from : goal.decreases-walk_from
decreases-walk_from l = l.level
