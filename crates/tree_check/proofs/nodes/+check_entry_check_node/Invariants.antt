-- One measure for both: the level decides, then the remaining entries. It falls by the level from an entry to
-- its node, and by the remaining entries from a node to its halves and to its one entry. Assumes nothing.
use Rattle.std.proofs.Common.{ℕ, ◌+◌, ◌*◌}
use Rattle.tree_check.proofs.nodes.+check_entry_check_node.Given as goal

-- more than any node has entries, at most 1,024
abbrev past_entries : ℕ
past_entries = 1025

abbrev measure_of : (level remaining : ℕ) → ℕ
measure_of level remaining = past_entries * level + remaining

abbrev pub decreases-check_entry : goal.decreases-check_entry
decreases-check_entry l = measure_of l.level 0

abbrev pub decreases-check_node : goal.decreases-check_node
decreases-check_node l = measure_of l.level l.remaining
