-- What the whole-tree check answers on document 01's geometry, worked out by hand: the drive that has hidden
-- 1 in slot 1 and then hidden 0 in slot 0, and that drive with other entries. Assumes nothing.
use Rattle.std.specs.Prelude.{◌≡◌, ◌∷◌, ◌++◌, ℕ, replicate}
use Rattle.model.specs.Blocks.{Bytes}
use Rattle.model.specs.HiddenTree.{span}
use Rattle.model.specs.Calls.{nothing}
use Rattle.model.specs.TreeCheck.{tree_refusal}
use Rattle.model.specs.Promises.Figures.{small, filled}
use Rattle.model.specs.Promises.Limits.{small4, listed_on, one_offer, three_lines, aged_drive}

-- ---- the drive ----

-- after the three lines of the listing, which place hidden 1 in slot 1, and two more, 2 - and 2 0
abbrev pub five_lines : Bytes
five_lines = listed_on (listed_on three_lines 4 2 nothing) 5 2 (one_offer 0 5)

-- a node with its first three entries and its last, which in a leaf is the owner; the others are 0
abbrev pub node : (first second third last : ℕ) → Bytes
node first second third last = small4 first ++ small4 second ++ small4 third ++ replicate 16 0 ++ small4 last

-- that drive by its root and the leaves of slots 0, 1 and 2; slot 0 is blocks 4 to 6, slot 1 blocks 7 to 9,
-- slot 2 blocks 10 to 12
abbrev pub drive_with : (root leaf stale free : Bytes) → Bytes
drive_with root leaf stale free =
    (small4 32 ++ small4 2 ++ small4 3 ++ small4 2 ++ small4 4 ++ small4 1 ++ replicate 8 0) ++
    (small4 7 ++ small4 10 ++ small4 4 ++ replicate 20 0) ++ (73 ∷ replicate 31 0) ++ root ++
    filled 5 ++ leaf ++ filled 5 ++
    filled 2 ++ stale ++ filled 2 ++
    filled 3 ++ free ++ filled 165 ++
    filled 4 ++ filled 165 ++ filled 165

-- the current leaf stands in slot 0; that of slot 1 is stale, as it lacks hidden 0, and no entry leads to it
abbrev pub stale_leaf : Bytes
stale_leaf = node 0 9 0 1

-- what the check answers with another root and another leaf in slot 0
abbrev pub answer_with : (root leaf : Bytes) → ℕ
answer_with root leaf = tree_refusal (drive_with root leaf stale_leaf (filled 165))

-- ---- the answers ----

pub record TreeFigures : Type 0 where
  -- the numbers below an entry at each level: 1, F − 1, (F − 1)F, (F − 1)F²
  pub span_data : span small 0 ≡ 1
  pub span_leaf : span small 1 ≡ 7
  pub span_second : span small 2 ≡ 56
  pub span_third : span small 3 ≡ 448
  -- both hidden numbers placed: entry 5 leads to the leaf of slot 0, entries 6 and 9 to the data of slots 0
  -- and 1; the stale leaf of slot 1 is not met
  pub two_hidden : five_lines ≡ drive_with (node 5 0 0 0) (node 6 9 0 0) stale_leaf (filled 165)
  pub two_hidden_passes : answer_with (node 5 0 0 0) (node 6 9 0 0) ≡ 0
  -- one line later the leaf stands in slot 1, and its last entry, owner 1, is no address
  pub moved_leaf_passes : tree_refusal aged_drive ≡ 0
  -- slot 2 is stale: its leaf has an ill-formed entry and owner 0, and no entry leads to it
  pub stale_slot_passes : tree_refusal (drive_with (node 5 0 0 0) (node 6 9 0 0) stale_leaf (node 5 0 0 0)) ≡ 0
  -- 13: hidden data's address in the root, a leaf's in a leaf
  pub data_in_root : answer_with (node 6 0 0 0) (node 6 9 0 0) ≡ 13
  pub leaf_in_leaf : answer_with (node 5 0 0 0) (node 6 8 0 0) ≡ 13
  -- 14: hidden 2, sound but for H 2; numbers 49 to 55, below the root's last entry
  pub number_at_limit :
      tree_refusal (drive_with (node 5 0 0 0) (node 6 9 12 0) stale_leaf (node 0 0 0 2)) ≡ 14
  pub root_last_entry : answer_with (node 5 0 0 8) (node 6 9 0 0) ≡ 14
  -- 15: the walk of slot 0's owner ends at 0; it ends in slot 1; slot 2's owner is no number of the tree
  pub owner_unmapped : answer_with (node 5 0 0 0) (node 0 9 0 0) ≡ 15
  pub owner_elsewhere : answer_with (node 5 0 0 0) (node 0 9 0 1) ≡ 15
  pub owner_not_below : answer_with (node 5 0 0 0) (node 6 12 0 0) ≡ 15
  -- slot 0, whose owner is found there, under the entry before its owner's, and under the one after
  pub owner_just_above : answer_with (node 5 0 0 0) (node 6 6 0 1) ≡ 15
  pub owner_just_below : answer_with (node 5 0 0 0) (node 6 6 0 0) ≡ 15
  -- slot 0's owner 2 is below the root's first entry and has its walk end there; its own entry is past H
  pub owner_at_limit : answer_with (node 5 0 0 0) (node 0 9 6 2) ≡ 14
  -- two faults at one entry: 13 before 14, 14 before 15
  pub thirteen_first : answer_with (node 5 6 0 0) (node 6 9 0 0) ≡ 13
  pub fourteen_first : answer_with (node 5 8 0 0) (node 6 9 0 0) ≡ 14
  -- two faults at two entries: 15 of the root's first entry before 13 below it, and 15 below it before 14 of
  -- the next
  pub entry_before_node : answer_with (node 5 0 0 0) (node 5 9 0 0) ≡ 15
  pub node_before_next : answer_with (node 5 8 0 0) (node 6 12 0 0) ≡ 15
