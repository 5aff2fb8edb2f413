-- What document 01 says of larger drives than its examples, worked out by hand: three and four levels, more
-- than one leaf, blocks of more than 32 bytes, two map blocks, two bitmap blocks, addresses above 255.
-- Assumes nothing.
use Rattle.std.specs.Prelude.{◌≡◌, [], ◌∷◌, ◌++◌, ℕ, replicate}
use Rattle.model.specs.Geometry.{Geometry}
use Rattle.model.specs.Blocks.{Bytes, block_at, set_block, set_entry}
use Rattle.model.specs.HiddenTree.{branch_at}
use Rattle.model.specs.Stores.{addresses}
use Rattle.model.specs.Refusals.{size_refusal}
use Rattle.model.specs.Calls.{formatted, public_read, hidden_read, Written, written, written_disk}
use Rattle.model.specs.Calls.{outcome_number, Offered, nothing}
use Rattle.model.specs.Needs.{needs_of}
use Rattle.model.specs.TreeCheck.{met_entry, met_entries, tree_refusal}
use Rattle.model.specs.Promises.Figures.{geometry, filled}
use Rattle.model.specs.Promises.Limits.{one_offer, two_bitmaps, drive_with_place, move_from}
use Rattle.model.specs.Promises.TreeFigures.{node}
use Rattle.model.specs.Promises.RoundFigures.{bytes_from, needed}

-- ---- three levels ----

-- k 3, P 1, H 8, M 9: slot s is blocks 4 + 4s to 7 + 4s: public block, leaf, node, data
abbrev pub three_levels : Geometry
three_levels = geometry 32 3 1 8 9

abbrev pub deep_fresh : Bytes
deep_fresh = formatted (replicate 1280 0) three_levels

-- a write of public number 0, with 192 random bytes, which are those of two rounds
abbrev pub deep_write : (disk : Bytes) → Offered → Written
deep_write disk offer = written disk 0 (filled 7) (bytes_from 0 192) 23 offer

abbrev pub deep_disk : (disk : Bytes) → Offered → Bytes
deep_disk disk offer = written_disk (deep_write disk offer) disk

-- with nothing hidden: slot 0 filled, then the head there again, so that slot 0 is kept and slot 1 takes the
-- public block
abbrev pub filled_once : Bytes
filled_once = deep_disk deep_fresh nothing

abbrev pub filled_again : Bytes
filled_again = deep_disk (set_entry 5 0 filled_once) nothing

-- slot 0 is owned by hidden 5; the root's first entry is a leaf's address, where a node's is due
abbrev pub deep_damaged : Bytes
deep_damaged = set_block 32 (set_block 32 deep_fresh 3 (node 5 0 0 0)) 5 (node 0 0 0 5)

-- hidden 7 in slot 0
abbrev pub seven_placed : Bytes
seven_placed = deep_disk deep_fresh (one_offer 7 9)

-- then hidden 0 in slot 1
abbrev pub zero_placed : Bytes
zero_placed = deep_disk seven_placed (one_offer 0 8)

-- then the head at slot 0 again, which is live for 7, and 7 offered once more: it waits
abbrev pub seven_kept : Bytes
seven_kept = deep_disk (set_entry 5 0 zero_placed) (one_offer 7 6)

-- ---- two levels, more than one leaf ----

-- k 2, P 1, H 8, M 9, and hidden 7 offered: slot 0 is blocks 4 to 6
abbrev pub seven_below : Bytes
seven_below = deep_disk (formatted (replicate 992 0) (geometry 32 2 1 8 9)) (one_offer 7 9)

-- ---- four levels ----

-- k 4 and as many hidden numbers as that holds
abbrev pub four_levels : Geometry
four_levels = geometry 32 4 1 3584 3585

-- ---- two map blocks ----

-- P 9, H 1, M 10: map in blocks 1 and 2, bitmap 3, root 4
abbrev pub two_maps : Bytes
two_maps = formatted (replicate 1120 0) (geometry 32 2 9 1 10)

abbrev pub map_write : (disk : Bytes) → (number : ℕ) → Written
map_write disk number = written disk number (filled 7) (bytes_from 0 64) 7 nothing

-- public number 0 moved to slot 85, blocks 260 to 262
abbrev pub moved_far : Bytes
moved_far = written_disk (move_from 84 7) (drive_with_place 84)

-- from slot 85 to slot 86, whose bit lies in the second bitmap block
abbrev pub moved_over : Bytes
moved_over = written_disk (move_from 85 8) (drive_with_place 85)

-- the first write of that drive with its head at slot 86 and a list of 7
abbrev pub first_beyond : Written
first_beyond =
    written (set_entry 5 86 (formatted (replicate 9760 0) two_bitmaps)) 0 (filled 7) (bytes_from 0 64) 7 nothing

-- ---- the figures ----

pub record LargerFigures : Type 0 where
  -- H at most (F − 1) × F^(k−1): 448 with three levels, 3,584 with four
  pub three_levels_full : size_refusal 57824 (geometry 32 3 1 448 449) ≡ 0
  pub three_levels_over : size_refusal 57952 (geometry 32 3 1 449 450) ≡ 1
  pub four_levels_full : size_refusal 575968 (geometry 32 4 1 3584 3585) ≡ 0
  pub four_levels_over : size_refusal 576128 (geometry 32 4 1 3585 3586) ≡ 1
  -- every block size between 32 and 4,096: T 16
  pub size_64 : size_refusal 1024 (geometry 64 2 3 2 4) ≡ 0
  pub size_128 : size_refusal 2048 (geometry 128 2 3 2 4) ≡ 0
  pub size_256 : size_refusal 4096 (geometry 256 2 3 2 4) ≡ 0
  pub size_512 : size_refusal 8192 (geometry 512 2 3 2 4) ≡ 0
  pub size_1024 : size_refusal 16384 (geometry 1024 2 3 2 4) ≡ 0
  pub size_2048 : size_refusal 32768 (geometry 2048 2 3 2 4) ≡ 0
  -- a round takes 96 random bytes, 32 for each of its three hidden blocks
  pub filled_leaf : block_at 32 filled_once 5 ≡ bytes_from 0 32
  pub filled-node : block_at 32 filled_once 6 ≡ bytes_from 32 32
  pub filled_data : block_at 32 filled_once 7 ≡ bytes_from 64 32
  pub filled_next : block_at 32 filled_again 9 ≡ bytes_from 96 32
  -- damage above the leaf: all three blocks and the root are written back
  pub damaged_outcome : outcome_number (deep_write deep_damaged nothing).outcome ≡ 12
  pub damaged_leaf_lem : block_at 32 (deep_disk deep_damaged nothing) 5 ≡ node 0 0 0 5
  pub damaged_stores : addresses (deep_write deep_damaged nothing).trace ≡ 4 ∷ 5 ∷ 6 ∷ 7 ∷ 3 ∷ 1 ∷ 2 ∷ 0 ∷ []
  -- hidden 7 is entry 0 of leaf 1, digits 0 and 1: root to A + 2, node to A + 1, leaf to A + 3
  pub seven_stores :
      addresses (deep_write deep_fresh (one_offer 7 9)).trace ≡ 4 ∷ 5 ∷ 6 ∷ 7 ∷ 3 ∷ 1 ∷ 2 ∷ 0 ∷ []
  pub seven_root : block_at 32 seven_placed 3 ≡ node 6 0 0 0
  pub seven-node : block_at 32 seven_placed 6 ≡ node 0 5 0 0
  pub seven_leaf : block_at 32 seven_placed 5 ≡ node 7 0 0 7
  pub seven_data : block_at 32 seven_placed 7 ≡ filled 9
  -- with two levels it is below the root's second entry
  pub below_second : block_at 32 seven_below 3 ≡ node 0 5 0 0
  -- hidden 0 in slot 1: its node takes over the entry of 7's leaf
  pub zero-node : block_at 32 zero_placed 10 ≡ node 9 5 0 0
  pub zero_root : block_at 32 zero_placed 3 ≡ node 10 0 0 0
  pub both_read : hidden_read zero_placed 7 (filled 5) ≡ filled 9
  -- slot 0 once more: 7's current path, with 0's leaf in slot 1, and its own data
  pub kept_node : block_at 32 seven_kept 6 ≡ node 9 5 0 0
  pub kept_leaf : block_at 32 seven_kept 5 ≡ node 7 0 0 7
  pub kept_root : block_at 32 seven_kept 3 ≡ node 6 0 0 0
  pub kept_data : block_at 32 seven_kept 7 ≡ filled 9
  -- the tree check goes to an entry, then to what is below it, then to the next entry
  pub met_in_order :
      met_entries three_levels zero_placed ≡
      met_entry 2 0 10 ∷ met_entry 1 0 9 ∷ met_entry 0 0 11 ∷ met_entry 1 7 5 ∷ met_entry 0 7 7 ∷ []
  pub deep_passes : tree_refusal zero_placed ≡ 0
  -- k 4: hidden 2,629 is entry 4 of leaf 375, whose digits are 5, 6 and 7
  pub digit_root : branch_at four_levels 2629 3 ≡ 5
  pub digit_second : branch_at four_levels 2629 2 ≡ 6
  pub digit_third : branch_at four_levels 2629 1 ≡ 7
  pub place_in_leaf : branch_at four_levels 2629 0 ≡ 4
  -- P 9: number 8 is entry 0 of the second map block
  pub second_map : addresses (map_write two_maps 8).trace ≡ 5 ∷ 6 ∷ 7 ∷ 4 ∷ 2 ∷ 3 ∷ 0 ∷ []
  pub second_map_entry : block_at 32 (written_disk (map_write two_maps 8) two_maps) 2 ≡ node 5 0 0 0
  pub first_map_left : block_at 32 (written_disk (map_write two_maps 8) two_maps) 1 ≡ filled 0
  -- an address above 255, least byte first, and the block that it leads to
  pub far_entry : block_at 32 moved_far 1 ≡ 4 ∷ 1 ∷ replicate 30 0
  pub far_shown : public_read moved_far 0 (filled 5) ≡ filled 7
  -- bit 255 is the last of the first bitmap block, bit 258 the third of the second; the old one is cleared
  pub last_bit : block_at 32 moved_far 2 ≡ replicate 31 0 ++ (128 ∷ [])
  pub bit_beyond : block_at 32 moved_over 3 ≡ 4 ∷ replicate 31 0
  pub old_bit : block_at 32 moved_over 2 ≡ filled 0
  -- a number without a place has no old bit: its bit alone is stored, in the second bitmap block
  pub first_beyond_lem : addresses first_beyond.trace ≡ 263 ∷ 264 ∷ 265 ∷ 4 ∷ 1 ∷ 3 ∷ 0 ∷ []
  -- a number that moves from one bitmap block to the other takes a list of 8
  pub needs_both : needs_of (drive_with_place 85) 0 ≡ needed 0 1 8 2
