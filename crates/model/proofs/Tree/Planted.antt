-- A path planted in the ghost tree, and what it means that a disk holds it: a number's path stands in a slot
-- up to a level, all of it with the root or a live slot's own path in part. Assumes nothing.
use mathlib.Core.Path.{◌≡◌}
use mathlib.Core.Logic.{◌≢◌, ◌⊎◌}
use mathlib.Core.Bool.{cond, ◌&&◌}
use mathlib.Core.Option.{some}
use Prim.Native.Nat.{ℕ, suc, ◌+◌, ◌-◌, ◌≤◌, ◌<◌}
use lib.Dec.{eqb, leb}
use borrow.Author.Tests.{eq-eqb, ne_eqb, le-leb, lt-leb}
use Rattle.laws.proofs.Cases.{cond_true, cond_false, and_both, and_false_left, and_false_right}
use Rattle.model.specs.Geometry.{Geometry, root_address, tree_capacity, block_width}
use Rattle.model.specs.Blocks.{Bytes, block_at}
use Rattle.model.specs.Layout.{slot_start, level_address}
use Rattle.model.specs.HiddenTree.{owner_of}
use Rattle.model.specs.Paths.{linked_node}
use Rattle.model.proofs.Tree.Keys.{key_of}
use Rattle.model.proofs.Tree.Ghost.{Tree, slot_at, node_at}

-- the tree with a number's path in a slot, up to a level
abbrev pub planted : Geometry → Tree → (number slot top : ℕ) → Tree
planted g tree number slot top level key =
    cond (leb level top && eqb key (key_of g level number)) (some slot) (tree level key)

-- the tree with all of a number's path in a slot
abbrev pub placed_tree : Geometry → Tree → (number slot : ℕ) → Tree
placed_tree g tree number slot = planted g tree number slot (g.height - 1)

-- the hidden blocks of all other slots are as they were on another disk
abbrev pub Apart : Geometry → (disk after : Bytes) → (slot : ℕ) → Type 0
Apart g disk after slot =
    (other place : ℕ) → other < g.slots → other ≢ slot → 1 ≤ place → place ≤ g.height →
    block_at (block_width g) after (slot_start g other + place) ≡
    block_at (block_width g) disk (slot_start g other + place)

-- a number's path stands in a slot up to a level, on a disk that was another one before
pub record Planted (g : Geometry) (disk after : Bytes) (tree : Tree) (number slot top : ℕ) : Type 0 where
  pub top_lt : top < g.height
  -- the slot is used for nothing but this path
  pub ours :
      (other level : ℕ) → other < tree_capacity g → level < g.height → slot_at g tree level other ≡ some slot →
      key_of g level other ≡ key_of g level number
  -- the path's nodes below the level
  pub nodes :
      (level : ℕ) → level < top →
      block_at (block_width g) after (level_address g slot (suc level)) ≡
      linked_node g number slot level (node_at g disk tree (suc level) number)
  -- the slot's nodes above it, if they are current
  pub above :
      (level : ℕ) → top < level → level < g.height → slot_at g tree level number ≡ some slot →
      block_at (block_width g) after (level_address g slot level) ≡
      block_at (block_width g) disk (level_address g slot level)
  pub apart : Apart g disk after slot
  pub owner : owner_of g after slot ≡ number
  -- the whole path with the root, or a path that was in this slot before
  pub joined :
      ((suc top ≡ g.height) ×
      (block_at (block_width g) after (root_address g) ≡
      linked_node g number slot top (node_at g disk tree g.height number))) ⊎
      ((block_at (block_width g) after (root_address g) ≡ block_at (block_width g) disk (root_address g)) ×
      (slot_at g tree top number ≡ some slot) × (slot_at g tree 0 number ≡ some slot))

-- ---- the planted tree ----

module _ (g : Geometry) (tree : Tree) (number slot top : ℕ) where
  pub planted_same :
      (level other : ℕ) → level ≤ top → key_of g level other ≡ key_of g level number →
      slot_at g (planted g tree number slot top) level other ≡ some slot
  planted_same level other h e =
      cond_true (some slot) (slot_at g tree level other)
      (and_both (le-leb level top h) (eq-eqb (key_of g level other) (key_of g level number) e))

  pub planted_above :
      (level other : ℕ) → top < level →
      slot_at g (planted g tree number slot top) level other ≡ slot_at g tree level other
  planted_above level other h =
      cond_false (some slot) (slot_at g tree level other)
      (and_false_left (eqb (key_of g level other) (key_of g level number)) (lt-leb level top h))

  pub planted_other :
      (level other : ℕ) → key_of g level other ≢ key_of g level number →
      slot_at g (planted g tree number slot top) level other ≡ slot_at g tree level other
  planted_other level other ne =
      cond_false (some slot) (slot_at g tree level other)
      (and_false_right (leb level top) (ne_eqb (key_of g level other) (key_of g level number) ne))
