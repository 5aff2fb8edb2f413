-- The hidden tree as a ghost: for each level and key the slot whose block of that level is current. The nodes
-- by it, what it says of a disk, laws of nodes, and the empty tree. Assumes nothing.
use mathlib.Core.Path.{◌≡◌, refl, sym, ap, subst}
use mathlib.Core.Logic.{⊎_elim}
use mathlib.Core.Bool.{cond}
use mathlib.Core.List.{List, [], ◌∷◌}
use mathlib.Core.Option.{Option, none, some}
use Prim.Native.Nat.{ℕ, zero, suc, ◌*◌, ◌≤◌, ◌<◌}
use native.Mathlib.Omega.{arith}
use lib.Dec.{eqb}
use lib.ListN.{length, length-replicate}
use borrow.Author.Tests.{eq-eqb, ne_eqb}
use Rattle.laws.proofs.Cases.{cond_true, cond_false, eq_cases, none_is_not_some}
use Rattle.model.specs.Geometry.{Geometry, root_address, block_count, tree_capacity, block_width}
use Rattle.model.specs.Blocks.{Bytes, DiskAddress, block_at, entry_at, zero_block}
use Rattle.model.specs.Layout.{level_address}
use Rattle.model.specs.HiddenTree.{owner_of, branch_at}
use Rattle.model.proofs.Laws.Geometry.{root_address_lt, slot_block_lt}
use Rattle.model.proofs.Laws.Blocks.{length-block_at}
use Rattle.model.proofs.Laws.Entries.{entry_at-replicate}
use Rattle.model.proofs.Laws.Slots.{level_place_le}
use Rattle.model.proofs.Tree.Keys.{key_of}

-- ---- the tree ----

-- for a level and a key the slot that holds the current block, if there is one
abbrev pub Tree : Type 0
Tree = (level key : ℕ) → Option ℕ

-- a number's slot at a level
abbrev pub slot_at : Geometry → Tree → (level number : ℕ) → Option ℕ
slot_at g tree level number = tree level (key_of g level number)

-- the entry that leads to a slot's block of a level
abbrev pub entry_to : Geometry → (level : ℕ) → Option ℕ → DiskAddress
entry_to g level none = 0
entry_to g level (some slot) = level_address g slot level

-- a slot's node of a level, zeros where there is none
abbrev pub node_in : Geometry → (disk : Bytes) → (level : ℕ) → Option ℕ → Bytes
node_in g disk level none = zero_block g.block_size
node_in g disk level (some slot) = block_at (block_width g) disk (level_address g slot level)

-- the current node of a level on a number's way down, the root at the height
unfoldable pub node_at : Geometry → (disk : Bytes) → Tree → (level number : ℕ) → Bytes
node_at g disk tree level number =
    cond (eqb level g.height) (block_at (block_width g) disk (root_address g))
    (node_in g disk level (slot_at g tree level number))

-- the current nodes from a level down
unfoldable pub nodes_from : Geometry → (disk : Bytes) → Tree → (number level : ℕ) → List Bytes
nodes_from g disk tree number zero = []
nodes_from g disk tree number (suc level) =
    node_at g disk tree (suc level) number ∷ nodes_from g disk tree number level

-- ---- what it says of a disk ----

-- the nodes lead just where the tree says, and to slots of the drive
pub record Linked (g : Geometry) (disk : Bytes) (tree : Tree) : Type 0 where
  pub linked :
      (number level : ℕ) → number < tree_capacity g → level < g.height →
      entry_at (branch_at g number level) (node_at g disk tree (suc level) number) ≡
      entry_to g level (slot_at g tree level number)
  pub inside :
      (number level slot : ℕ) → number < tree_capacity g → level < g.height →
      slot_at g tree level number ≡ some slot → slot < g.slots

-- of a slot that is a number's at a level: its owner holds it, and shares the number's entry there
pub record Owned (g : Geometry) (disk : Bytes) (tree : Tree) (number level slot : ℕ) : Type 0 where
  pub owner_lt : owner_of g disk slot < g.hidden
  pub holds : slot_at g tree 0 (owner_of g disk slot) ≡ some slot
  pub below : key_of g level (owner_of g disk slot) ≡ key_of g level number

-- the invariant
pub record Ghost (g : Geometry) (disk : Bytes) (tree : Tree) : Type 0 where
  pub links : Linked g disk tree
  pub owned :
      (number level slot : ℕ) → number < tree_capacity g → level < g.height →
      slot_at g tree level number ≡ some slot → Owned g disk tree number level slot

-- what a number shows by it: the block in its slot
abbrev pub block_in : Geometry → (disk : Bytes) → Option ℕ → Option Bytes
block_in g disk none = none
block_in g disk (some slot) = some (block_at (block_width g) disk (level_address g slot 0))

abbrev pub value_of : Geometry → (disk : Bytes) → Tree → (number : ℕ) → Option Bytes
value_of g disk tree number = block_in g disk (slot_at g tree 0 number)

-- ---- nodes ----

-- a slot's node, or its block, on two disks that agree there
pub node_in_same :
    (g : Geometry) (disk after : Bytes) (level : ℕ) (held : Option ℕ) →
    ((slot : ℕ) → held ≡ some slot →
    block_at (block_width g) after (level_address g slot level) ≡
    block_at (block_width g) disk (level_address g slot level)) →
    node_in g after level held ≡ node_in g disk level held
node_in_same g disk after level none same = refl
node_in_same g disk after level (some slot) same = same slot refl

pub block_in_same :
    (g : Geometry) (disk after : Bytes) (held : Option ℕ) →
    ((slot : ℕ) → held ≡ some slot →
    block_at (block_width g) after (level_address g slot 0) ≡
    block_at (block_width g) disk (level_address g slot 0)) →
    block_in g after held ≡ block_in g disk held
block_in_same g disk after none same = refl
block_in_same g disk after (some slot) same = ap {B = Option Bytes} some (same slot refl)

module _ (g : Geometry) (disk : Bytes) (tree : Tree) where
  pub node_at_height :
      (number : ℕ) → node_at g disk tree g.height number ≡ block_at (block_width g) disk (root_address g)
  unfolding node_at
  node_at_height number = cond_true _ _ (eq-eqb g.height g.height refl)

  pub node_at_below :
      (level number : ℕ) → level < g.height →
      node_at g disk tree level number ≡ node_in g disk level (slot_at g tree level number)
  unfolding node_at
  node_at_below level number h = cond_false _ _ (ne_eqb level g.height (λ e. omega arith))

  -- a node is the same for all who share its key
  pub node_at_same : (level n m : ℕ) → key_of g level n ≡ key_of g level m →
      node_at g disk tree level n ≡ node_at g disk tree level m
  unfolding node_at
  node_at_same level n m e =
      ap (λ (key : ℕ).
      cond (eqb level g.height) (block_at (block_width g) disk (root_address g))
      (node_in g disk level (tree level key))) e

  pub length-nodes_from : (number level : ℕ) → length (nodes_from g disk tree number level) ≡ level
  unfolding nodes_from
  length-nodes_from number zero = refl
  length-nodes_from number (suc level) = ap suc (length-nodes_from number level)

  -- what holds of the root and of every node below it holds of every node
  pub node_at_cases :
      (P : ℕ → Bytes → Type 0) (level number : ℕ) → level ≤ g.height →
      P g.height (block_at (block_width g) disk (root_address g)) →
      (level < g.height → P level (node_in g disk level (slot_at g tree level number))) →
      P level (node_at g disk tree level number)
  node_at_cases P level number h p q =
      ⊎_elim
      (λ e.
      subst (λ (l : ℕ). P l (node_at g disk tree l number)) (sym e)
      (subst (P g.height) (sym (node_at_height number)) p))
      (λ e.
      let k : level < g.height = omega arith in
      subst (P level) (sym (node_at_below level number k)) (q k))
      (eq_cases level g.height)

  -- every node is a whole block
  pub length-node_at :
      length disk ≡ block_count g * g.block_size → Linked g disk tree → (level number : ℕ) →
      level ≤ g.height → number < tree_capacity g → length (node_at g disk tree level number) ≡ g.block_size
  length-node_at whole links level number h k =
      node_at_cases (λ (l : ℕ) (node : Bytes). length node ≡ g.block_size) level number h
      (length-block_at (block_width g) disk (block_count g) whole (root_address g) (root_address_lt g))
      (λ l. below l (slot_at g tree level number) refl)
    where
      below : level < g.height → (slot : Option ℕ) → slot_at g tree level number ≡ slot →
          length (node_in g disk level slot) ≡ g.block_size
      below l none e = length-replicate g.block_size 0
      below l (some slot) e =
          length-block_at (block_width g) disk (block_count g) whole (level_address g slot level)
          (slot_block_lt g slot _ (links.inside number level slot k l e) (level_place_le g level l))

-- ---- the empty tree ----

abbrev pub empty_tree : Tree
empty_tree level key = none

-- a disk whose root entries are all 0 has it
pub ghost_empty :
    (g : Geometry) (disk : Bytes) →
    ((index : ℕ) → entry_at index (block_at (block_width g) disk (root_address g)) ≡ 0) → Ghost g disk empty_tree
ghost_empty g disk zeros =
    record {
      links = record { linked = zero_linked; inside = λ number level slot h k e. none_is_not_some slot e };
      owned = λ number level slot h k e. none_is_not_some slot e;
    }
  where
    zero_linked : (number level : ℕ) → number < tree_capacity g → level < g.height →
        entry_at (branch_at g number level) (node_at g disk empty_tree (suc level) number) ≡ 0
    zero_linked number level h k =
        node_at_cases g disk empty_tree (λ (l : ℕ) (node : Bytes). entry_at (branch_at g number level) node ≡ 0)
        (suc level) number (omega arith) (zeros (branch_at g number level))
        (λ l. entry_at-replicate g.block_size (branch_at g number level))
