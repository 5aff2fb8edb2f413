-- Whole traces under the ghost tree: a current path stored in a slot plants it, and random blocks in a slot
-- that is not live leave the tree. Assumes nothing.
use mathlib.Core.Path.{◌≡◌, refl, sym, ap, ◌∙◌}
use mathlib.Core.Logic.{◌≢◌, inl}
use mathlib.Core.Bool.{true, false}
use mathlib.Core.Option.{Option, some}
use Prim.Native.Nat.{ℕ, suc, ◌*◌, ◌-◌, ◌<◌}
use native.Mathlib.Omega.{arith}
use lib.ListN.{length}
use Rattle.model.specs.Geometry.{Geometry, Fits, fanout, root_address, block_count, tree_capacity}
use Rattle.model.specs.Geometry.{block_width}
use Rattle.model.specs.Blocks.{Bytes, block_at, entry_at}
use Rattle.model.specs.Layout.{level_address}
use Rattle.model.specs.Stores.{Trace}
use Rattle.model.specs.Paths.{linked_node, path_stores, current_path, dummy_stores}
use Rattle.model.specs.HiddenTree.{owner_of}
use Rattle.model.specs.HiddenHalf.{is_live}
use Rattle.model.proofs.Tree.Keys.{key_of, key_of-zero, lt_tree_capacity}
use Rattle.model.proofs.Tree.Ghost.{Tree, slot_at, node_at, nodes_from, Ghost, block_in, value_of}
use Rattle.model.proofs.Tree.Ghost.{block_in_same, length-node_at}
use Rattle.model.proofs.Tree.Walks.{walk_nodes}
use Rattle.model.proofs.Tree.Live.{is_live_of_used, unused_of_not_is_live}
use Rattle.model.proofs.Tree.Nodes.{entry_at-linked_node_owner}
use Rattle.model.proofs.Tree.Planted.{placed_tree, Planted, planted_same, planted_other}
use Rattle.model.proofs.Tree.Stored.{path_node, path_data, path_root, dummy_root, StoredBy}
use Rattle.model.proofs.Tree.Planting.{ghost_planted}
use Rattle.model.proofs.Tree.Unused.{ghost_unused, value_of_unused}

-- ---- a path ----

-- a number's path placed in a slot with a block: the tree is the new disk's, and only this number changes
pub record Placement (g : Geometry) (disk after : Bytes) (tree grown : Tree) (number slot : ℕ)
    (content : Bytes) : Type 0 where
  pub ghost : Ghost g after grown
  pub value_same : value_of g after grown number ≡ some content
  pub value_other :
      (other : ℕ) → other < tree_capacity g → other ≢ number →
      value_of g after grown other ≡ value_of g disk tree other

module _ (g : Geometry) (f : Fits g) (disk after : Bytes) (tree : Tree)
    (whole : length disk ≡ block_count g * g.block_size)
    (ghost : Ghost g disk tree) (number slot : ℕ) (content : Bytes) (low : number < g.hidden)
    (here : slot < g.slots)
    (mine : is_live g disk slot ≡ true → owner_of g disk slot ≡ number)
    (stored : StoredBy g slot disk after (current_path g disk number slot content)) where
  top : suc (g.height - 1) ≡ g.height
  top = omega (arith, f.height_low)

  abbrev path : Trace
  path = path_stores g number slot content (nodes_from g disk tree number (suc (g.height - 1)))

  path_is : current_path g disk number slot content ≡ path
  path_is =
      ap (path_stores g number slot content)
      (walk_nodes g disk tree ghost.links number (lt_tree_capacity g f number low) f
      ∙ ap (nodes_from g disk tree number) (sym top))

  on_path : StoredBy g slot disk after path
  on_path = rw (← path_is) stored

  ours : (other level : ℕ) → other < tree_capacity g → level < g.height →
      slot_at g tree level other ≡ some slot →
      key_of g level other ≡ key_of g level number
  ours other level h k e =
      sym (ghost.owned other level slot h k e).below
      ∙ ap (key_of g level) (mine (is_live_of_used g f disk tree ghost other level slot h k e))

  nodes : (level : ℕ) → level < g.height - 1 →
      block_at (block_width g) after (level_address g slot (suc level)) ≡
      linked_node g number slot level (node_at g disk tree (suc level) number)
  nodes level h =
      on_path.in_slot (suc level) (omega arith) (omega arith)
      ∙ path_node g disk tree number slot content (g.height - 1) top level _ (omega arith)

  path_planted : Planted g disk after tree number slot (g.height - 1)
  unfolding owner_of
  path_planted =
      record {
        top_lt = omega (arith, f.height_low);
        ours = ours;
        nodes = nodes;
        above = λ level h k e. absurd (omega arith);
        apart = on_path.apart;
        owner =
            ap (entry_at (fanout g - 1)) (nodes 0 (omega (arith, f.height_low)))
            ∙ entry_at-linked_node_owner g f number slot here (node_at g disk tree 1 number)
            (length-node_at g disk tree whole ghost.links 1 number (omega (arith, f.height_low))
            (lt_tree_capacity g f number low))
            (omega (arith, low, f.hidden_high, f.blocks_high));
        joined =
            inl (
              top,
              on_path.in_root_lem ∙ path_root g disk tree number slot content (g.height - 1) top _
                  ∙ ap (λ (n : ℕ).
                  linked_node g number slot (g.height - 1) (node_at g disk tree n number)) top,
            );
      }

  abbrev new : Tree
  new = placed_tree g tree number slot

  slot_same : slot_at g new 0 number ≡ some slot
  slot_same = planted_same g tree number slot (g.height - 1) 0 number (omega arith) refl

  slot_other : (other : ℕ) → other ≢ number → slot_at g new 0 other ≡ slot_at g tree 0 other
  slot_other other ne =
      planted_other g tree number slot (g.height - 1) 0 other
      (λ e. ne (sym (key_of-zero g other) ∙ e ∙ key_of-zero g number))

  value_same : value_of g after new number ≡ some content
  value_same =
      ap (block_in g after) slot_same
      ∙ ap {B = Option Bytes} some
      (on_path.in_slot g.height (omega (arith, f.height_low)) (omega arith)
      ∙ path_data g disk tree number slot content (g.height - 1) top _)

  value_other : (other : ℕ) → other < tree_capacity g → other ≢ number →
      value_of g after new other ≡ value_of g disk tree other
  value_other other h ne =
      ap (block_in g after) (slot_other other ne)
      ∙ block_in_same g disk after (slot_at g tree 0 other)
      (λ held e.
      path_planted.apart held g.height (ghost.links.inside other 0 held h positive e)
      (λ z. ne (shared (e ∙ ap {B = Option ℕ} some z))) positive (omega arith))
    where
      positive : 0 < g.height
      positive = omega (arith, f.height_low)

      shared : slot_at g tree 0 other ≡ some slot → other ≡ number
      shared e = sym (key_of-zero g other) ∙ ours other 0 h positive e ∙ key_of-zero g number

  pub placement : Placement g disk after tree (placed_tree g tree number slot) number slot content
  placement =
      record {
        ghost = ghost_planted g f disk after tree whole ghost number slot
            (g.height - 1) low here path_planted;
        value_same = value_same;
        value_other = value_other;
      }

-- ---- random blocks ----

module _ (g : Geometry) (f : Fits g) (disk after : Bytes) (tree : Tree) (ghost : Ghost g disk tree)
    (slot : ℕ) (random : Bytes) (free : is_live g disk slot ≡ false)
    (stored : StoredBy g slot disk after (dummy_stores g disk slot random)) where
  root_kept : block_at (block_width g) after (root_address g) ≡ block_at (block_width g) disk (root_address g)
  root_kept = stored.in_root_lem ∙ dummy_root g disk slot random

  pub ghost_dummy : Ghost g after tree
  ghost_dummy =
      ghost_unused g f disk after tree ghost slot
      (unused_of_not_is_live g f disk tree ghost slot free) root_kept stored.apart

  pub value_of_dummy : (number : ℕ) → number < tree_capacity g →
      value_of g after tree number ≡ value_of g disk tree number
  value_of_dummy =
      value_of_unused g f disk after tree ghost slot
      (unused_of_not_is_live g f disk tree ghost slot free) root_kept stored.apart
