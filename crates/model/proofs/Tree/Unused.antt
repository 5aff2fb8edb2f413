-- A slot that the ghost tree does not use, overwritten: the tree and what every number shows stay. Assumes
-- nothing.
use mathlib.Core.Path.{◌≡◌, sym, ap, ◌∙◌, subst}
use mathlib.Core.Logic.{◌≢◌}
use mathlib.Core.Option.{Option, some}
use Prim.Native.Nat.{ℕ, suc, ◌+◌, ◌-◌, ◌≤◌, ◌<◌}
use native.Mathlib.Omega.{arith}
use Rattle.model.specs.Geometry.{Geometry, Fits, fanout, root_address, tree_capacity, block_width}
use Rattle.model.specs.Blocks.{Bytes, block_at, entry_at}
use Rattle.model.specs.Layout.{slot_start, level_place}
use Rattle.model.specs.HiddenTree.{owner_of, branch_at}
use Rattle.model.proofs.Laws.Slots.{level_place_le, level_place_ge}
use Rattle.model.proofs.Tree.Keys.{key_of}
use Rattle.model.proofs.Tree.Ghost.{Tree, slot_at, node_at, Owned, Ghost, value_of, node_in_same}
use Rattle.model.proofs.Tree.Ghost.{block_in_same, node_at_height, node_at_below, node_at_cases}
use Rattle.model.proofs.Tree.Planted.{Apart}

module _ (g : Geometry) (f : Fits g) (disk after : Bytes) (tree : Tree) (ghost : Ghost g disk tree) (slot : ℕ)
    (unused : (number level : ℕ) → number < tree_capacity g → level < g.height →
    slot_at g tree level number ≢ some slot)
    (root : block_at (block_width g) after (root_address g) ≡ block_at (block_width g) disk (root_address g))
    (apart : Apart g disk after slot) where
  positive : 0 < g.height
  positive = omega (arith, f.height_low)

  -- a slot's block that the tree uses is as it was
  block_kept : (number level held : ℕ) → number < tree_capacity g → level < g.height →
      slot_at g tree level number ≡ some held →
      (place : ℕ) → 1 ≤ place → place ≤ g.height →
      block_at (block_width g) after (slot_start g held + place) ≡
      block_at (block_width g) disk (slot_start g held + place)
  block_kept number level held h k e place low high =
      apart held place (ghost.links.inside number level held h k e)
      (λ z. unused number level h k (e ∙ ap {B = Option ℕ} some z)) low high

  node_at_kept : (number level : ℕ) → number < tree_capacity g → level ≤ g.height →
      node_at g after tree level number ≡ node_at g disk tree level number
  node_at_kept number level h k =
      node_at_cases g disk tree (λ (l : ℕ) (node : Bytes). node_at g after tree l number ≡ node) level number k
      (node_at_height g after tree number ∙ root)
      (λ l.
      node_at_below g after tree level number l
      ∙ node_in_same g disk after level (slot_at g tree level number)
      (λ held e. block_kept number level held h l e (level_place g level) (level_place_ge g level positive)
      (level_place_le g level l)))

  owned_kept : (number level held : ℕ) → number < tree_capacity g → level < g.height →
      slot_at g tree level number ≡ some held →
      Owned g after tree number level held
  unfolding owner_of
  owned_kept number level held h k e =
      let old = ghost.owned number level held h k e in
      let same : owner_of g after held ≡ owner_of g disk held =
      ap (entry_at (fanout g - 1)) (block_kept number level held h k e 1 (omega arith)
      (omega (arith, f.height_low))) in
      record {
        owner_lt = subst (λ (n : ℕ). n < g.hidden) (sym same) old.owner_lt;
        holds = ap (slot_at g tree 0) same ∙ old.holds;
        below = ap (key_of g level) same ∙ old.below;
      }

  pub ghost_unused : Ghost g after tree
  ghost_unused =
      record {
        links =
            record {
              linked = λ number level h k.
                  ap (entry_at (branch_at g number level)) (node_at_kept number (suc level) h (omega arith))
                  ∙ ghost.links.linked number level h k;
              inside = ghost.links.inside;
            };
        owned = owned_kept;
      }

  pub value_of_unused : (number : ℕ) → number < tree_capacity g →
      value_of g after tree number ≡ value_of g disk tree number
  value_of_unused number h =
      block_in_same g disk after (slot_at g tree 0 number)
      (λ held e. block_kept number 0 held h positive e g.height (omega (arith, f.height_low))
      (omega arith))
