-- The hidden invariant from the ghost tree: every entry met from the root down is the one that the tree
-- gives, and each that is not 0 is good. Assumes nothing.
use mathlib.Core.Path.{◌≡◌, refl, sym, ap, ap₂, ◌∙◌, subst}
use mathlib.Core.Logic.{◌≢◌}
use mathlib.Core.Bool.{true}
use mathlib.Core.Option.{Option, none, some}
use Prim.Native.Nat.{ℕ, suc, ◌+◌, ◌*◌, ◌/◌, ◌%◌, ◌≤◌, ◌<◌}
use native.Mathlib.Nat.{mod-eq_of_lt, div-eq_of_lt, div-mul-le_self}
use native.Mathlib.Omega.{arith}
use lib.Arith.{digits_mod, digits_div}
use Rattle.laws.proofs.Cases.{true_is_not_false}
use Rattle.model.specs.Geometry.{Geometry, Fits, root_address, tree_capacity, block_width}
use Rattle.model.specs.Blocks.{Bytes, DiskAddress, block_at, entry_at}
use Rattle.model.specs.Layout.{slot_of, level_address, is_well_formed}
use Rattle.model.specs.HiddenTree.{owner_of, span, walk, found}
use Rattle.model.specs.Invariants.{entries_in, Met, in_root, in_node, GoodEntry, HiddenInvariant}
use Rattle.model.proofs.Laws.Slots.{is_slot_block_below, is_well_formed-level_address, slot_of-level_address}
use Rattle.model.proofs.Tree.Keys.{key_of, key_of_suc, branch_at-key_of, key_of_first, lt_of_key_of_height}
use Rattle.model.proofs.Tree.Keys.{lt_of_key_of_same, lt_tree_capacity}
use Rattle.model.proofs.Tree.Ghost.{Tree, slot_at, entry_to, node_in, node_at, Owned, Ghost, node_at_height}
use Rattle.model.proofs.Tree.Ghost.{node_at_below}
use Rattle.model.proofs.Tree.Walks.{end_in, walk_end}

module _ (g : Geometry) (f : Fits g) (disk : Bytes) (tree : Tree) (ghost : Ghost g disk tree) where
  -- the first number below an entry
  abbrev first_below : (level index : ℕ) → ℕ
  first_below level index = index * span g level

  -- what the tree says of an entry that is met
  record MetBy (level index : ℕ) (entry : DiskAddress) : Type 0 where
    level_lt : level < g.height
    first_lt : first_below level index < tree_capacity g
    entry_is : entry ≡ entry_to g level (tree level index)

  -- the tree's links, by an entry's index
  entry_linked : (level index : ℕ) → level < g.height → first_below level index < tree_capacity g →
      entry_at (index % entries_in g level) (node_at g disk tree (suc level) (first_below level index)) ≡
      entry_to g level (tree level index)
  entry_linked level index h k =
      let first : key_of g level (first_below level index) ≡ index = key_of_first g f level index in
      ap (λ (n : ℕ). entry_at n (node_at g disk tree (suc level) (first_below level index)))
      (sym (branch_at-key_of g (first_below level index) level ∙ ap (λ (n : ℕ). n % entries_in g level) first))
      ∙ ghost.links.linked (first_below level index) level k h
      ∙ ap (λ (n : ℕ). entry_to g level (tree level n)) first

  key_above : (level index : ℕ) → key_of g (suc level) (first_below level index) ≡ index / entries_in g level
  key_above level index =
      key_of_suc g level (first_below level index)
      ∙ ap (λ (n : ℕ). n / entries_in g level) (key_of_first g f level index)

  in_root_lem : (level index : ℕ) (entry : DiskAddress) → suc level ≡ g.height → index < entries_in g level →
      entry ≡ entry_at index (block_at (block_width g) disk (root_address g)) → MetBy level index entry
  in_root_lem level index entry e h p =
      let l : level < g.height = omega arith in
      let k : first_below level index < tree_capacity g =
      lt_of_key_of_height g f (first_below level index)
      (subst (λ (n : ℕ). key_of g n (first_below level index) ≡ 0) e
      (key_above level index ∙ div-eq_of_lt h)) in
      record {
        level_lt = l;
        first_lt = k;
        entry_is =
            p
            ∙ ap₂ (λ (n : ℕ) (node : Bytes). entry_at n node) (sym (mod-eq_of_lt h))
            (sym (node_at_height g disk tree (first_below level index))
            ∙ ap (λ (n : ℕ). node_at g disk tree n (first_below level index)) (sym e))
            ∙ entry_linked level index l k;
      }

  in_node_lem : (level index above place : ℕ) (entry node : DiskAddress) → MetBy (suc level) above node →
      is_well_formed g (suc level) node ≡ true → place < entries_in g level →
      index ≡ above * entries_in g level + place →
      entry ≡ entry_at place (block_at (block_width g) disk node) → MetBy level index entry
  in_node_lem level index above place entry node met formed h e p =
      let l : level < g.height = omega (arith, met.level_lt) in
      record {
        level_lt = l;
        first_lt = low;
        entry_is =
            p ∙ ap₂ (λ (n : ℕ) (bytes : Bytes). entry_at n bytes) (sym at)
            (sym (block (tree (suc level) above) refl))
            ∙ entry_linked level index l low;
      }
    where
      at : index % entries_in g level ≡ place
      at = ap (λ (n : ℕ). n % entries_in g level) e ∙ digits_mod above h

      up : key_of g (suc level) (first_below level index) ≡ above
      up = key_above level index ∙ ap (λ (n : ℕ). n / entries_in g level) e ∙ digits_div above h

      low : first_below level index < tree_capacity g
      low =
          lt_of_key_of_same g f (suc level) (first_below level index) (first_below (suc level) above)
          (omega (arith, met.level_lt)) (up ∙ sym (key_of_first g f (suc level) above)) met.first_lt

      block : (slot : Option ℕ) → tree (suc level) above ≡ slot →
          node_at g disk tree (suc level) (first_below level index) ≡ block_at (block_width g) disk node
      block none q =
          let z : node ≡ 0 = met.entry_is ∙ ap (entry_to g (suc level)) q in
          true_is_not_false formed (is_slot_block_below g (suc level) node (omega arith))
      block (some slot) q =
          node_at_below g disk tree (suc level) (first_below level index) met.level_lt
          ∙ ap (λ (n : ℕ). node_in g disk (suc level) (tree (suc level) n)) up
          ∙ ap (node_in g disk (suc level)) q
          ∙ ap (block_at (block_width g) disk) (sym (met.entry_is ∙ ap (entry_to g (suc level)) q))

  met_by : (level index : ℕ) (entry : DiskAddress) → Met g disk level index entry → MetBy level index entry
  met_by level index entry (in_root e h p) = in_root_lem level index entry e h p
  met_by level index entry (in_node met formed h e p) =
      in_node_lem level index _ _ entry _ (met_by (suc level) _ _ met) formed h e p

  good_of_met : (level index : ℕ) (entry : DiskAddress) → MetBy level index entry → entry ≢ 0 →
      GoodEntry g disk level index entry
  good_of_met level index entry met ne = by (tree level index) refl
    where
      by : (slot : Option ℕ) → tree level index ≡ slot → GoodEntry g disk level index entry
      by none q = absurd (ne (met.entry_is ∙ ap (entry_to g level) q))
      by (some slot) q =
          subst (GoodEntry g disk level index) (sym (met.entry_is ∙ ap (entry_to g level) q)) good
        where
          first : key_of g level (first_below level index) ≡ index
          first = key_of_first g f level index

          same : slot_of g (level_address g slot level) ≡ slot
          same = slot_of-level_address g slot level met.level_lt

          held : slot_at g tree level (first_below level index) ≡ some slot
          held = ap (tree level) first ∙ q

          own : Owned g disk tree (first_below level index) level slot
          own = ghost.owned (first_below level index) level slot met.first_lt met.level_lt held

          end : (walk g disk (owner_of g disk slot)).end ≡ found (level_address g slot 0)
          end =
              walk_end g disk tree ghost.links (owner_of g disk slot)
              (lt_tree_capacity g f (owner_of g disk slot) own.owner_lt) f
              ∙ ap (end_in g) own.holds

          good : GoodEntry g disk level index (level_address g slot level)
          good =
              let below : key_of g level (owner_of g disk slot) ≡ index = own.below ∙ first in
              record {
                well_formed =
                    is_well_formed-level_address g slot level
                    (ghost.links.inside (first_below level index) level slot met.first_lt
                    met.level_lt held) met.level_lt;
                within =
                    let least : first_below level index ≤ owner_of g disk slot =
                    subst (λ (n : ℕ). n * span g level ≤ owner_of g disk slot) below
                    (div-mul-le_self (owner_of g disk slot) (span g level)) in
                    omega (arith, own.owner_lt);
                owner_below = rw same below;
                owner_found = rw same end;
              }

  pub hidden_invariant_of_ghost : HiddenInvariant g disk
  hidden_invariant_of_ghost =
      record {
        good_entries = λ level index entry met ne.
            good_of_met level index entry (met_by level index entry met) ne;
      }
