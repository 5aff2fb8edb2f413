-- Walks under the ghost tree: a walk passes the current nodes and ends where the tree says, so none is
-- damaged. Assumes nothing.
use mathlib.Core.Path.{◌≡◌, refl, sym, ap, ap₂, ◌∙◌}
use mathlib.Core.Logic.{◌≢◌}
use mathlib.Core.Bool.{true, false, cond}
use mathlib.Core.List.{List, [], ◌∷◌}
use mathlib.Core.Option.{Option, none, some}
use Prim.Native.Nat.{ℕ, zero, suc, ◌-◌, ◌<◌}
use native.Mathlib.Omega.{arith}
use lib.Dec.{eqb}
use lib.ListN.{replicate}
use borrow.Author.Tests.{ne_eqb, eqb-true}
use Rattle.laws.proofs.Cases.{true_is_not_false, cond_true, cond_false}
use Rattle.model.specs.Geometry.{Geometry, Fits, tree_capacity, block_width}
use Rattle.model.specs.Blocks.{Bytes, DiskAddress, block_at, entry_at, zero_block}
use Rattle.model.specs.Layout.{slot_of, level_address, is_well_formed}
use Rattle.model.specs.HiddenTree.{branch_at, End, found, unmapped, damaged, is_damaged, is_found_at, Walk}
use Rattle.model.specs.HiddenTree.{ended, passing, walk_from, walk}
use Rattle.model.proofs.Laws.Entries.{entry_at-replicate}
use Rattle.model.proofs.Laws.Slots.{is_well_formed-level_address, slot_of-level_address}
use Rattle.model.proofs.Tree.Ghost.{Tree, slot_at, entry_to, node_in, node_at, nodes_from, Linked}
use Rattle.model.proofs.Tree.Ghost.{node_at_height, node_at_below}

-- where a walk ends that comes to a slot
abbrev pub end_in : Geometry → Option ℕ → End
end_in g none = unmapped
end_in g (some slot) = found (level_address g slot 0)

-- ---- a walk ----

module _ (g : Geometry) (disk : Bytes) (tree : Tree) (links : Linked g disk tree) (number : ℕ)
    (low : number < tree_capacity g) where
  none_of_entry_to : (level : ℕ) (slot : Option ℕ) → entry_to g level slot ≡ 0 → slot ≡ none
  none_of_entry_to level none e = refl
  none_of_entry_to level (some slot) e = absurd (omega arith)

  -- nothing hangs below what is not there
  none_below : (level : ℕ) → suc level < g.height → slot_at g tree (suc level) number ≡ none →
      slot_at g tree level number ≡ none
  none_below level h e =
      none_of_entry_to level (slot_at g tree level number)
      (sym (links.linked number level low (omega arith))
      ∙ ap (entry_at (branch_at g number level))
      (node_at_below g disk tree (suc level) number h ∙ ap (node_in g disk (suc level)) e)
      ∙ entry_at-replicate g.block_size (branch_at g number level))

  none_nodes : (level : ℕ) → level < g.height → slot_at g tree level number ≡ none →
      (nodes_from g disk tree number level ≡ replicate level (zero_block g.block_size)) ×
      (slot_at g tree 0 number ≡ none)
  unfolding nodes_from
  none_nodes zero h e = (refl, e)
  none_nodes (suc level) h e =
      let rest = none_nodes level (omega arith) (none_below level h e) in (
        ap₂ {C = List Bytes} (λ (node : Bytes) (nodes : List Bytes). node ∷ nodes)
            (node_at_below g disk tree (suc level) number h ∙ ap (node_in g disk (suc level)) e) rest.0,
        rest.1,
      )

  -- what the tree says of a walk from a level down
  abbrev pub walk_by : (level : ℕ) → Walk
  walk_by level = record { nodes = nodes_from g disk tree number level; end = end_in g (slot_at g tree 0 number) }

  ended_none : (level : ℕ) → level < g.height → slot_at g tree level number ≡ none →
      ended g (node_at g disk tree (suc level) number) level unmapped ≡ walk_by (suc level)
  unfolding nodes_from
  ended_none level h e = made (none_nodes level h e).0 (none_nodes level h e).1
    where
      made : nodes_from g disk tree number level ≡ replicate level (zero_block g.block_size) →
          slot_at g tree 0 number ≡ none →
          ended g (node_at g disk tree (suc level) number) level unmapped ≡ walk_by (suc level)
      made p q =
          λ i. record { nodes = node_at g disk tree (suc level) number ∷ sym p i; end = end_in g (sym q i) }

  -- one step of a walk, by the entry that it meets
  abbrev step_at : {A : Type 0} → (level : ℕ) → (entry : DiskAddress) → (onNone onBlock onDamage : A) → A
  step_at level entry onNone onBlock onDamage =
      cond (eqb entry 0) onNone (cond (is_well_formed g level entry) onBlock onDamage)

  step_at_some : {A : Type 0} (level slot : ℕ) (onNone onBlock onDamage : A) → level < g.height →
      slot < g.slots → step_at level (level_address g slot level) onNone onBlock onDamage ≡ onBlock
  step_at_some level slot onNone onBlock onDamage h k =
      cond_false _ _ (ne_eqb (level_address g slot level) 0 (λ z. omega arith))
      ∙ cond_true _ _ (is_well_formed-level_address g slot level k h)

  walk_from-node_at : (level : ℕ) → level < g.height →
      walk_from g disk number level (node_at g disk tree (suc level) number) ≡ walk_by (suc level)
  unfolding walk_from nodes_from
  walk_from-node_at zero h =
      ap (λ (entry : ℕ). ended g node 0 (step_at 0 entry unmapped (found entry) damaged))
      (links.linked number 0 low h)
      ∙ go (slot_at g tree 0 number) refl
    where
      node : Bytes
      node = node_at g disk tree 1 number

      go : (slot : Option ℕ) → slot_at g tree 0 number ≡ slot →
          ended g node 0 (step_at 0 (entry_to g 0 slot) unmapped (found (entry_to g 0 slot)) damaged) ≡ walk_by 1
      go none e = ended_none 0 h e
      go (some slot) e =
          ap (ended g node 0)
          (step_at_some 0 slot unmapped (found (level_address g slot 0)) damaged h
          (links.inside number 0 slot low h e))
          ∙ (λ i. record { nodes = node ∷ []; end = end_in g (sym e i) })
  walk_from-node_at (suc level) h =
      ap (λ (entry : ℕ). step entry) (links.linked number (suc level) low h)
      ∙ go (walk_from-node_at level (omega arith)) (slot_at g tree (suc level) number) refl
    where
      node : Bytes
      node = node_at g disk tree (suc (suc level)) number

      on : (entry : DiskAddress) → Walk
      on entry = passing node (walk_from g disk number level (block_at (block_width g) disk entry))

      step : (entry : DiskAddress) → Walk
      step entry =
          step_at (suc level) entry (ended g node (suc level) unmapped) (on entry)
          (ended g node (suc level) damaged)

      go : walk_from g disk number level (node_at g disk tree (suc level) number) ≡ walk_by (suc level) →
          (slot : Option ℕ) → slot_at g tree (suc level) number ≡ slot →
          step (entry_to g (suc level) slot) ≡ walk_by (suc (suc level))
      go below none e = ended_none (suc level) h e
      go below (some slot) e =
          step_at_some (suc level) slot (ended g node (suc level) unmapped)
          (on (level_address g slot (suc level)))
          (ended g node (suc level) damaged) h (links.inside number (suc level) slot low h e)
          ∙ ap (λ (next : Bytes). passing node (walk_from g disk number level next))
          (sym (node_at_below g disk tree (suc level) number h ∙ ap (node_in g disk (suc level)) e))
          ∙ ap (passing node) below

  -- a walk from the root
  walk_is : Fits g → walk g disk number ≡ walk_by g.height
  walk_is f =
      let e : suc (g.height - 1) ≡ g.height = omega (arith, f.height_low) in
      ap (walk_from g disk number (g.height - 1))
      (sym (node_at_height g disk tree number) ∙ ap (λ (level : ℕ). node_at g disk tree level number) (sym e))
      ∙ walk_from-node_at (g.height - 1) (omega (arith, f.height_low)) ∙ ap walk_by e

  pub walk_end : Fits g → (walk g disk number).end ≡ end_in g (slot_at g tree 0 number)
  walk_end f = ap (λ (walked : Walk). walked.end) (walk_is f)

  pub walk_nodes : Fits g → (walk g disk number).nodes ≡ nodes_from g disk tree number g.height
  walk_nodes f = ap (λ (walked : Walk). walked.nodes) (walk_is f)

  pub is_damaged-walk : Fits g → is_damaged (walk g disk number).end ≡ false
  is_damaged-walk f = ap is_damaged (walk_end f) ∙ sound (slot_at g tree 0 number)
    where
      sound : (slot : Option ℕ) → is_damaged (end_in g slot) ≡ false
      sound none = refl
      sound (some slot) = refl

  pub walk_not_damaged : Fits g → (walk g disk number).end ≢ damaged
  walk_not_damaged f e = true_is_not_false (ap is_damaged e) (is_damaged-walk f)

-- the slot where a walk ends
pub some_of_end_in : (g : Geometry) (slot : ℕ) (held : Option ℕ) → 0 < g.height →
    is_found_at (level_address g slot 0) (end_in g held) ≡ true → held ≡ some slot
some_of_end_in g slot none h e = true_is_not_false e refl
some_of_end_in g slot (some other) h e =
    ap {B = Option ℕ} some
    (sym (slot_of-level_address g other 0 h)
    ∙ ap (slot_of g) (eqb-true (level_address g other 0) (level_address g slot 0) e)
    ∙ slot_of-level_address g slot 0 h)
