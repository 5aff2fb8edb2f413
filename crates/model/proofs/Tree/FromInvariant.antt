-- The ghost tree from the hidden invariant: the tree that a disk's entries spell from the root down, and that
-- a disk with the invariant has it. Assumes nothing.
use mathlib.Core.Path.{◌≡◌, refl, sym, ap, ap₂, ◌∙◌, subst}
use mathlib.Core.Logic.{◌≢◌, ◌⊎◌, inl, inr, ⊎_elim}
use mathlib.Core.Bool.{true, cond}
use mathlib.Core.Option.{Option, none, some}
use Prim.Native.Nat.{ℕ, zero, suc, ◌+◌, ◌*◌, ◌-◌, ◌/◌, ◌%◌, ◌<◌}
use native.Mathlib.Nat.{mod-eq_of_lt, mod-lt, div-add-mod', div-lt_iff_lt-mul, one-mul, mul-one, div-one}
use native.Mathlib.Omega.{arith}
use lib.Dec.{eqb}
use borrow.Author.Tests.{eq-eqb, ne_eqb}
use Rattle.laws.proofs.Cases.{cond_true, cond_false, eq_cases, none_is_not_some, some_inj}
use Rattle.model.specs.Geometry.{Geometry, Fits, root_address, tree_capacity, block_width}
use Rattle.model.specs.Blocks.{Bytes, DiskAddress, block_at, entry_at, zero_block}
use Rattle.model.specs.Layout.{slot_of, level_place, level_address, is_well_formed}
use Rattle.model.specs.HiddenTree.{owner_of, span, is_found_at}
use Rattle.model.specs.Invariants.{entries_in, Met, in_root, in_node, GoodEntry, HiddenInvariant}
use Rattle.model.proofs.Laws.Entries.{entry_at-replicate}
use Rattle.model.proofs.Laws.Slots.{slot_block_of}
use Rattle.model.proofs.Tree.Keys.{key_of, key_of_suc, branch_at-key_of, entries_in_positive, key_of_height}
use Rattle.model.proofs.Tree.Keys.{lt_of_key_of_same, span-zero}
use Rattle.model.proofs.Tree.Ghost.{Tree, slot_at, entry_to, node_in, node_at, Linked, Owned, Ghost}
use Rattle.model.proofs.Tree.Ghost.{node_at_height, node_at_below}
use Rattle.model.proofs.Tree.Walks.{walk_end, some_of_end_in}

-- ---- the tree that a disk spells ----

-- the block that an entry leads to, zeros for none
abbrev block_to : Geometry → (disk : Bytes) → (entry : DiskAddress) → Bytes
block_to g disk entry = cond (eqb entry 0) (zero_block g.block_size) (block_at (block_width g) disk entry)

-- the node with a level and a key, so many steps below the root
unfoldable pub node_by_key : Geometry → (disk : Bytes) → (depth level key : ℕ) → Bytes
node_by_key g disk zero level key = block_at (block_width g) disk (root_address g)
node_by_key g disk (suc depth) level key =
    block_to g disk
    (entry_at (key % entries_in g level) (node_by_key g disk depth (suc level) (key / entries_in g level)))

-- the entry with a level and a key, in a node so many steps below the root
abbrev entry_of : Geometry → (disk : Bytes) → (depth level key : ℕ) → DiskAddress
entry_of g disk depth level key =
    entry_at (key % entries_in g level) (node_by_key g disk depth (suc level) (key / entries_in g level))

-- the slot that an entry leads to
abbrev slot_in : Geometry → (entry : DiskAddress) → Option ℕ
slot_in g entry = cond (eqb entry 0) none (some (slot_of g entry))

-- the slots that the entries from the root down lead to
unfoldable pub tree_of : Geometry → (disk : Bytes) → Tree
tree_of g disk level key = slot_in g (entry_of g disk (g.height - 1 - level) level key)

-- ---- an entry and its slot ----

module _ (g : Geometry) (disk : Bytes) (level : ℕ) (entry : DiskAddress)
    (formed : entry ≢ 0 → is_well_formed g level entry ≡ true) where
  entry_to-slot_in : entry_to g level (slot_in g entry) ≡ entry
  entry_to-slot_in = ⊎_elim
      (λ e. ap (entry_to g level) (cond_true none (some (slot_of g entry)) (eq-eqb entry 0 e)) ∙ sym e)
      (λ e.
      ap (entry_to g level) (cond_false none (some (slot_of g entry)) (ne_eqb entry 0 e))
      ∙ sym (slot_block_of g (level_place g level) entry (formed e)).address_is)
      (eq_cases entry 0)

  node_in-slot_in : node_in g disk level (slot_in g entry) ≡ block_to g disk entry
  node_in-slot_in = ⊎_elim
      (λ e.
      ap (node_in g disk level) (cond_true none (some (slot_of g entry)) (eq-eqb entry 0 e))
      ∙ sym (cond_true (zero_block g.block_size) (block_at (block_width g) disk entry) (eq-eqb entry 0 e)))
      (λ e.
      ap (node_in g disk level) (cond_false none (some (slot_of g entry)) (ne_eqb entry 0 e))
      ∙ ap (block_at (block_width g) disk)
      (sym (slot_block_of g (level_place g level) entry (formed e)).address_is)
      ∙ sym (cond_false (zero_block g.block_size) (block_at (block_width g) disk entry) (ne_eqb entry 0 e)))
      (eq_cases entry 0)

  some_of_slot_in : (slot : ℕ) → slot_in g entry ≡ some slot → (entry ≢ 0) × (slot_of g entry ≡ slot)
  some_of_slot_in slot e = by (eq_cases entry 0)
    where
      by : (entry ≡ 0) ⊎ (entry ≢ 0) → (entry ≢ 0) × (slot_of g entry ≡ slot)
      by (inl p) = none_is_not_some slot (sym (cond_true none (some (slot_of g entry)) (eq-eqb entry 0 p)) ∙ e)
      by (inr p) =
          let q = sym (cond_false none (some (slot_of g entry)) (ne_eqb entry 0 p)) ∙ e in
          (p, some_inj (slot_of g entry) slot q)

-- ---- a disk with the invariant ----

module _ (g : Geometry) (f : Fits g) (disk : Bytes) (sound : HiddenInvariant g disk) where
  abbrev Reached : (depth level key : ℕ) → Type 0
  Reached depth level key =
      entry_of g disk depth level key ≢ 0 → Met g disk level key (entry_of g disk depth level key)

  below_root : (level number : ℕ) → suc level ≡ g.height → number < tree_capacity g →
      key_of g level number < entries_in g level
  below_root level number e h =
      let z : key_of g level number / entries_in g level ≡ 0 =
      sym (key_of_suc g level number)
      ∙ subst (λ (l : ℕ). key_of g l number ≡ 0) (sym e) (key_of_height g f number h) in
      let k : key_of g level number / entries_in g level < 1 = omega arith in
      rw (one-mul (entries_in g level)) at ((div-lt_iff_lt-mul (entries_in_positive g f level)).0 k)

  -- every entry that the tree spells is met, unless it is 0
  reached_step : (depth level key : ℕ) → Reached depth (suc level) (key / entries_in g level) →
      Reached (suc depth) level key
  unfolding node_by_key
  reached_step depth level key higher ne =
      in_node met (sound.good_entries (suc level) above node met there).well_formed
      (mod-lt key (entries_in_positive g f level)) (sym (div-add-mod' key (entries_in g level)))
      (ap (entry_at (key % entries_in g level)) (cond_false _ _ (ne_eqb node 0 there)))
    where
      above : ℕ
      above = key / entries_in g level

      node : DiskAddress
      node = entry_of g disk depth (suc level) above

      there : node ≢ 0
      there z =
          ne (ap (entry_at (key % entries_in g level)) (cond_true _ _ (eq-eqb node 0 z))
          ∙ entry_at-replicate g.block_size (key % entries_in g level))

      met : Met g disk (suc level) above node
      met = higher there

  reached : (depth level number : ℕ) → suc (level + depth) ≡ g.height → number < tree_capacity g →
      Reached depth level (key_of g level number)
  unfolding node_by_key
  reached zero level number e h ne =
      let top : suc level ≡ g.height = omega arith in
      let l : key_of g level number < entries_in g level = below_root level number top h in
      in_root top l (ap (λ (n : ℕ). entry_at n (block_at (block_width g) disk (root_address g))) (mod-eq_of_lt l))
  reached (suc depth) level number e h ne =
      reached_step depth level (key_of g level number)
      (subst (Reached depth (suc level)) (key_of_suc g level number)
      (reached depth (suc level) number (omega arith) h)) ne

  module _ (number level : ℕ) (low : number < tree_capacity g) (high : level < g.height) where
    -- the number's entry of the level
    abbrev entry_for : DiskAddress
    entry_for = entry_of g disk (g.height - 1 - level) level (key_of g level number)

    good : entry_for ≢ 0 → GoodEntry g disk level (key_of g level number) entry_for
    good ne =
        sound.good_entries level (key_of g level number) entry_for
        (reached (g.height - 1 - level) level number (omega arith) low ne) ne

    formed : entry_for ≢ 0 → is_well_formed g level entry_for ≡ true
    formed ne = (good ne).well_formed

    slot_at-tree_of : slot_at g (tree_of g disk) level number ≡ slot_in g entry_for
    unfolding tree_of
    slot_at-tree_of = refl

  node_at-tree_of : (number level : ℕ) → number < tree_capacity g → level < g.height →
      node_at g disk (tree_of g disk) (suc level) number ≡
      node_by_key g disk (g.height - 1 - level) (suc level) (key_of g (suc level) number)
  unfolding node_by_key
  node_at-tree_of number level low high = ⊎_elim top below (eq_cases (suc level) g.height)
    where
      top : suc level ≡ g.height →
          node_at g disk (tree_of g disk) (suc level) number ≡
          node_by_key g disk (g.height - 1 - level) (suc level) (key_of g (suc level) number)
      top e =
          let z : g.height - 1 - level ≡ 0 = omega arith in
          ap (λ (l : ℕ). node_at g disk (tree_of g disk) l number) e
          ∙ node_at_height g disk (tree_of g disk) number
          ∙ ap (λ (depth : ℕ). node_by_key g disk depth (suc level) (key_of g (suc level) number)) (sym z)

      below : suc level ≢ g.height →
          node_at g disk (tree_of g disk) (suc level) number ≡
          node_by_key g disk (g.height - 1 - level) (suc level) (key_of g (suc level) number)
      below e =
          let l : suc level < g.height = omega arith in
          let z : g.height - 1 - level ≡ suc (g.height - 1 - suc level) = omega arith in
          node_at_below g disk (tree_of g disk) (suc level) number l
          ∙ ap (node_in g disk (suc level)) (slot_at-tree_of number (suc level) low l)
          ∙ node_in-slot_in g disk (suc level) (entry_for number (suc level) low l)
          (formed number (suc level) low l)
          ∙ ap (λ (depth : ℕ). node_by_key g disk depth (suc level) (key_of g (suc level) number)) (sym z)

  linked_tree_of : Linked g disk (tree_of g disk)
  linked_tree_of =
      record {
        linked = λ number level h k.
            ap₂ (λ (index : ℕ) (node : Bytes). entry_at index node) (branch_at-key_of g number level)
            (node_at-tree_of number level h k
            ∙ ap (node_by_key g disk (g.height - 1 - level) (suc level)) (key_of_suc g level number))
            ∙ sym (ap (entry_to g level) (slot_at-tree_of number level h k)
            ∙ entry_to-slot_in g disk level (entry_for number level h k) (formed number level h k));
        inside = λ number level slot h k e.
            let at = some_of_slot_in g disk level (entry_for number level h k) (formed number level h k) slot
            (sym (slot_at-tree_of number level h k) ∙ e) in
            subst (λ (n : ℕ). n < g.slots) at.1
            (slot_block_of g (level_place g level) (entry_for number level h k)
            (formed number level h k at.0)).slot_inside;
      }

  owned_tree_of : (number level slot : ℕ) → number < tree_capacity g → level < g.height →
      slot_at g (tree_of g disk) level number ≡ some slot → Owned g disk (tree_of g disk) number level slot
  owned_tree_of number level slot h k e = subst (Owned g disk (tree_of g disk) number level) at.1 own
    where
      at : (entry_for number level h k ≢ 0) × (slot_of g (entry_for number level h k) ≡ slot)
      at =
          some_of_slot_in g disk level (entry_for number level h k) (formed number level h k) slot
          (sym (slot_at-tree_of number level h k) ∙ e)

      held : ℕ
      held = slot_of g (entry_for number level h k)

      owner : ℕ
      owner = owner_of g disk held

      fine : GoodEntry g disk level (key_of g level number) (entry_for number level h k)
      fine = good number level h k at.0

      low : owner < tree_capacity g
      low = lt_of_key_of_same g f level owner number (omega arith) fine.owner_below h

      positive : 0 < g.height
      positive = omega (arith, f.height_low)

      holds : slot_at g (tree_of g disk) 0 owner ≡ some held
      holds =
          some_of_end_in g held (slot_at g (tree_of g disk) 0 owner) positive
          (ap (is_found_at (level_address g held 0))
          (sym (walk_end g disk (tree_of g disk) linked_tree_of owner low f) ∙ fine.owner_found)
          ∙ eq-eqb (level_address g held 0) (level_address g held 0) refl)

      -- the owner's own entry is good too, so the owner is below H
      small : owner < g.hidden
      small =
          let there =
          some_of_slot_in g disk 0 (entry_for owner 0 low positive) (formed owner 0 low positive) held
          (sym (slot_at-tree_of owner 0 low positive) ∙ holds) in
          let within : key_of g 0 owner * span g 0 < g.hidden =
          (good owner 0 low positive there.0).within in
          rw (span-zero g, div-one owner, mul-one owner) at within

      own : Owned g disk (tree_of g disk) number level held
      own = record { owner_lt = small; holds = holds; below = fine.owner_below }

  pub ghost_of_hidden_invariant : Ghost g disk (tree_of g disk)
  ghost_of_hidden_invariant = record { links = linked_tree_of; owned = owned_tree_of }
