-- Laws of the stores of a hidden half: a walk's nodes are whole and as many as the tree is high, and a path,
-- blocks written back and random blocks each store the slot's hidden blocks in order and then the root, each
-- whole. Assumes nothing.
use mathlib.Core.Path.{◌≡◌, refl, sym, ap, ap₂, ◌∙◌}
use mathlib.Core.List.{List, [], ◌∷◌, ◌++◌, append_assoc}
use Prim.Native.Nat.{ℕ, zero, suc, ◌+◌, ◌*◌, ◌-◌, ◌/◌, ◌^◌, ◌≤◌, ◌<◌}
use native.Mathlib.Nat.{mod-lt}
use native.Mathlib.Omega.{arith}
use lib.Dec.{eqb}
use lib.ListN.{length, drop, replicate, length-replicate, length-drop}
use lib.Seq.{length-take-le}
use Rattle.laws.proofs.Cases.{cond_cases}
use Rattle.laws.proofs.Members.{All, all_append}
use Rattle.model.specs.Geometry.{Geometry, Fits, fanout, root_address, block_count, block_width}
use Rattle.model.specs.Blocks.{Bytes, DiskAddress, block_at, entry_at, set_entry, zero_block}
use Rattle.model.specs.Layout.{slot_start, level_address, is_well_formed}
use Rattle.model.specs.HiddenTree.{branch_at, leaf_of, Walk, walk_from, walk}
use Rattle.model.specs.Stores.{Store, Trace, addresses}
use Rattle.model.specs.Paths.{linked_node, node_stores, path_stores, current_path, kept_block, kept_blocks}
use Rattle.model.specs.Paths.{written_back, random_blocks, dummy_stores}
use Rattle.model.specs.Simulator.{addresses_from}
use Rattle.model.proofs.Laws.Geometry.{fanout_low, slot_block_lt, root_address_lt}
use Rattle.model.proofs.Laws.Blocks.{length-block_at}
use Rattle.model.proofs.Laws.Entries.{length-set_entry}
use Rattle.model.proofs.Laws.Slots.{slot_block_of}
use Rattle.model.proofs.Laws.Stores.{addresses-append}

-- ---- whole blocks ----

abbrev pub WholeBlock : Geometry → (block : Bytes) → Type 0
WholeBlock g block = length block ≡ g.block_size

abbrev pub WholeStore : Geometry → Store → Type 0
WholeStore g x = length x.content ≡ g.block_size

-- a trace stores a slot's hidden blocks in order and then the root, each whole
pub record Hides (g : Geometry) (slot : ℕ) (trace : Trace) : Type 0 where
  pub runs : addresses trace ≡ addresses_from (slot_start g slot + 1) g.height ++ (root_address g ∷ [])
  pub whole : All (WholeStore g) trace

-- so many nodes, each whole
pub record Nodes (g : Geometry) (count : ℕ) (nodes : List Bytes) : Type 0 where
  pub counted : length nodes ≡ count
  pub whole : All (WholeBlock g) nodes

-- ---- addresses ----

pub addresses_from_suc :
    (address : DiskAddress) (count : ℕ) →
    addresses_from address (suc count) ≡ address ∷ addresses_from (suc address) count
unfolding addresses_from
addresses_from_suc address count = refl

addresses_from_snoc :
    (address : DiskAddress) (count : ℕ) →
    addresses_from address (suc count) ≡ addresses_from address count ++ ((address + count) ∷ [])
unfolding addresses_from
addresses_from_snoc address zero = let e : address + 0 ≡ address = omega arith in rw e
addresses_from_snoc address (suc count) =
    let e : suc address + count ≡ address + suc count = omega arith in
    ap {B = List ℕ} (λ (rest : List ℕ). address ∷ rest) (addresses_from_snoc (suc address) count ∙ rw e)

addresses-kept_blocks :
    (g : Geometry) (disk : Bytes) (address count : ℕ) →
    addresses (kept_blocks g disk address count) ≡ addresses_from address count
unfolding addresses kept_blocks addresses_from
addresses-kept_blocks g disk address zero = refl
addresses-kept_blocks g disk address (suc count) =
    ap {B = List ℕ} (λ (rest : List ℕ). address ∷ rest) (addresses-kept_blocks g disk (suc address) count)

addresses-random_blocks :
    (g : Geometry) (address count : ℕ) (random : Bytes) →
    addresses (random_blocks g address count random) ≡ addresses_from address count
unfolding addresses random_blocks addresses_from
addresses-random_blocks g address zero random = refl
addresses-random_blocks g address (suc count) random =
    ap {B = List ℕ} (λ (rest : List ℕ). address ∷ rest)
    (addresses-random_blocks g (suc address) count (drop g.block_size random))

addresses-node_stores :
    (g : Geometry) (number slot : ℕ) (nodes : List Bytes) →
    addresses (node_stores g number slot nodes) ≡ addresses_from (slot_start g slot + 1) (length nodes)
unfolding addresses node_stores addresses_from
addresses-node_stores g number slot [] = refl
addresses-node_stores g number slot (node ∷ below) =
    let e : slot_start g slot + suc (length below) ≡ slot_start g slot + 1 + length below = omega arith in
    addresses-append (node_stores g number slot below) _
    ∙ rw (addresses-node_stores g number slot below, e)
    (sym (addresses_from_snoc (slot_start g slot + 1) (length below)))

-- ---- lengths ----

module _ (g : Geometry) (f : Fits g) where
  -- an entry's index is one of its node
  pub branch_at_fits : (number level : ℕ) → 4 * branch_at g number level + 4 ≤ g.block_size
  unfolding branch_at
  branch_at_fits number zero =
      let p : 0 < fanout g - 1 = omega (arith, fanout_low g f) in
      omega (arith, mod-lt number p, f.size_entries)
  branch_at_fits number (suc level) =
      let p : 0 < fanout g = omega (arith, fanout_low g f) in
      omega (arith, mod-lt (leaf_of g number / fanout g ^ level) p, f.size_entries)

  length-linked_node :
      (number slot level : ℕ) (node : Bytes) → WholeBlock g node →
      WholeBlock g (linked_node g number slot level node)
  unfolding linked_node
  length-linked_node number slot zero node h =
      let linked = set_entry (branch_at g number 0) (level_address g slot 0) node in
      let e : length linked ≡ g.block_size =
      length-set_entry (branch_at g number 0) (level_address g slot 0) node
      (omega (arith, branch_at_fits number 0)) ∙ h in
      length-set_entry (fanout g - 1) number linked (omega (arith, f.size_entries, fanout_low g f)) ∙ e
  length-linked_node number slot (suc level) node h =
      length-set_entry (branch_at g number (suc level)) (level_address g slot (suc level)) node
      (omega (arith, branch_at_fits number (suc level))) ∙ h

  node_stores_whole :
      (number slot : ℕ) (nodes : List Bytes) → All (WholeBlock g) nodes →
      All (WholeStore g) (node_stores g number slot nodes)
  unfolding node_stores
  node_stores_whole number slot [] h = tt
  node_stores_whole number slot (node ∷ below) h =
      all_append (WholeStore g) (node_stores g number slot below) _ (node_stores_whole number slot below h.1)
      (length-linked_node number slot (length below) node h.0, tt)

  random_blocks_whole :
      (address count : ℕ) (random : Bytes) → count * g.block_size ≤ length random →
      All (WholeStore g) (random_blocks g address count random)
  unfolding random_blocks
  random_blocks_whole address zero random h = tt
  random_blocks_whole address (suc count) random h = (
    length-take-le g.block_size random (omega arith),
    random_blocks_whole (suc address) count (drop g.block_size random) (simp length-drop (omega arith)),
  )

  zero_blocks_whole : (count : ℕ) → All (WholeBlock g) (replicate count (zero_block g.block_size))
  zero_blocks_whole zero = tt
  zero_blocks_whole (suc count) = (length-replicate g.block_size 0, zero_blocks_whole count)

  module _ (disk : Bytes) (whole : length disk ≡ block_count g * g.block_size) where
    pub block_at_whole :
        (address : DiskAddress) → address < block_count g → WholeBlock g (block_at (block_width g) disk address)
    block_at_whole address h = length-block_at (block_width g) disk (block_count g) whole address h

    root_whole : WholeBlock g (block_at (block_width g) disk (root_address g))
    root_whole = block_at_whole (root_address g) (root_address_lt g)

    kept_blocks_whole :
        (address count : ℕ) → address + count ≤ block_count g →
        All (WholeStore g) (kept_blocks g disk address count)
    unfolding kept_blocks
    kept_blocks_whole address zero h = tt
    kept_blocks_whole address (suc count) h =
        (block_at_whole address (omega arith), kept_blocks_whole (suc address) count (omega arith))

    -- ---- the nodes of a walk ----

    ended_nodes :
        (node : Bytes) (level : ℕ) → WholeBlock g node →
        Nodes g (suc level) (node ∷ replicate level (zero_block g.block_size))
    ended_nodes node level h =
        record {
          counted = ap suc (length-replicate level (zero_block g.block_size));
          whole = (h, zero_blocks_whole level);
        }

    walk_from_nodes :
        (number level : ℕ) (node : Bytes) → WholeBlock g node →
        Nodes g (suc level) (walk_from g disk number level node).nodes
    unfolding walk_from
    walk_from_nodes number zero node h = ended_nodes node 0 h
    walk_from_nodes number (suc level) node h =
        cond_cases Done (eqb entry 0) (λ _. ended_nodes node (suc level) h)
        (λ _. cond_cases Done (is_well_formed g (suc level) entry)
        (λ e. inner (walk_from_nodes number level (block_at (block_width g) disk entry)
        (block_at_whole entry (slot_block_of g (suc level) entry e).address_inside)))
        (λ _. ended_nodes node (suc level) h))
      where
        entry : ℕ
        entry = entry_at (branch_at g number (suc level)) node

        Done : Walk → Type 0
        Done w = Nodes g (suc (suc level)) w.nodes

        inner : {nodes : List Bytes} → Nodes g (suc level) nodes → Nodes g (suc (suc level)) (node ∷ nodes)
        inner below = record { counted = ap suc below.counted; whole = (h, below.whole) }

    -- a walk has a node for each level of the tree
    pub walk_nodes_sized : (number : ℕ) → Nodes g g.height (walk g disk number).nodes
    walk_nodes_sized number =
        let e : suc (g.height - 1) ≡ g.height = omega (arith, f.height_low) in
        rw e at (walk_from_nodes number (g.height - 1)
        (block_at (block_width g) disk (root_address g)) root_whole)

    module _ (slot : ℕ) (inside : slot < g.slots) where
      -- ---- the three kinds of trace ----

      slot_then_root :
          (xs : Trace) → addresses xs ≡ addresses_from (slot_start g slot + 1) g.height →
          All (WholeStore g) xs → Hides g slot (xs ++ (kept_block g disk (root_address g) ∷ []))
      unfolding addresses
      slot_then_root xs e h =
          record {
            runs = addresses-append xs (kept_block g disk (root_address g) ∷ []) ∙ rw e;
            whole = all_append (WholeStore g) xs _ h (root_whole, tt);
          }

      pub written_back_hides : Hides g slot (written_back g disk slot)
      written_back_hides =
          slot_then_root (kept_blocks g disk (slot_start g slot + 1) g.height)
          (addresses-kept_blocks g disk (slot_start g slot + 1) g.height)
          (kept_blocks_whole (slot_start g slot + 1) g.height
          (omega (arith, slot_block_lt g slot g.height inside (omega arith))))

      pub dummy_stores_hides :
          (random : Bytes) → g.height * g.block_size ≤ length random →
          Hides g slot (dummy_stores g disk slot random)
      dummy_stores_hides random h =
          slot_then_root (random_blocks g (slot_start g slot + 1) g.height random)
          (addresses-random_blocks g (slot_start g slot + 1) g.height random)
          (random_blocks_whole (slot_start g slot + 1) g.height random h)

      pub path_stores_hides :
          (number : ℕ) (content : Bytes) (nodes : List Bytes) → WholeBlock g content →
          Nodes g g.height nodes → Hides g slot (path_stores g number slot content nodes)
      unfolding addresses path_stores
      path_stores_hides number content [] sized n = absurd (omega (arith, f.height_low))
      path_stores_hides number content (root ∷ below) sized n =
          let e : suc (length below) ≡ g.height = n.counted in
          let r : slot_start g slot + g.height ≡ slot_start g slot + 1 + length below = omega arith in
          record {
            runs =
                addresses-append (node_stores g number slot below) _
                ∙ ap₂ (λ (front : List ℕ) (last : ℕ). front ++ (last ∷ root_address g ∷ []))
                (addresses-node_stores g number slot below) r
                ∙ sym (append_assoc (addresses_from (slot_start g slot + 1) (length below)) _ _)
                ∙ ap (λ (front : List ℕ). front ++ (root_address g ∷ []))
                (sym (addresses_from_snoc (slot_start g slot + 1) (length below))
                ∙ ap (addresses_from (slot_start g slot + 1)) e);
            whole =
                all_append (WholeStore g) (node_stores g number slot below) _
                (node_stores_whole number slot below n.whole.1)
                (sized, (length-linked_node number slot (length below) root n.whole.0, tt));
          }

      pub current_path_hides :
          (number : ℕ) (content : Bytes) → WholeBlock g content →
          Hides g slot (current_path g disk number slot content)
      current_path_hides number content sized =
          path_stores_hides number content (walk g disk number).nodes sized (walk_nodes_sized number)
