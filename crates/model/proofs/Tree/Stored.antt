-- What a hidden half's stores leave in each block: of a path its nodes, its data and its root, of random
-- blocks the root. Assumes nothing.
use mathlib.Core.Path.{◌≡◌, refl, sym, ap, ◌∙◌}
use mathlib.Core.Logic.{⊎_elim}
use mathlib.Core.List.{[], ◌∷◌}
use Prim.Native.Nat.{ℕ, zero, suc, ◌+◌, ◌≤◌, ◌<◌}
use native.Mathlib.Omega.{arith}
use Rattle.laws.proofs.Cases.{eq_cases}
use Rattle.model.specs.Geometry.{Geometry, root_address, block_width}
use Rattle.model.specs.Blocks.{Bytes, DiskAddress, block_at}
use Rattle.model.specs.Layout.{slot_start, level_address}
use Rattle.model.specs.Stores.{Store, Trace, store}
use Rattle.model.specs.Paths.{linked_node, node_stores, path_stores, kept_block, random_blocks, dummy_stores}
use Rattle.model.proofs.Laws.Stores.{last_at, last_at_nil, last_at-append, last_at_same, last_at_other}
use Rattle.model.proofs.Laws.RoundParts.{RoundParts, block_at_parts_root, block_at_parts_place}
use Rattle.model.proofs.Laws.RoundParts.{block_at_parts_place_other}
use Rattle.model.proofs.Tree.Ghost.{Tree, node_at, nodes_from, length-nodes_from}
use Rattle.model.proofs.Tree.Planted.{Apart}

-- a disk whose hidden blocks and root are those that a trace for a slot leaves of another disk
pub record StoredBy (g : Geometry) (slot : ℕ) (disk after : Bytes) (trace : Trace) : Type 0 where
  pub in_root_lem :
      block_at (block_width g) after (root_address g) ≡
      last_at trace (root_address g) (block_at (block_width g) disk (root_address g))
  pub in_slot :
      (place : ℕ) → 1 ≤ place → place ≤ g.height →
      block_at (block_width g) after (slot_start g slot + place) ≡
      last_at trace (slot_start g slot + place) (block_at (block_width g) disk (slot_start g slot + place))
  pub apart : Apart g disk after slot

-- of a round, all of its stores or some, the hidden half's are the trace
pub stored_of_parts :
    {g : Geometry} {slot : ℕ} {disk after : Bytes} {public : Store} {hidden map header : Trace} →
    RoundParts g slot disk after public hidden map header → StoredBy g slot disk after hidden
stored_of_parts {slot = slot} parts =
    record {
      in_root_lem = block_at_parts_root parts;
      in_slot = block_at_parts_place parts slot;
      apart = λ other place h ne low high. block_at_parts_place_other parts other place low high ne;
    }

-- ---- a path ----

module _ (g : Geometry) (disk : Bytes) (tree : Tree) (number slot : ℕ) where
  last_at-node_stores : (level place : ℕ) (old : Bytes) → place < level →
      last_at (node_stores g number slot (nodes_from g disk tree number level))
      (level_address g slot (suc place)) old ≡
      linked_node g number slot place (node_at g disk tree (suc place) number)
  unfolding node_stores nodes_from
  last_at-node_stores zero place old h = absurd (omega arith)
  last_at-node_stores (suc level) place old h =
      let address = level_address g slot (suc place) in
      let last = store (level_address g slot (suc level))
      (linked_node g number slot level (node_at g disk tree (suc level) number)) in
      rw (length-nodes_from g disk tree number level)
      (last_at-append (node_stores g number slot (nodes_from g disk tree number level)) (last ∷ []) address old
      ∙ ⊎_elim
      (λ e.
      last_at_same last [] address _ (ap (λ (n : ℕ). level_address g slot (suc n)) e) ∙ last_at_nil address _
      ∙ ap (λ (n : ℕ). linked_node g number slot n (node_at g disk tree (suc n) number)) (sym e))
      (λ ne.
      last_at_other last [] address _ (λ z. omega arith) ∙ last_at_nil address _
      ∙ last_at-node_stores level place old (omega arith))
      (eq_cases place level))

  module _ (content : Bytes) (level : ℕ) (top : suc level ≡ g.height) where
    abbrev path : Trace
    path = path_stores g number slot content (nodes_from g disk tree number (suc level))

    abbrev data_store : Store
    data_store = store (level_address g slot 0) content

    abbrev root_store : Store
    root_store = store (root_address g) (linked_node g number slot level (node_at g disk tree (suc level) number))

    -- its data and its root come last
    last_at_path : (address : DiskAddress) (old : Bytes) →
        last_at path address old ≡
        last_at (data_store ∷ root_store ∷ []) address
        (last_at (node_stores g number slot (nodes_from g disk tree number level)) address old)
    unfolding path_stores nodes_from
    last_at_path address old =
        rw (length-nodes_from g disk tree number level)
        (last_at-append (node_stores g number slot (nodes_from g disk tree number level))
        (data_store ∷ root_store ∷ []) address old)

    pub path_node : (place : ℕ) (old : Bytes) → place < level →
        last_at path (level_address g slot (suc place)) old ≡
        linked_node g number slot place (node_at g disk tree (suc place) number)
    path_node place old h =
        let address = level_address g slot (suc place) in
        last_at_path address old ∙ last_at_other data_store (root_store ∷ []) address _ (λ z. omega arith)
        ∙ last_at_other root_store [] address _ (λ z. omega arith) ∙ last_at_nil address _
        ∙ last_at-node_stores level place old h

    pub path_data : (old : Bytes) → last_at path (level_address g slot 0) old ≡ content
    path_data old =
        let address = level_address g slot 0 in
        last_at_path address old ∙ last_at_same data_store (root_store ∷ []) address _ refl
        ∙ last_at_other root_store [] address _ (λ z. omega arith) ∙ last_at_nil address content

    pub path_root : (old : Bytes) →
        last_at path (root_address g) old ≡
        linked_node g number slot level (node_at g disk tree (suc level) number)
    path_root old =
        last_at_path (root_address g) old ∙ last_at_other data_store (root_store ∷ []) (root_address g) _
        (λ z. omega arith)
        ∙ last_at_same root_store [] (root_address g) _ refl ∙ last_at_nil (root_address g) _

-- ---- random blocks ----

pub dummy_root : (g : Geometry) (disk : Bytes) (slot : ℕ) (random : Bytes) →
    last_at (dummy_stores g disk slot random) (root_address g) (block_at (block_width g) disk (root_address g)) ≡
    block_at (block_width g) disk (root_address g)
dummy_root g disk slot random =
    last_at-append (random_blocks g (slot_start g slot + 1) g.height random)
    (kept_block g disk (root_address g) ∷ []) (root_address g) _
    ∙ last_at_same (kept_block g disk (root_address g)) [] (root_address g) _ refl ∙ last_at_nil (root_address g) _
