-- Laws of the stores of a slot's hidden blocks and of the root: where the blocks stand, a node with its
-- entry, blocks one after another by their indices, and both ways without a path by their places, which are
-- counted from 1. Assumes nothing.
use mathlib.Core.Path.{◌≡◌, refl, sym, ap, ◌∙◌}
use mathlib.Core.Logic.{◌≢◌, ◌⊎◌, inl, inr}
use mathlib.Core.List.{List, [], ◌∷◌, ◌++◌}
use Prim.Native.Nat.{ℕ, zero, suc, ◌+◌, ◌*◌, ◌-◌, ◌≤◌, ◌<◌}
use native.Mathlib.Nat.{suc-mul, mul-le-mul_right}
use native.Mathlib.Omega.{arith}
use lib.ListN.{length, drop, get_or, length-append, get_or-append}
use lib.Seq.{drop-drop, get_or_at}
use Rattle.laws.proofs.Cases.{lt_cases}
use Rattle.laws.proofs.Lists.{part_is}
use Rattle.model.specs.Geometry.{Geometry, fanout, root_address, block_width}
use Rattle.model.specs.Blocks.{Bytes, block_at, set_entry}
use Rattle.model.specs.Layout.{slot_start, level_address}
use Rattle.model.specs.HiddenTree.{branch_at}
use Rattle.model.specs.Stores.{Trace, store}
use Rattle.model.specs.Paths.{linked_node, node_stores, path_stores, kept_block, kept_blocks, written_back}
use Rattle.model.specs.Paths.{random_blocks, dummy_stores}
use Rattle.model.proofs.Laws.Blocks.{block_at_is}

-- ---- where a slot's blocks stand ----

-- a block of a level of some slot is none of a slot's blocks of lower places
pub slot_block_apart :
    (g : Geometry) (slot other level place : ℕ) → level < g.height → place < suc level →
    slot_start g other + suc level ≢ slot_start g slot + place
slot_block_apart g slot other level place h l e = by (lt_cases other slot)
  where
    by : (other < slot) ⊎ (slot ≤ other) → ⊥
    by (inl k) = omega (arith, mul-le-mul_right (g.height + 1) k, suc-mul other (g.height + 1))
    by (inr k) = omega (arith, mul-le-mul_right (g.height + 1) k)

-- ---- a path ----

module _ (g : Geometry) (number slot : ℕ) where
  pub linked_node_leaf :
      (level : ℕ) (node : Bytes) → level ≡ 0 →
      linked_node g number slot level node ≡
      set_entry (fanout g - 1) number (set_entry (branch_at g number level) (level_address g slot level) node)
  unfolding linked_node
  linked_node_leaf zero node z = refl
  linked_node_leaf (suc level) node z = absurd (omega arith)

  pub linked_node_above :
      (level : ℕ) (node : Bytes) → level ≢ 0 →
      linked_node g number slot level node ≡
      set_entry (branch_at g number level) (level_address g slot level) node
  unfolding linked_node
  linked_node_above zero node h = absurd (h refl)
  linked_node_above (suc level) node h = refl

  -- the highest node is stored last
  pub node_stores-cons :
      (node : Bytes) (below : List Bytes) →
      node_stores g number slot (node ∷ below) ≡
      node_stores g number slot below ++
      (store (level_address g slot (suc (length below))) (linked_node g number slot (length below) node) ∷ [])
  unfolding node_stores
  node_stores-cons node below = refl

  pub length-node_stores : (nodes : List Bytes) → length (node_stores g number slot nodes) ≡ length nodes
  unfolding node_stores
  length-node_stores [] = refl
  length-node_stores (node ∷ below) = simp length-append (omega (arith, length-node_stores below))

  -- the nodes below the root, then the data, then the root
  pub path_stores-cons :
      (content root : Bytes) (below : List Bytes) →
      path_stores g number slot content (root ∷ below) ≡
      node_stores g number slot below ++
      (store (level_address g slot 0) content ∷
      store (root_address g) (linked_node g number slot (length below) root) ∷ [])
  unfolding path_stores
  path_stores-cons content root below = refl

-- ---- blocks written back, one after another ----

length-kept_blocks :
    (g : Geometry) (disk : Bytes) (address count : ℕ) → length (kept_blocks g disk address count) ≡ count
unfolding kept_blocks
length-kept_blocks g disk address zero = refl
length-kept_blocks g disk address (suc count) = ap suc (length-kept_blocks g disk (suc address) count)

get_d-kept_blocks :
    (g : Geometry) (disk : Bytes) (address count index : ℕ) → index < count →
    get_or (kept_blocks g disk address count) index (store 0 []) ≡ kept_block g disk (address + index)
unfolding kept_blocks
get_d-kept_blocks g disk address zero index h = absurd (omega arith)
get_d-kept_blocks g disk address (suc count) zero h =
    let e : address + 0 ≡ address = omega arith in rw e
get_d-kept_blocks g disk address (suc count) (suc index) h =
    let e : suc address + index ≡ address + suc index = omega arith in
    get_d-kept_blocks g disk (suc address) count index (omega arith) ∙ rw e

-- ---- random blocks, one after another ----

length-random_blocks :
    (g : Geometry) (address count : ℕ) (random : Bytes) → length (random_blocks g address count random) ≡ count
unfolding random_blocks
length-random_blocks g address zero random = refl
length-random_blocks g address (suc count) random =
    ap suc (length-random_blocks g (suc address) count (drop g.block_size random))

get_d-random_blocks :
    (g : Geometry) (address count index : ℕ) (random : Bytes) → index < count →
    get_or (random_blocks g address count random) index (store 0 []) ≡
    store (address + index) (block_at (block_width g) random index)
unfolding random_blocks
get_d-random_blocks g address zero index random h = absurd (omega arith)
get_d-random_blocks g address (suc count) zero random h =
    let e : address + 0 ≡ address = omega arith in
    let z : 0 * g.block_size ≡ 0 = omega arith in
    rw (e, block_at_is (block_width g) random 0, z, part_is 0 g.block_size random)
get_d-random_blocks g address (suc count) (suc index) random h =
    let width = g.block_size in
    let rest = drop width random in
    let e : suc address + index ≡ address + suc index = omega arith in
    let m : width + index * width ≡ suc index * width = omega (arith, suc-mul index width) in
    get_d-random_blocks g (suc address) count index rest (omega arith)
    ∙ rw (
      e,
      block_at_is width rest index,
      part_is (index * width) width rest,
      block_at_is width random (suc index),
      part_is (suc index * width) width random,
      drop-drop (index * width) width random,
      m,
    )

-- ---- with the root after them, by their places ----

module _ (g : Geometry) (disk : Bytes) (slot : ℕ) where
  pub length-written_back : length (written_back g disk slot) ≡ g.height + 1
  length-written_back =
      simp length-append (omega (arith, length-kept_blocks g disk (slot_start g slot + 1) g.height))

  pub length-dummy_stores : (random : Bytes) → length (dummy_stores g disk slot random) ≡ g.height + 1
  length-dummy_stores random =
      simp length-append (omega (arith, length-random_blocks g (slot_start g slot + 1) g.height random))

  module _ (place : ℕ) where
    -- the root written back after so many blocks as the tree is high
    then_root :
        (hidden : Trace) → length hidden ≡ g.height → place ≡ g.height + 1 →
        get_or (hidden ++ (kept_block g disk (root_address g) ∷ [])) (place - 1) (store 0 []) ≡
        kept_block g disk (root_address g)
    then_root hidden long e =
        get_or_at hidden (kept_block g disk (root_address g)) [] (store 0 []) (place - 1) (omega arith)

    pub get_d-written_back :
        1 ≤ place → place ≤ g.height →
        get_or (written_back g disk slot) (place - 1) (store 0 []) ≡ kept_block g disk (slot_start g slot + place)
    get_d-written_back low high =
        let e : slot_start g slot + 1 + (place - 1) ≡ slot_start g slot + place = omega arith in
        get_or-append (kept_blocks g disk (slot_start g slot + 1) g.height) _ (store 0 []) (place - 1)
        (omega (arith, length-kept_blocks g disk (slot_start g slot + 1) g.height))
        ∙ get_d-kept_blocks g disk (slot_start g slot + 1) g.height (place - 1) (omega arith)
        ∙ ap (kept_block g disk) e

    pub get_d-written_back_root :
        place ≡ g.height + 1 →
        get_or (written_back g disk slot) (place - 1) (store 0 []) ≡ kept_block g disk (root_address g)
    get_d-written_back_root e =
        then_root (kept_blocks g disk (slot_start g slot + 1) g.height)
        (length-kept_blocks g disk (slot_start g slot + 1) g.height) e

    module _ (random : Bytes) where
      pub get_d-dummy_stores :
          1 ≤ place → place ≤ g.height →
          get_or (dummy_stores g disk slot random) (place - 1) (store 0 []) ≡
          store (slot_start g slot + place) (block_at (block_width g) random (place - 1))
      get_d-dummy_stores low high =
          let e : slot_start g slot + 1 + (place - 1) ≡ slot_start g slot + place = omega arith in
          get_or-append (random_blocks g (slot_start g slot + 1) g.height random) _ (store 0 [])
          (place - 1) (omega (arith, length-random_blocks g (slot_start g slot + 1) g.height random))
          ∙ get_d-random_blocks g (slot_start g slot + 1) g.height (place - 1) random (omega arith)
          ∙ ap (λ (address : ℕ). store address (block_at (block_width g) random (place - 1))) e

      -- the root is as where the blocks are written back
      pub get_d-dummy_stores_root :
          place ≡ g.height + 1 →
          get_or (dummy_stores g disk slot random) (place - 1) (store 0 []) ≡
          get_or (written_back g disk slot) (place - 1) (store 0 [])
      get_d-dummy_stores_root e =
          then_root (random_blocks g (slot_start g slot + 1) g.height random)
          (length-random_blocks g (slot_start g slot + 1) g.height random) e
          ∙ sym (get_d-written_back_root e)
