-- Laws of a path's stores by their places, which are counted from 1: its nodes from the leaf up, data and
-- root; and how many stores a slot has. Assumes nothing.
use mathlib.Core.Path.{◌≡◌, ap, ◌∙◌}
use mathlib.Core.Logic.{◌⊎◌, inl, inr}
use mathlib.Core.List.{[], ◌∷◌, ◌++◌}
use mathlib.Core.Option.{Option}
use Prim.Native.Nat.{ℕ, zero, suc, ◌+◌, ◌-◌, ◌≤◌, ◌<◌}
use native.Mathlib.Omega.{arith}
use lib.ListN.{length, length-append}
use lib.Seq.{get_or_at}
use Rattle.laws.proofs.Cases.{lt_cases}
use Rattle.model.specs.Geometry.{Geometry, Fits, root_address, block_width}
use Rattle.model.specs.Blocks.{Bytes, DiskAddress, block_at}
use Rattle.model.specs.Layout.{level_address}
use Rattle.model.specs.Stores.{Store, Trace, store}
use Rattle.model.specs.Paths.{linked_node, node_stores, path_stores}
use Rattle.model.proofs.Laws.SlotStores.{node_stores-cons, length-node_stores, path_stores-cons}
use Rattle.model.proofs.Laws.SlotStores.{length-written_back, length-dummy_stores}
use Rattle.hidden_map.specs.Nodes.{address_at, block_of_node, node_blocks, path_blocks}
use Rattle.hidden_map.proofs.Laws.Nodes.{node_blocks_suc, length-node_blocks}
use Rattle.plans.specs.declared.hidden_plans.HiddenPlan.{HiddenPlan}
use Rattle.plans.specs.declared.hidden_plans.HiddenPlan.TheVariants.{Back, Path, Fill}
use Rattle.plans.specs.declared.public_plans.PublicPlan.{PublicPlan}
use Rattle.plans.specs.HiddenPlans.{data_of, hidden_trace}
use Rattle.stores.specs.Described.{store_at}
use Rattle.stores.proofs.Laws.Described.{store_at_first, store_at_past}
use Rattle.slot_stores.specs.Slots.{slot_trace}

-- ---- the nodes of a path ----

module _ (g : Geometry) (number slot : ℕ) (disk : Bytes) (at : ℕ → Option DiskAddress) where
  -- the stores of so many of the lowest nodes, each read where it is said to be
  abbrev lowest_stores : (count : ℕ) → Trace
  lowest_stores count = node_stores g number slot (node_blocks g disk at count)

  -- the store of the node whose entry is of this level
  abbrev node_store : (level : ℕ) → Store
  node_store level =
      store (level_address g slot (suc level))
      (linked_node g number slot level (block_of_node g disk (at (suc level))))

  length-lowest_stores : (count : ℕ) → length (lowest_stores count) ≡ count
  length-lowest_stores count =
      length-node_stores g number slot (node_blocks g disk at count) ∙ length-node_blocks g disk at count

  -- one more node is stored last
  lowest_stores_suc : (count : ℕ) → lowest_stores (suc count) ≡ lowest_stores count ++ (node_store count ∷ [])
  lowest_stores_suc count =
      rw (node_blocks_suc g disk at count, node_stores-cons, length-node_blocks g disk at count)

  store_at-lowest_stores :
      (count level : ℕ) → level < count → store_at level (lowest_stores count) ≡ node_store level
  store_at-lowest_stores zero level h = absurd (omega arith)
  store_at-lowest_stores (suc count) level h =
      ap (store_at level) (lowest_stores_suc count)
      ∙ by (store_at-lowest_stores count level) (lt_cases level count)
    where
      by : (level < count → store_at level (lowest_stores count) ≡ node_store level) →
          (level < count) ⊎ (count ≤ level) →
          store_at level (lowest_stores count ++ (node_store count ∷ [])) ≡ node_store level
      by earlier (inl l) =
          store_at_first (lowest_stores count) (node_store count ∷ []) count level
          (length-lowest_stores count) l
          ∙ earlier l
      by earlier (inr l) =
          let e : count ≡ level = omega arith in
          get_or_at (lowest_stores count) (node_store count) [] (store 0 []) level
          (length-lowest_stores count ∙ e)
          ∙ ap node_store e

-- ---- a path ----

-- a path's stores: its lowest nodes, then data and root
path_is :
    (g : Geometry) (number slot : ℕ) (content disk : Bytes) (at : ℕ → Option DiskAddress) →
    path_stores g number slot content (path_blocks g disk at) ≡
    lowest_stores g number slot disk at (g.height - 1) ++
    (store (level_address g slot 0) content ∷
    store (root_address g) (linked_node g number slot (g.height - 1)
    (block_at (block_width g) disk (root_address g))) ∷ [])
path_is g number slot content disk at = rw (path_stores-cons, length-node_blocks g disk at (g.height - 1))

module _ (g : Geometry) (fits : Fits g) (number slot place : ℕ) (content disk : Bytes)
    (at : ℕ → Option DiskAddress) where
  -- the nodes below the root
  abbrev below : Trace
  below = lowest_stores g number slot disk at (g.height - 1)

  -- data and root
  abbrev last : Trace
  last =
      store (level_address g slot 0) content ∷
      store (root_address g) (linked_node g number slot (g.height - 1)
      (block_at (block_width g) disk (root_address g))) ∷ []

  long_below : length below ≡ g.height - 1
  long_below = length-lowest_stores g number slot disk at (g.height - 1)

  -- from the data on
  store_at_last :
      g.height ≤ place → store_at (place - 1) (path_stores g number slot content (path_blocks g disk at)) ≡
      store_at (place - g.height) last
  store_at_last h =
      let e : place - 1 - (g.height - 1) ≡ place - g.height = omega (arith, fits.height_low) in
      ap (store_at (place - 1)) (path_is g number slot content disk at)
      ∙ store_at_past below last (g.height - 1) (place - 1) long_below (omega arith)
      ∙ ap (λ (n : ℕ). store_at n last) e

  pub store_at_path-node :
      1 ≤ place → place < g.height →
      store_at (place - 1) (path_stores g number slot content (path_blocks g disk at)) ≡
      store (level_address g slot place) (linked_node g number slot (place - 1) (block_of_node g disk (at place)))
  store_at_path-node low h =
      let e : suc (place - 1) ≡ place = omega arith in
      ap (store_at (place - 1)) (path_is g number slot content disk at)
      ∙ store_at_first below last (g.height - 1) (place - 1) long_below (omega arith)
      ∙ store_at-lowest_stores g number slot disk at (g.height - 1) (place - 1) (omega arith)
      ∙ ap (λ (level : ℕ). store (level_address g slot level)
      (linked_node g number slot (place - 1) (block_of_node g disk (at level)))) e

  pub store_at_path_data :
      place ≡ g.height → store_at (place - 1) (path_stores g number slot content (path_blocks g disk at)) ≡
      store (level_address g slot 0) content
  store_at_path_data h =
      let e : place - g.height ≡ 0 = omega arith in
      store_at_last (omega arith) ∙ ap (λ (n : ℕ). store_at n last) e

  pub store_at_path_root :
      place ≡ g.height + 1 → store_at (place - 1) (path_stores g number slot content (path_blocks g disk at)) ≡
      store (root_address g) (linked_node g number slot (g.height - 1)
      (block_at (block_width g) disk (root_address g)))
  store_at_path_root h =
      let e : place - g.height ≡ 1 = omega arith in
      store_at_last (omega arith) ∙ ap (λ (n : ℕ). store_at n last) e

-- ---- lengths ----

length_path :
    (g : Geometry) → Fits g → (number slot : ℕ) (content disk : Bytes) (at : ℕ → Option DiskAddress) →
    length (path_stores g number slot content (path_blocks g disk at)) ≡ g.height + 1
length_path g f number slot content disk at =
    ap length (path_is g number slot content disk at)
    ∙ simp length-append
    (omega (arith, f.height_low, length-lowest_stores g number slot disk at (g.height - 1)))

length-hidden_trace :
    (g : Geometry) → Fits g → (disk blocks random : Bytes) (slot : ℕ) (plan : HiddenPlan) →
    length (hidden_trace plan g disk slot blocks random) ≡ g.height + 1
length-hidden_trace g f disk blocks random slot Back = length-written_back g disk slot
length-hidden_trace g f disk blocks random slot (Path number nodes which) =
    length_path g f number.0 slot (data_of which g disk slot blocks) disk (address_at nodes)
length-hidden_trace g f disk blocks random slot Fill = length-dummy_stores g disk slot random

pub length-slot_trace :
    (g : Geometry) → Fits g → (disk content blocks random : Bytes) (slot : ℕ) (public : PublicPlan)
    (hidden : HiddenPlan) →
    length (slot_trace public hidden g disk slot content blocks random) ≡ g.height + 2
length-slot_trace g f disk content blocks random slot public hidden =
    omega (arith, length-hidden_trace g f disk blocks random slot hidden)
