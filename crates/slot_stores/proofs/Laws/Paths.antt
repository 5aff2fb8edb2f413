-- Laws of what describes the stores of a path: its nodes, its data, the root, then each of them by its place.
-- Assumes nothing.
use mathlib.Core.Path.{◌≡◌, refl, sym, ap, ap₂, ◌∙◌}
use mathlib.Core.Logic.{◌≢◌, inl, inr}
use mathlib.Core.Option.{Option, none}
use Prim.Native.Nat.{ℕ, ◌+◌, ◌-◌, ◌≤◌, ◌<◌}
use native.Mathlib.Omega.{arith}
use Rattle.std.specs.Prelude.{Some, None}
use Rattle.std.specs.Prelude as code
use Rattle.model.specs.Geometry.{Geometry, Fits, fanout, root_address, block_width}
use Rattle.model.specs.Blocks.{Bytes, block_at, set_entry}
use Rattle.model.specs.Layout.{level_address}
use Rattle.model.specs.HiddenTree.{branch_at}
use Rattle.model.specs.Stores.{store}
use Rattle.model.specs.Paths.{linked_node, path_stores}
use Rattle.model.proofs.Laws.Geometry.{root_address_lt}
use Rattle.model.proofs.Laws.Slots.{level_address_lt}
use Rattle.model.proofs.Laws.Paths.{branch_at_fits}
use Rattle.model.proofs.Laws.SlotStores.{linked_node_leaf, linked_node_above}
use Rattle.layout.specs.declared.numbers.DiskAddress.{DiskAddress}
use Rattle.hidden_map.specs.Nodes.{node_of, block_of_node, path_blocks, StandsByLevel}
use Rattle.plans.specs.declared.hidden_plans.Data.{Data}
use Rattle.plans.specs.declared.hidden_plans.Data.TheVariants.{Own, Offered}
use Rattle.plans.specs.HiddenPlans.{data_of, offered_in}
use Rattle.stores.specs.declared.changes.Change.{Change}
use Rattle.stores.specs.declared.changes.Change.TheVariants.{Nothing, Entry}
use Rattle.stores.specs.declared.descriptors.Source.{Source}
use Rattle.stores.specs.declared.descriptors.Descriptor.{Descriptor}
use Rattle.stores.specs.Changes.{changed, Inside}
use Rattle.stores.specs.Descriptors.{source_block, own_of}
use Rattle.stores.specs.Described.{store_at, Takes, Describes}
use Rattle.slot_stores.specs.Slots.{SlotPlace}
use Rattle.slot_stores.specs.Sources.{node_source, data_source}
use Rattle.slot_stores.proofs.Laws.Places.{store_at_path-node, store_at_path_data, store_at_path_root}
use Rattle.stores.proofs.Laws.Described.{describes_own, describes_same, describes_offering}

-- ---- a node ----

node_source_block :
    (node : code.Option DiskAddress) (g : Geometry) (disk content blocks random : Bytes) →
    source_block (node_source node) g disk content blocks random ≡ block_of_node g disk (node_of node)
node_source_block (Some address) g disk content blocks random = refl
node_source_block None g disk content blocks random = refl

node_source_takes :
    (node : code.Option DiskAddress) (g : Geometry) (at : ℕ → Option ℕ) (level own : ℕ) → StandsByLevel g at →
    level < g.height →
    node_of node ≡ at level → Takes g none level own (node_source node)
node_source_takes (Some address) g at level own placed high e =
    inr (high, placed.well_formed level address.0 (sym e))
node_source_takes None g at level own placed high e = tt

-- what the node of a level is stored with: where it goes, its entry, which leads to the slot's block of the
-- level below, and the node that it is taken from
pub record NodeLinked (g : Geometry) (slot number level : ℕ) (at : ℕ → Option ℕ) (address below : DiskAddress)
    (branch : ℕ) (node : code.Option DiskAddress) (taken : Source) : Type 0 where
  pub at_level : SlotPlace g slot 1 g.height level
  pub placed : StandsByLevel g at
  pub to : address.0 ≡ level_address g slot level
  pub under : below.0 ≡ level_address g slot (level - 1)
  pub branches : branch ≡ branch_at g number (level - 1)
  pub read : node_of node ≡ at level
  pub takes : taken ≡ node_source node

module _ {g : Geometry} {slot number level : ℕ} {at : ℕ → Option ℕ} {address below : DiskAddress} {branch : ℕ}
    {node : code.Option DiskAddress} {taken : Source}
    (l : NodeLinked g slot number level at address below branch node taken) where
  -- what is taken is the level's node
  node_block :
      (disk content blocks random : Bytes) →
      source_block taken g disk content blocks random ≡ block_of_node g disk (at level)
  node_block disk content blocks random =
      rw l.takes (node_source_block node g disk content blocks random ∙ ap (block_of_node g disk) l.read)

  -- and it takes one entry
  node_entry :
      (disk content blocks random : Bytes) →
      set_entry branch below.0 (source_block taken g disk content blocks random) ≡
      set_entry (branch_at g number (level - 1)) (level_address g slot (level - 1))
      (block_of_node g disk (at level))
  node_entry disk content blocks random =
      ap₂ (λ (b a : ℕ). set_entry b a (source_block taken g disk content blocks random)) l.branches
      l.under
      ∙ ap (set_entry (branch_at g number (level - 1)) (level_address g slot (level - 1)))
      (node_block disk content blocks random)

  -- what is stored with this second change is the level's node
  abbrev OfNode : (second : Change) → Type 0
  OfNode second =
      Describes g none level (λ disk content blocks random.
      store (level_address g slot level)
      (linked_node g number slot (level - 1) (block_of_node g disk (at level))))
      (record {
        address = address;
        source = taken;
        first = Entry branch below.0;
        second = second;
      })

  -- if that change makes of the node with its entry the one that is stored
  node_described :
      (second : Change) → Inside (block_width g) second →
      ((block : Bytes) →
      changed second
      (set_entry (branch_at g number (level - 1)) (level_address g slot (level - 1)) block) ≡
      linked_node g number slot (level - 1) block) →
      OfNode second
  node_described second within links =
      record {
        means = λ disk content blocks random.
            ap₂ store l.to
            (ap (changed second) (node_entry disk content blocks random)
            ∙ links (block_of_node g disk (at level)));
        address_inside =
            rw l.to (level_address_lt g slot level l.at_level.slot_inside l.at_level.high);
        first_inside = rw l.branches (branch_at_fits g l.at_level.fits number (level - 1));
        second_inside = within;
        takes =
            rw l.takes
            (node_source_takes node g at level address.0 l.placed l.at_level.high l.read);
      }

  pub leaf_described : level ≡ 1 → OfNode (Entry (fanout g - 1) number)
  leaf_described e =
      let f = l.at_level.fits in
      node_described (Entry (fanout g - 1) number) (omega (arith, f.size_entries, f.size_low))
      (λ block. sym (linked_node_leaf g number slot (level - 1) block (omega arith)))

  pub above_described : level ≢ 1 → OfNode Nothing
  above_described ne =
      let higher : level - 1 ≢ 0 = λ z. ne (omega (arith, l.at_level.low)) in
      node_described Nothing tt (λ block. sym (linked_node_above g number slot (level - 1) block higher))

-- ---- data and root ----

data_source_takes :
    (which : Data) (g : Geometry) (place : ℕ) (own : DiskAddress) →
    Takes g (offered_in which) place own.0 (data_source own which)
data_source_takes Own g place own = inl refl
data_source_takes (Offered at) g place own = refl

data_source_block :
    (which : Data) (g : Geometry) (slot : ℕ) (own : DiskAddress) (disk content blocks random : Bytes) →
    own.0 ≡ level_address g slot 0 →
    source_block (data_source own which) g disk content blocks random ≡ data_of which g disk slot blocks
data_source_block Own g slot own disk content blocks random e = ap (block_at (block_width g) disk) e
data_source_block (Offered at) g slot own disk content blocks random e = refl

pub root_described :
    (g : Geometry) (fits : Fits g) (slot number branch : ℕ) (root below : DiskAddress) →
    root.0 ≡ root_address g → below.0 ≡ level_address g slot (g.height - 1) →
    branch ≡ branch_at g number (g.height - 1) →
    {descriptor : Descriptor} → descriptor ≡ own_of root (Entry branch below.0) Nothing →
    Describes g none (g.height + 1) (λ disk content blocks random.
    store (root_address g)
    (linked_node g number slot (g.height - 1) (block_at (block_width g) disk (root_address g)))) descriptor
root_described g fits slot number branch root below to under branches e =
    describes_own root (Entry branch below.0) Nothing e (rw to (root_address_lt g))
    (rw branches (branch_at_fits g fits number (g.height - 1))) tt
    (λ disk content blocks random.
    ap₂ store to
    (ap₂ (λ (b a : ℕ). set_entry b a (block_at (block_width g) disk root.0)) branches under
    ∙ ap (λ (a : ℕ). set_entry (branch_at g number (g.height - 1)) (level_address g slot (g.height - 1))
    (block_at (block_width g) disk a)) to
    ∙ sym (linked_node_above g number slot (g.height - 1) (block_at (block_width g) disk (root_address g))
    (λ z. omega (arith, fits.height_low)))))

-- ---- a path by its places ----

module _ (g : Geometry) (fits : Fits g) (number slot place : ℕ) (which : Data)
    (at : ℕ → Option ℕ) where
  -- it describes the store at the place
  abbrev OfPath : Descriptor → Type 0
  OfPath descriptor =
      Describes g (offered_in which) place (λ disk content blocks random.
      store_at (place - 1)
      (path_stores g number slot (data_of which g disk slot blocks) (path_blocks g disk at))) descriptor

  pub describes_path_node :
      {descriptor : Descriptor} → 1 ≤ place → place < g.height →
      Describes g none place (λ disk content blocks random.
      store (level_address g slot place)
      (linked_node g number slot (place - 1) (block_of_node g disk (at place)))) descriptor →
      OfPath descriptor
  describes_path_node low high d =
      describes_same (describes_offering d) refl
      (λ disk content blocks random.
      store_at_path-node g fits number slot place (data_of which g disk slot blocks) disk at low high)

  pub describes_path_data :
      {descriptor : Descriptor} → place ≡ g.height →
      Describes g (offered_in which) g.height (λ disk content blocks random.
      store (level_address g slot 0) (data_of which g disk slot blocks)) descriptor →
      OfPath descriptor
  describes_path_data e d =
      describes_same d e
      (λ disk content blocks random.
      store_at_path_data g fits number slot place (data_of which g disk slot blocks) disk at e)

  pub describes_path_root :
      {descriptor : Descriptor} → g.height < place → place < g.height + 2 →
      Describes g none (g.height + 1) (λ disk content blocks random.
      store (root_address g) (linked_node g number slot (g.height - 1)
      (block_at (block_width g) disk (root_address g)))) descriptor →
      OfPath descriptor
  describes_path_root low high d =
      let e : place ≡ g.height + 1 = omega arith in
      describes_same (describes_offering d) e
      (λ disk content blocks random.
      store_at_path_root g fits number slot place (data_of which g disk slot blocks) disk at e)
