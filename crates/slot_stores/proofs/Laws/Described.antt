-- Laws of what describes a slot's stores: the public block, blocks written back and random blocks, a plan
-- that is known, and all of them by their places. Assumes nothing.
use mathlib.Core.Path.{◌≡◌, refl, sym, ap, ◌∙◌}
use mathlib.Core.Option.{none}
use Prim.Native.Nat.{ℕ, ◌+◌, ◌-◌, ◌≤◌, ◌<◌}
use native.Mathlib.Omega.{arith}
use Rattle.model.specs.Geometry.{Geometry, root_address, block_width}
use Rattle.model.specs.Blocks.{block_at}
use Rattle.model.specs.Layout.{slot_start}
use Rattle.model.specs.Stores.{store}
use Rattle.model.specs.Paths.{kept_block, written_back, dummy_stores}
use Rattle.model.specs.Rounds.{public_store}
use Rattle.model.proofs.Laws.Geometry.{slot_block_lt, slot_start_lt, root_address_lt}
use Rattle.model.proofs.Laws.SlotStores.{get_d-written_back, get_d-written_back_root}
use Rattle.model.proofs.Laws.SlotStores.{get_d-dummy_stores, get_d-dummy_stores_root}
use Rattle.model.proofs.Laws.Traces.{public_store_keep, public_store_write}
use Rattle.layout.specs.declared.numbers.DiskAddress.{DiskAddress}
use Rattle.layout.specs.declared.numbers.PublicNumber.{PublicNumber}
use Rattle.plans.specs.declared.public_plans.Bits.{Bits}
use Rattle.plans.specs.declared.public_plans.PublicPlan.{PublicPlan}
use Rattle.plans.specs.declared.public_plans.PublicPlan.TheVariants.{Keep, Write}
use Rattle.plans.specs.PublicPlans.{choice_of}
use Rattle.stores.specs.declared.changes.Change.TheVariants.{Nothing}
use Rattle.stores.specs.declared.descriptors.Source.TheVariants as source
use Rattle.stores.specs.declared.descriptors.Descriptor.{Descriptor}
use Rattle.stores.specs.Descriptors.{plain_of, own_of}
use Rattle.stores.specs.Described.{store_at, Describes}
use Rattle.stores.proofs.Laws.Described.{describes_own, describes_plain, describes_same}

-- ---- the public block ----

module _ (g : Geometry) (slot : ℕ) (inside : slot < g.slots) {public : PublicPlan} (address : DiskAddress)
    (to : address.0 ≡ slot_start g slot) {descriptor : Descriptor} where
  pub describes_public_kept :
      public ≡ Keep → descriptor ≡ own_of address Nothing Nothing →
      Describes g none 0 (λ disk content blocks random.
      public_store (choice_of public) g disk slot content) descriptor
  describes_public_kept kept e =
      rw kept
      (describes_own address Nothing Nothing e (rw to (slot_start_lt g slot inside)) tt tt
      (λ disk content blocks random. ap (kept_block g disk) to ∙ sym (public_store_keep g disk slot content)))

  pub describes_public_written :
      (number : PublicNumber) (bits : Bits) → public ≡ Write number bits →
      descriptor ≡ plain_of address source.Content →
      Describes g none 0 (λ disk content blocks random.
      public_store (choice_of public) g disk slot content) descriptor
  describes_public_written number bits written e =
      rw written
      (describes_plain address source.Content e (rw to (slot_start_lt g slot inside)) tt
      (λ disk content blocks random.
      ap (λ (a : ℕ). store a content) to ∙ sym (public_store_write g disk slot content)))

-- ---- blocks written back, and random blocks ----

module _ (g : Geometry) (slot place : ℕ) {descriptor : Descriptor} (address : DiskAddress) where
  pub root_kept :
      g.height < place → place < g.height + 2 → address.0 ≡ root_address g →
      descriptor ≡ own_of address Nothing Nothing →
      Describes g none place (λ disk content blocks random.
      store_at (place - 1) (written_back g disk slot)) descriptor
  root_kept low high to e =
      describes_own address Nothing Nothing e (rw to (root_address_lt g)) tt tt
      (λ disk content blocks random.
      ap (kept_block g disk) to ∙ sym (get_d-written_back_root g disk slot place (omega arith)))

  module _ (inside : slot < g.slots) (low : 1 ≤ place) (high : place ≤ g.height)
      (to : address.0 ≡ slot_start g slot + place) where
    pub block_kept :
        descriptor ≡ own_of address Nothing Nothing →
        Describes g none place (λ disk content blocks random.
        store_at (place - 1) (written_back g disk slot)) descriptor
    block_kept e =
        describes_own address Nothing Nothing e (rw to (slot_block_lt g slot place inside high)) tt tt
        (λ disk content blocks random.
        ap (kept_block g disk) to ∙ sym (get_d-written_back g disk slot place low high))

    pub block_random :
        descriptor ≡ plain_of address (source.Random (place - 1)) →
        Describes g none place (λ disk content blocks random.
        store_at (place - 1) (dummy_stores g disk slot random)) descriptor
    block_random e =
        describes_plain address (source.Random (place - 1)) e
        (rw to (slot_block_lt g slot place inside high)) (omega arith)
        (λ disk content blocks random.
        ap (λ (a : ℕ). store a (block_at (block_width g) random (place - 1))) to
        ∙ sym (get_d-dummy_stores g disk slot place random low high))

-- after random blocks the root is as after blocks that are written back
pub root_of_dummy :
    (g : Geometry) (slot place : ℕ) {descriptor : Descriptor} → g.height < place → place < g.height + 2 →
    Describes g none place (λ disk content blocks random.
    store_at (place - 1) (written_back g disk slot)) descriptor →
    Describes g none place (λ disk content blocks random.
    store_at (place - 1) (dummy_stores g disk slot random)) descriptor
root_of_dummy g slot place low high d =
    describes_same d refl
    (λ disk content blocks random. get_d-dummy_stores_root g disk slot place random (omega arith))
