-- The stores of a round as it is planned: those of the slot and the root, then those of the ending, and how
-- many there are. Assumes nothing.
use mathlib.Core.Path.{◌≡◌, refl}
use mathlib.Core.Option.{none}
use Prim.Native.Nat.{ℕ, ◌+◌, ◌-◌, ◌≤◌, ◌<◌}
use native.Mathlib.Omega.{arith}
use lib.ListN.{length, length-append}
use Rattle.model.specs.Geometry.{Geometry, Fits}
use Rattle.model.specs.Blocks.{Bytes}
use Rattle.plans.specs.HiddenPlans.{offered_by}
use Rattle.stores.specs.declared.descriptors.Descriptor.{Descriptor}
use Rattle.stores.specs.Described.{store_at, Describes}
use Rattle.slot_stores.specs.Slots.{slot_trace}
use Rattle.slot_stores.proofs.Laws.Places.{length-slot_trace}
use Rattle.stores.proofs.Laws.Described.{store_at_first, store_at_past, describes_same, describes_offering}
use Rattle.round_stores.specs.declared.planned.PlannedRound.{PlannedRound}
use Rattle.round_stores.specs.Endings.{ending_trace}
use Rattle.round_stores.specs.Planned.{planned_trace, planned_count}
use Rattle.round_stores.proofs.Laws.Endings.{length-ending_trace}

-- ---- a store of a round ----

module _ (g : Geometry) (f : Fits g) (round : PlannedRound) {place : ℕ} {descriptor : Descriptor} where
  pub describes_in_slot :
      place < g.height + 2 →
      Describes g (offered_by round.hidden) place (λ disk content blocks random.
      store_at place
      (slot_trace round.public round.hidden g disk round.slot content blocks random)) descriptor →
      Describes g (offered_by round.hidden) place (λ disk content blocks random.
      store_at place (planned_trace round g disk content blocks random)) descriptor
  describes_in_slot h d =
      describes_same d refl
      (λ disk content blocks random.
      store_at_first (slot_trace round.public round.hidden g disk round.slot content blocks random)
      (ending_trace round.public g disk round.slot) (g.height + 2) place
      (length-slot_trace g f disk content blocks random round.slot round.public round.hidden) h)

  pub describes_after_slot :
      g.height + 2 ≤ place →
      Describes g none place (λ disk content blocks random.
      store_at (place - (g.height + 2)) (ending_trace round.public g disk round.slot)) descriptor →
      Describes g (offered_by round.hidden) place (λ disk content blocks random.
      store_at place (planned_trace round g disk content blocks random)) descriptor
  describes_after_slot h d =
      describes_same (describes_offering d) refl
      (λ disk content blocks random.
      store_at_past (slot_trace round.public round.hidden g disk round.slot content blocks random)
      (ending_trace round.public g disk round.slot) (g.height + 2) place
      (length-slot_trace g f disk content blocks random round.slot round.public round.hidden) h)

-- ---- count ----

pub length-planned_trace :
    (g : Geometry) → Fits g → (round : PlannedRound) (disk content blocks random : Bytes) →
    length (planned_trace round g disk content blocks random) ≡ planned_count g round
length-planned_trace g f round disk content blocks random =
    let slotted = slot_trace round.public round.hidden g disk round.slot content blocks random in
    omega (
      arith,
      length-append slotted (ending_trace round.public g disk round.slot),
      length-slot_trace g f disk content blocks random round.slot round.public round.hidden,
      length-ending_trace round.public g disk round.slot,
    )
