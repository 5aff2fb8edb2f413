-- Where a planned round stores: the addresses of its stores in order, none of them twice, and that what a
-- store takes of the disk is none of the blocks stored before it. Assumes nothing.
use mathlib.Core.Path.{◌≡◌, sym, ap₂, ◌∙◌}
use mathlib.Core.Logic.{◌≢◌, ◌⊎◌, inl, inr}
use mathlib.Core.Bool.{true}
use mathlib.Core.List.{List, [], ◌∷◌, ◌++◌, append_assoc}
use Prim.Native.Nat.{ℕ, zero, suc, ◌≤◌, ◌<◌}
use native.Mathlib.Omega.{arith}
use lib.ListN.{length, get_or, take}
use lib.Seq.{take-append-le}
use borrow.Author.Tests.{eqb-false}
use Rattle.laws.proofs.Members.{All, Distinct, distinct_append, distinct_before}
use Rattle.model.specs.Geometry.{Geometry, Fits, area_start, root_address}
use Rattle.model.specs.Blocks.{Bytes, DiskAddress}
use Rattle.model.specs.Layout.{Drive, slot_start, slot_of, is_well_formed, bit_address, map_address}
use Rattle.model.specs.Stores.{Trace, addresses}
use Rattle.model.specs.Simulator.{addresses_from}
use Rattle.model.proofs.Laws.Geometry.{map_address_lt, bit_address_lt, bit_address_ge}
use Rattle.model.proofs.Laws.RoundCounts.{length-addresses_from}
use Rattle.model.proofs.Laws.RoundStores.{all-addresses_from, distinct_addresses_from, take-addresses_from}
use Rattle.model.proofs.Laws.SlotStores.{slot_block_apart}
use Rattle.model.proofs.Laws.Slots.{slot_block_of}
use Rattle.model.proofs.Laws.Stores.{addresses-append, addresses-take, length-addresses}
use Rattle.model.proofs.Laws.Traces.{addresses_nil, addresses-cons}
use Rattle.plans.specs.declared.public_plans.Bits.TheVariants.{New, Shared, Apart}
use Rattle.plans.specs.declared.public_plans.PublicPlan.{PublicPlan}
use Rattle.plans.specs.declared.public_plans.PublicPlan.TheVariants.{Keep, Write}
use Rattle.plans.specs.PublicPlans.{PublicPlaced}
use Rattle.slot_stores.specs.Slots.{slot_trace}
use Rattle.slot_stores.proofs.Laws.Addresses.{addresses-slot_trace}
use Rattle.round_stores.specs.declared.planned.PlannedRound.{PlannedRound}
use Rattle.round_stores.specs.Endings.{ending_trace}
use Rattle.round_stores.specs.Planned.{planned_trace, Storable}

-- ---- after the slot ----

-- map, bits and header
abbrev ending_addresses : PublicPlan → Geometry → (slot : ℕ) → List DiskAddress
ending_addresses Keep g slot = 0 ∷ []
ending_addresses (Write number New) g slot = map_address g number.0 ∷ bit_address g slot ∷ 0 ∷ []
ending_addresses (Write number (Shared old)) g slot = map_address g number.0 ∷ bit_address g slot ∷ 0 ∷ []
ending_addresses (Write number (Apart old)) g slot =
    map_address g number.0 ∷ bit_address g slot ∷ bit_address g old ∷ 0 ∷ []

addresses-ending_trace :
    (public : PublicPlan) (g : Geometry) (disk : Bytes) (slot : ℕ) →
    addresses (ending_trace public g disk slot) ≡ ending_addresses public g slot
addresses-ending_trace Keep g disk slot = simp (addresses-cons, addresses_nil)
addresses-ending_trace (Write number New) g disk slot = simp (addresses-cons, addresses_nil)
addresses-ending_trace (Write number (Shared old)) g disk slot = simp (addresses-cons, addresses_nil)
addresses-ending_trace (Write number (Apart old)) g disk slot = simp (addresses-cons, addresses_nil)

-- all below a bound, and none twice
abbrev Front : (bound : ℕ) → List DiskAddress → Type 0
Front bound xs = All (λ (a : ℕ). a < bound) xs × Distinct xs

-- the root, a map block, one bitmap block or two, the header
module _ (bound root entry new : ℕ) (top : root < bound) (map : (1 ≤ entry) × (entry < new))
    (bit : new < root) where
  front_one : Front bound (root ∷ entry ∷ new ∷ 0 ∷ [])
  front_one = (
    (omega arith, (omega arith, (omega arith, (omega arith, tt)))),
    (
      (λ e. omega arith, (λ e. omega arith, (λ e. omega arith, tt))),
      ((λ e. omega arith, (λ e. omega arith, tt)), ((λ e. omega arith, tt), (tt, tt))),
    ),
  )

  front_two : (old : ℕ) → entry < old → old < root → new ≢ old →
      Front bound (root ∷ entry ∷ new ∷ old ∷ 0 ∷ [])
  front_two old low high other = (
    (omega arith, (omega arith, (omega arith, (omega arith, (omega arith, tt))))),
    (
      (λ e. omega arith, (λ e. omega arith, (λ e. omega arith, (λ e. omega arith, tt)))),
      (
        (λ e. omega arith, (λ e. omega arith, (λ e. omega arith, tt))),
        ((other, (λ e. omega arith, tt)), ((λ e. omega arith, tt), (tt, tt))),
      ),
    ),
  )

module _ (g : Geometry) (f : Fits g) (slot : ℕ) (inside : slot < g.slots) where
  -- a map block stands before the bitmap
  map_low :
      (number other : ℕ) → number < g.publics →
      (1 ≤ map_address g number) × (map_address g number < bit_address g other)
  map_low number other counted =
      (omega arith, omega (arith, map_address_lt g f number counted, bit_address_ge g other))

  front_placed :
      (public : PublicPlan) → PublicPlaced g slot public →
      Front (area_start g) (root_address g ∷ ending_addresses public g slot)
  front_placed Keep placed = ((omega arith, (omega arith, tt)), ((λ e. omega arith, tt), (tt, tt)))
  front_placed (Write number New) placed =
      front_one (area_start g) (root_address g) (map_address g number.0) (bit_address g slot) (omega arith)
      (map_low number.0 slot placed.0) (bit_address_lt g f slot inside)
  front_placed (Write number (Shared old)) placed =
      front_one (area_start g) (root_address g) (map_address g number.0) (bit_address g slot) (omega arith)
      (map_low number.0 slot placed.0) (bit_address_lt g f slot inside)
  front_placed (Write number (Apart old)) placed =
      front_two (area_start g) (root_address g) (map_address g number.0) (bit_address g slot) (omega arith)
      (map_low number.0 slot placed.0) (bit_address_lt g f slot inside) (bit_address g old)
      (map_low number.0 old placed.0).1 (bit_address_lt g f old placed.1.0)
      (eqb-false (bit_address g slot) (bit_address g old) placed.1.1)

-- ---- the round ----

module _ {g : Geometry} {disk : Bytes} {round : PlannedRound} {content blocks random : Bytes}
    (drive : Drive g disk) (storable : Storable g round content blocks random) where
  abbrev trace : Trace
  trace = planned_trace round g disk content blocks random

  abbrev slot : ℕ
  slot = round.slot

  -- the root, map, bits and header
  abbrev front : List DiskAddress
  front = root_address g ∷ ending_addresses round.public g slot

  addresses_planned : addresses trace ≡ addresses_from (slot_start g slot) (suc g.height) ++ front
  addresses_planned =
      addresses-append (slot_trace round.public round.hidden g disk slot content blocks random)
      (ending_trace round.public g disk slot)
      ∙ ap₂ (λ (xs ys : List ℕ). xs ++ ys)
      (addresses-slot_trace g disk drive slot storable.placed.slot_inside blocks random
      storable.random_enough content round.public round.hidden storable.placed.hidden_placed
      storable.offered_lent)
      (addresses-ending_trace round.public g disk slot)
      ∙ append_assoc (addresses_from (slot_start g slot) (suc g.height)) (root_address g ∷ [])
      (ending_addresses round.public g slot)

  distinct_planned : Distinct (addresses trace)
  distinct_planned =
      let below = front_placed g drive.fits slot storable.placed.slot_inside
      round.public storable.placed.public_placed in
      rw addresses_planned
      (distinct_append (λ (a : ℕ). area_start g ≤ a) (λ (a : ℕ). a < area_start g) (λ x y h k e. omega arith)
      (addresses_from (slot_start g slot) (suc g.height)) front
      (all-addresses_from (λ (a : ℕ). area_start g ≤ a) (slot_start g slot) (suc g.height)
      (λ i h. omega arith))
      below.0 (distinct_addresses_from (slot_start g slot) (suc g.height)) below.1)

  -- an address is none of those of the first so many stores
  abbrev Outside : (place : ℕ) → DiskAddress → Type 0
  Outside place address = All (λ (other : ℕ). address ≢ other) (take place (addresses trace))

  -- a node of the level that is a place is none of the blocks stored before it
  node_apart : (place : ℕ) (address : DiskAddress) → place < g.height →
      is_well_formed g place address ≡ true → Outside place address
  node_apart zero address h e = tt
  node_apart (suc level) address h e =
      let block = slot_block_of g (suc level) address e in
      let places = addresses_from (slot_start g slot) (suc g.height) in
      rw (
        addresses_planned,
        take-append-le (suc level) places front
            (omega (arith, length-addresses_from (slot_start g slot) (suc g.height))),
        take-addresses_from (slot_start g slot) (suc level) (suc g.height) (omega arith),
      )
      (all-addresses_from (λ (other : ℕ). address ≢ other) (slot_start g slot) (suc level)
      (λ i l q.
      slot_block_apart g slot (slot_of g address) level i (omega arith) l (sym block.address_is ∙ q)))

  pub takes_apart :
      (place : ℕ) (address own : DiskAddress) → place < length trace →
      own ≡ get_or (addresses trace) place 0 →
      (address ≡ own) ⊎ ((place < g.height) × (is_well_formed g place address ≡ true)) →
      All (λ (other : ℕ). address ≢ other) (addresses (take place trace))
  takes_apart place address own h at (inl e) =
      rw (addresses-take trace place, e, at)
      (distinct_before (addresses trace) place 0 (omega (arith, length-addresses trace)) distinct_planned)
  takes_apart place address own h at (inr (low, e)) =
      rw (addresses-take trace place) (node_apart place address low e)
