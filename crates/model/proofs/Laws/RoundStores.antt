-- Laws of the stores of one round, for any hidden half that stores the slot's hidden blocks and the root:
-- their addresses, and that they are whole and inside the disk. Assumes nothing.
use mathlib.Core.Path.{◌≡◌, refl, ap, ap₂, ◌∙◌, subst}
use mathlib.Core.Logic.{◌≢◌, ◌⊎◌, inl, inr}
use mathlib.Core.List.{List, [], ◌∷◌, ◌++◌}
use Prim.Native.Nat.{ℕ, zero, suc, ◌+◌, ◌*◌, ◌-◌, ◌≤◌, ◌<◌}
use native.Mathlib.Numerals.{add-one}
use native.Mathlib.Omega.{arith}
use lib.ListN.{length, take, drop}
use Rattle.laws.proofs.Members.{All, all_append, all_map, Distinct}
use Rattle.model.specs.Geometry.{Geometry, Fits, root_address, block_count, block_width}
use Rattle.model.specs.Blocks.{Bytes, DiskAddress, block_at}
use Rattle.model.specs.Layout.{slot_start, next_slot, map_entry}
use Rattle.model.specs.Stores.{Trace, apply, addresses}
use Rattle.model.specs.Table.{PublicChoice, keep_public, write_public}
use Rattle.model.specs.Rounds.{public_store, header_store, map_stores, round_trace}
use Rattle.model.specs.Simulator.{addresses_from, slot_addresses, last_round}
use Rattle.model.proofs.Laws.Geometry.{slot_block_lt, root_address_lt, slot_start_lt}
use Rattle.model.proofs.Laws.Entries.{length-set_entry}
use Rattle.model.proofs.Laws.Places.{OldPlace, Placed, old_of_placed}
use Rattle.model.proofs.Laws.Stores.{Stored, addresses-append, length-apply}
use Rattle.model.proofs.Laws.Paths.{WholeStore, Hides, addresses_from_suc, block_at_whole}
use Rattle.model.proofs.Laws.PublicHalf.{addresses-map_stores}
use Rattle.model.proofs.Laws.MapStores.{map_stores_stored}

-- ---- addresses ----

pub all-addresses_from :
    (P : ℕ → Type 0) (address : DiskAddress) (count : ℕ) → ((i : ℕ) → i < count → P (address + i)) →
    All P (addresses_from address count)
unfolding addresses_from
all-addresses_from P address zero h = tt
all-addresses_from P address (suc count) h =
    let e : address + 0 ≡ address = omega arith in (
      subst P e (h 0 (omega arith)),
      all-addresses_from P (suc address) count
          (λ i l. let q : address + suc i ≡ suc address + i = omega arith in
          subst P q (h (suc i) (omega arith))),
    )

pub distinct_addresses_from : (address count : ℕ) → Distinct (addresses_from address count)
unfolding addresses_from
distinct_addresses_from address zero = tt
distinct_addresses_from address (suc count) = (
  all-addresses_from (λ (other : ℕ). address ≢ other) (suc address) count (λ i h e. omega arith),
  distinct_addresses_from (suc address) count,
)

pub take-addresses_from :
    (address place count : ℕ) → place ≤ count →
    take place (addresses_from address count) ≡ addresses_from address place
unfolding addresses_from
take-addresses_from address zero count h = refl
take-addresses_from address (suc place) zero h = absurd (omega arith)
take-addresses_from address (suc place) (suc count) h =
    ap {B = List ℕ} (λ (rest : List ℕ). address ∷ rest)
    (take-addresses_from (suc address) place count (omega arith))

pub drop-addresses_from :
    (address place count : ℕ) →
    drop place (addresses_from address count) ≡ addresses_from (address + place) (count - place)
unfolding addresses_from
drop-addresses_from address zero count =
    let e : address ≡ address + 0 = omega arith in
    let q : count ≡ count - 0 = omega arith in
    ap₂ addresses_from e q
drop-addresses_from address (suc place) zero =
    let q : 0 ≡ 0 - suc place = omega arith in
    ap (addresses_from (address + suc place)) q
drop-addresses_from address (suc place) (suc count) =
    let e : suc address + place ≡ address + suc place = omega arith in
    let q : count - place ≡ suc count - suc place = omega arith in
    drop-addresses_from (suc address) place count ∙ ap₂ addresses_from e q

-- an address of a slot's hidden blocks, or the root
abbrev pub HiddenAddress : Geometry → (slot : ℕ) → DiskAddress → Type 0
HiddenAddress g slot address =
    (address ≡ root_address g) ⊎
    ((place : ℕ) × (1 ≤ place) × (place ≤ g.height) × (address ≡ slot_start g slot + place))

pub hides_addresses :
    (g : Geometry) (slot : ℕ) (hidden : Trace) → Hides g slot hidden →
    All (HiddenAddress g slot) (addresses hidden)
hides_addresses g slot hidden hides =
    rw hides.runs
    (all_append (HiddenAddress g slot) (addresses_from (slot_start g slot + 1) g.height) _
    (all-addresses_from (HiddenAddress g slot) (slot_start g slot + 1) g.height
    (λ i h. inr (suc i, omega arith, omega arith, omega arith)))
    (inl refl, tt))

stored_of_whole :
    (g : Geometry) (xs : Trace) → All (λ (a : ℕ). a < block_count g) (addresses xs) → All (WholeStore g) xs →
    All (Stored (block_width g) (block_count g)) xs
unfolding addresses
stored_of_whole g [] h w = tt
stored_of_whole g (x ∷ xs) h w = ((h.0, w.0), stored_of_whole g xs h.1 w.1)

-- ---- the stores of a round ----

pub public_store_address :
    (choice : PublicChoice) (g : Geometry) (disk : Bytes) (slot : ℕ) (content : Bytes) →
    (public_store choice g disk slot content).address ≡ slot_start g slot
unfolding public_store
public_store_address keep_public g disk slot content = refl
public_store_address write_public g disk slot content = refl

addresses_round :
    (choice : PublicChoice) (g : Geometry) (disk : Bytes) (number slot : ℕ) (content : Bytes)
    (hidden : Trace) → Hides g slot hidden →
    addresses (round_trace choice g disk number slot content hidden) ≡
    slot_addresses g slot ++ (addresses (map_stores choice g disk number slot) ++ (0 ∷ []))
unfolding addresses round_trace
addresses_round choice g disk number slot content hidden hides =
    let public = public_store choice g disk slot content in
    let more = map_stores choice g disk number slot in
    let tail = addresses more ++ (0 ∷ []) in
    ap (λ (xs : List ℕ). public.address ∷ xs)
    (addresses-append hidden (more ++ (header_store g disk slot ∷ []))
    ∙ ap (λ (xs : List ℕ). addresses hidden ++ xs) (addresses-append more (header_store g disk slot ∷ []))
    ∙ ap (λ (xs : List ℕ). xs ++ tail) hides.runs)
    ∙ rw (public_store_address choice g disk slot content, addresses_from_suc, add-one (slot_start g slot))

pub addresses_kept :
    (g : Geometry) (disk : Bytes) (number slot : ℕ) (content : Bytes) (hidden : Trace) → Hides g slot hidden →
    addresses (round_trace keep_public g disk number slot content hidden) ≡ slot_addresses g slot ++ (0 ∷ [])
unfolding map_stores addresses
addresses_kept g disk number slot content hidden hides =
    addresses_round keep_public g disk number slot content hidden hides

pub addresses_last :
    (g : Geometry) (disk : Bytes) (number slot : ℕ) (content : Bytes) (hidden : Trace) → Hides g slot hidden →
    addresses (round_trace write_public g disk number slot content hidden) ≡
    last_round g number (map_entry g disk number) slot
addresses_last g disk number slot content hidden hides =
    addresses_round write_public g disk number slot content hidden hides
    ∙ ap (λ (xs : List ℕ). slot_addresses g slot ++ xs) (addresses-map_stores g disk number slot)

-- the header has room for the head
pub header_fits :
    (g : Geometry) → Fits g → (disk : Bytes) → length disk ≡ block_count g * g.block_size →
    4 * 5 + 4 ≤ length (block_at (block_width g) disk 0)
header_fits g f disk whole = omega (arith, block_at_whole g f disk whole 0 (omega arith), f.size_low)

-- the disk after a round
abbrev pub after_round :
    PublicChoice → Geometry → (disk : Bytes) → (number slot : ℕ) → (content : Bytes) →
    (hidden : Trace) → Bytes
after_round choice g disk number slot content hidden =
    apply (block_width g) (round_trace choice g disk number slot content hidden) disk

-- the public block's store is of a whole block and inside the disk
pub public_store_stored :
    (g : Geometry) (f : Fits g) (disk : Bytes) (whole : length disk ≡ block_count g * g.block_size) (slot : ℕ)
    (inside : slot < g.slots) (content : Bytes) (sized : length content ≡ g.block_size)
    (choice : PublicChoice) →
    Stored (block_width g) (block_count g) (public_store choice g disk slot content)
unfolding public_store
public_store_stored g f disk whole slot inside content sized choice =
    (rw (public_store_address choice g disk slot content) (slot_start_lt g slot inside), by choice)
  where
    by : (choice : PublicChoice) → length (public_store choice g disk slot content).content ≡ g.block_size
    by keep_public = block_at_whole g f disk whole (slot_start g slot) (slot_start_lt g slot inside)
    by write_public = sized

-- what a round takes: a whole disk of an accepted geometry, a public number with a place or none, a slot, a
-- block of data, and a hidden half that hides
pub record Round (g : Geometry) (disk : Bytes) (number slot : ℕ) (content : Bytes) (hidden : Trace) :
    Type 0 where
  pub fits : Fits g
  pub whole : length disk ≡ block_count g * g.block_size
  pub counted : number < g.publics
  pub inside : slot < g.slots
  pub sized : length content ≡ g.block_size
  pub placed : Placed g disk number
  pub hides : Hides g slot hidden

pub old_of_round :
    {g : Geometry} {disk : Bytes} {number slot : ℕ} {content : Bytes} {hidden : Trace} →
    Round g disk number slot content hidden → OldPlace g (map_entry g disk number)
old_of_round {g} {disk} {number} round = old_of_placed g disk number round.placed

module _ {g : Geometry} {disk : Bytes} {number slot : ℕ} {content : Bytes} {hidden : Trace}
    (round : Round g disk number slot content hidden) (choice : PublicChoice) where
  header_store_stored : Stored (block_width g) (block_count g) (header_store g disk slot)
  header_store_stored = (
    omega arith,
    length-set_entry 5 (next_slot g slot) (block_at (block_width g) disk 0)
        (header_fits g round.fits disk round.whole)
        ∙ block_at_whole g round.fits disk round.whole 0 (omega arith),
  )

  hidden_stored : All (Stored (block_width g) (block_count g)) hidden
  hidden_stored =
      stored_of_whole g hidden
      (all_map (HiddenAddress g slot) (λ (a : ℕ). a < block_count g) (addresses hidden) below
      (hides_addresses g slot hidden round.hides)) round.hides.whole
    where
      below : (a : ℕ) → HiddenAddress g slot a → a < block_count g
      below a (inl e) = omega (arith, root_address_lt g)
      below a (inr (place, low, high, e)) = omega (arith, slot_block_lt g slot place round.inside high)

  -- every store is of a whole block and inside the disk
  pub round_stored :
      All (Stored (block_width g) (block_count g)) (round_trace choice g disk number slot content hidden)
  unfolding round_trace
  round_stored = (
    public_store_stored g round.fits disk round.whole slot round.inside content round.sized choice,
    all_append (Stored (block_width g) (block_count g)) hidden _ hidden_stored
        (all_append (Stored (block_width g) (block_count g)) (map_stores choice g disk number slot) _
        (map_stores_stored g round.fits disk round.whole slot round.inside number round.counted
        (old_of_round round) choice) (header_store_stored, tt)),
  )

  pub length_round : length (after_round choice g disk number slot content hidden) ≡ length disk
  length_round =
      length-apply (block_width g) (block_count g)
      (round_trace choice g disk number slot content hidden) disk round.whole round_stored
