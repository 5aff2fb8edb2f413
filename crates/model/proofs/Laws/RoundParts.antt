-- What the stores of a round, all of them or some, leave in each kind of block, by their four parts: the
-- public block, stores of the hidden half, stores of map and bitmap, and the header's, each at addresses of
-- its own. In the order map and bitmap, hidden blocks and root, public blocks. Assumes nothing.
use mathlib.Core.Path.{◌≡◌, sym, ap, ◌∙◌}
use mathlib.Core.Logic.{◌≢◌, inl, inr}
use mathlib.Core.List.{[], ◌∷◌, ◌++◌}
use Prim.Native.Nat.{ℕ, ◌+◌, ◌≤◌}
use native.Mathlib.Omega.{arith}
use Rattle.laws.proofs.Members.{All, all_map}
use Rattle.model.specs.Geometry.{Geometry, root_address, block_width}
use Rattle.model.specs.Blocks.{Bytes, DiskAddress, block_at}
use Rattle.model.specs.Layout.{slot_start, slot_of}
use Rattle.model.specs.Stores.{Store, Trace, addresses}
use Rattle.model.proofs.Laws.Slots.{slot_of-slot_start, place_apart, slot_apart}
use Rattle.model.proofs.Laws.Stores.{last_at, last_at_nil, last_at-append, last_at_same, last_at_other}
use Rattle.model.proofs.Laws.Stores.{last_at_outside}
use Rattle.model.proofs.Laws.MapStores.{InFront}
use Rattle.model.proofs.Laws.RoundStores.{HiddenAddress}

-- what four parts leave in a block, the last one first
pub last_at_parts :
    (public : Store) (hidden map header : Trace) (address : DiskAddress) (old : Bytes) →
    last_at (public ∷ (hidden ++ (map ++ header))) address old ≡
    last_at header address (last_at map address (last_at hidden address (last_at (public ∷ []) address old)))
last_at_parts public hidden map header address old =
    last_at-append (public ∷ []) (hidden ++ (map ++ header)) address old
    ∙ last_at-append hidden (map ++ header) address (last_at (public ∷ []) address old)
    ∙ last_at-append map header address (last_at hidden address (last_at (public ∷ []) address old))

-- a disk whose blocks are those that the parts leave of another disk
pub record RoundParts (g : Geometry) (slot : ℕ) (disk after : Bytes) (public : Store)
    (hidden map header : Trace) : Type 0 where
  pub in_block :
      (address : DiskAddress) →
      block_at (block_width g) after address ≡
      last_at (public ∷ (hidden ++ (map ++ header))) address (block_at (block_width g) disk address)
  pub public_at : public.address ≡ slot_start g slot
  pub hidden_at : All (HiddenAddress g slot) (addresses hidden)
  pub map_at : All (InFront g) (addresses map)
  pub header_at : All (λ (a : ℕ). a ≡ 0) (addresses header)

-- stores that go elsewhere leave a block
last_at_apart :
    (P : DiskAddress → Type 0) (xs : Trace) → All P (addresses xs) → (address : DiskAddress) (old : Bytes) →
    ((a : DiskAddress) → P a → address ≢ a) → last_at xs address old ≡ old
last_at_apart P xs at address old apart =
    last_at_outside xs address old (all_map P (λ (a : ℕ). address ≢ a) (addresses xs) apart at)

module _ {g : Geometry} {slot : ℕ} {disk after : Bytes} {public : Store} {hidden map header : Trace}
    (parts : RoundParts g slot disk after public hidden map header) where
  block_at_parts :
      (address : DiskAddress) →
      block_at (block_width g) after address ≡
      last_at header address
      (last_at map address
      (last_at hidden address (last_at (public ∷ []) address (block_at (block_width g) disk address))))
  block_at_parts address =
      parts.in_block address
      ∙ last_at_parts public hidden map header address (block_at (block_width g) disk address)

  -- ---- parts apart ----

  public_apart :
      (address : DiskAddress) → address ≢ slot_start g slot → (old : Bytes) →
      last_at (public ∷ []) address old ≡ old
  public_apart address ne old =
      last_at_other public [] address old (λ e. ne (e ∙ parts.public_at)) ∙ last_at_nil address old

  hidden_apart :
      (address : DiskAddress) → ((a : DiskAddress) → HiddenAddress g slot a → address ≢ a) → (old : Bytes) →
      last_at hidden address old ≡ old
  hidden_apart address apart old =
      last_at_apart (HiddenAddress g slot) hidden parts.hidden_at address old apart

  map_apart :
      (address : DiskAddress) → root_address g ≤ address → (old : Bytes) → last_at map address old ≡ old
  map_apart address h old =
      last_at_apart (InFront g) map parts.map_at address old (λ a l e. omega (arith, l.1))

  header_apart : (address : DiskAddress) → 1 ≤ address → (old : Bytes) → last_at header address old ≡ old
  header_apart address h old =
      last_at_apart (λ (a : ℕ). a ≡ 0) header parts.header_at address old (λ a z e. omega arith)

  -- ---- map and bitmap ----

  pub block_at_parts_front :
      (address : DiskAddress) → InFront g address →
      block_at (block_width g) after address ≡ last_at map address (block_at (block_width g) disk address)
  block_at_parts_front address h =
      block_at_parts address ∙ header_apart address h.0 _
      ∙ ap (last_at map address) (hidden_apart address below _ ∙ public_apart address (λ e. omega arith) _)
    where
      below : (a : DiskAddress) → HiddenAddress g slot a → address ≢ a
      below a (inl e) q = omega arith
      below a (inr (place, low, high, e)) q = omega arith

  -- ---- hidden blocks and root ----

  hidden_only :
      (address : DiskAddress) → root_address g ≤ address → address ≢ slot_start g slot →
      block_at (block_width g) after address ≡ last_at hidden address (block_at (block_width g) disk address)
  hidden_only address h ne =
      block_at_parts address ∙ header_apart address (omega arith) _ ∙ map_apart address h _
      ∙ ap (last_at hidden address) (public_apart address ne _)

  pub block_at_parts_root :
      block_at (block_width g) after (root_address g) ≡
      last_at hidden (root_address g) (block_at (block_width g) disk (root_address g))
  block_at_parts_root = hidden_only (root_address g) (omega arith) (λ e. omega arith)

  module _ (other place : ℕ) (low : 1 ≤ place) (high : place ≤ g.height) where
    pub block_at_parts_place :
        block_at (block_width g) after (slot_start g other + place) ≡
        last_at hidden (slot_start g other + place) (block_at (block_width g) disk (slot_start g other + place))
    block_at_parts_place =
        hidden_only (slot_start g other + place) (omega arith)
        (λ e. place_apart g slot other 0 place (omega arith) high (λ z. omega arith) (omega arith))

    pub block_at_parts_place_other :
        other ≢ slot →
        block_at (block_width g) after (slot_start g other + place) ≡
        block_at (block_width g) disk (slot_start g other + place)
    block_at_parts_place_other ne = block_at_parts_place ∙ hidden_apart (slot_start g other + place) apart _
      where
        apart : (a : DiskAddress) → HiddenAddress g slot a → slot_start g other + place ≢ a
        apart a (inl e) q = omega arith
        apart a (inr (at, below, above, e)) q = slot_apart g slot other at place above high ne (q ∙ e)

  -- ---- public blocks ----

  start_only :
      (other : ℕ) →
      block_at (block_width g) after (slot_start g other) ≡
      last_at (public ∷ []) (slot_start g other) (block_at (block_width g) disk (slot_start g other))
  start_only other =
      block_at_parts (slot_start g other) ∙ header_apart (slot_start g other) (omega arith) _
      ∙ map_apart (slot_start g other) (omega arith) _ ∙ hidden_apart (slot_start g other) apart _
    where
      apart : (a : DiskAddress) → HiddenAddress g slot a → slot_start g other ≢ a
      apart a (inl e) q = omega arith
      apart a (inr (at, below, above, e)) q =
          place_apart g slot other at 0 above (omega arith) (λ z. omega arith) (omega arith)

  pub block_at_parts_start_same : block_at (block_width g) after (slot_start g slot) ≡ public.content
  block_at_parts_start_same =
      start_only slot ∙ last_at_same public [] (slot_start g slot) _ (sym parts.public_at)
      ∙ last_at_nil (slot_start g slot) _

  pub block_at_parts_start_other :
      (other : ℕ) → other ≢ slot →
      block_at (block_width g) after (slot_start g other) ≡ block_at (block_width g) disk (slot_start g other)
  block_at_parts_start_other other ne =
      start_only other
      ∙ public_apart (slot_start g other)
      (λ e. ne (sym (slot_of-slot_start g other) ∙ ap (slot_of g) e ∙ slot_of-slot_start g slot)) _
