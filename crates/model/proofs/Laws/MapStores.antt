-- Laws of all stores of map and bitmap that a round makes: where they go, that they are whole, and what they
-- leave in a map block and in a bitmap block. Assumes nothing.
use mathlib.Core.Path.{◌≡◌, sym, ap, ◌∙◌}
use mathlib.Core.Logic.{◌≢◌, inl, inr}
use mathlib.Core.Bool.{cond}
use mathlib.Core.List.{[], ◌∷◌}
use Prim.Native.Nat.{ℕ, suc, ◌+◌, ◌*◌, ◌≤◌, ◌<◌}
use native.Mathlib.Omega.{arith}
use lib.ListN.{length, take}
use lib.Seq.{take-length}
use borrow.Author.Tests.{eq-eqb}
use Rattle.laws.proofs.Cases.{cond_cases}
use Rattle.laws.proofs.Members.{All, all_map, all_take}
use Rattle.model.specs.Geometry.{Geometry, Fits, map_blocks, root_address, block_count, block_width}
use Rattle.model.specs.Blocks.{Bytes, DiskAddress, block_at}
use Rattle.model.specs.Layout.{slot_start, slot_of, bit_address, is_one_block, map_address, map_entry}
use Rattle.model.specs.Stores.{Trace, apply, addresses}
use Rattle.model.specs.Table.{PublicChoice, keep_public, write_public}
use Rattle.model.specs.Rounds.{bit_stores, map_store, map_stores}
use Rattle.model.proofs.Laws.Geometry.{map_address_lt, bit_address_lt, bit_address_ge}
use Rattle.model.proofs.Laws.Places.{OldPlace}
use Rattle.model.proofs.Laws.PublicMap.{length-map_block_with, mapped}
use Rattle.model.proofs.Laws.Stores.{Stored, last_at, last_at-append, last_at_other, last_at_outside}
use Rattle.model.proofs.Laws.Stores.{addresses-take, block_at-apply}
use Rattle.model.proofs.Laws.PublicHalf.{addresses-bit_stores, with_bits, bit_stores_stored}

-- an address of the bitmap
abbrev InBitmap : Geometry → DiskAddress → Type 0
InBitmap g address = (1 + map_blocks g ≤ address) × (address < root_address g)

-- an address of map or bitmap
abbrev pub InFront : Geometry → DiskAddress → Type 0
InFront g address = (1 ≤ address) × (address < root_address g)

pub map_address-in_front :
    (g : Geometry) → Fits g → (number : ℕ) → number < g.publics → InFront g (map_address g number)
map_address-in_front g f number h = (omega arith, omega (arith, map_address_lt g f number h))

module _ (g : Geometry) (f : Fits g) (disk : Bytes) (whole : length disk ≡ block_count g * g.block_size)
    (slot : ℕ) (inside : slot < g.slots) (number : ℕ) (counted : number < g.publics)
    (old : OldPlace g (map_entry g disk number)) where
  abbrev bits : Trace
  bits = bit_stores g disk (map_entry g disk number) slot

  bits_in_bitmap : All (InBitmap g) (addresses bits)
  bits_in_bitmap =
      rw (addresses-bit_stores g disk (map_entry g disk number) slot)
      ((bit_address_ge g slot, bit_address_lt g f slot inside), by old)
    where
      by : OldPlace g (map_entry g disk number) →
          All (InBitmap g)
          (cond (is_one_block g (map_entry g disk number) slot) []
          (bit_address g (slot_of g (map_entry g disk number)) ∷ []))
      by (inl e) = rw (eq-eqb (map_entry g disk number) 0 e) tt
      by (inr block) =
          cond_cases (All (InBitmap g)) (is_one_block g (map_entry g disk number) slot) (λ e. tt) (λ e. (
            (
              bit_address_ge g (slot_of g (map_entry g disk number)),
              bit_address_lt g f (slot_of g (map_entry g disk number)) block.slot_inside,
            ),
            tt,
          ))

  -- they go to map and bitmap
  pub map_stores-in_front :
      (choice : PublicChoice) → All (InFront g) (addresses (map_stores choice g disk number slot))
  unfolding addresses map_stores
  map_stores-in_front keep_public = tt
  map_stores-in_front write_public = (
    map_address-in_front g f number counted,
    all_map (InBitmap g) (InFront g) (addresses bits) (λ a h. (omega arith, h.1)) bits_in_bitmap,
  )

  map_store_stored : Stored (block_width g) (block_count g) (map_store g disk number slot)
  map_store_stored = (
    omega (arith, map_address_lt g f number counted),
    length-map_block_with g f disk whole number counted (slot_start g slot),
  )

  pub map_stores_stored :
      (choice : PublicChoice) →
      All (Stored (block_width g) (block_count g)) (map_stores choice g disk number slot)
  unfolding map_stores
  map_stores_stored keep_public = tt
  map_stores_stored write_public =
      (map_store_stored, bit_stores_stored g f disk whole slot inside (map_entry g disk number) old)

  -- what the first of them leave in a map block, whichever bits are stored
  pub last_at-take-map_stores-map :
      (count other : ℕ) → other < g.publics →
      last_at (take (suc count) (map_stores write_public g disk number slot)) (map_address g other)
      (block_at (block_width g) disk (map_address g other)) ≡
      block_at (block_width g) (mapped g f disk whole number counted (slot_start g slot)) (map_address g other)
  unfolding map_stores apply
  last_at-take-map_stores-map count other h =
      last_at-append (map_store g disk number slot ∷ []) (take count bits) (map_address g other) _
      ∙ last_at_outside (take count bits) (map_address g other) _
      (rw (addresses-take bits count)
      (all_take (λ (a : ℕ). map_address g other ≢ a) count (addresses bits)
      (all_map (InBitmap g) (λ (a : ℕ). map_address g other ≢ a) (addresses bits)
      (λ a l e. omega (arith, map_address_lt g f other h)) bits_in_bitmap)))
      ∙ sym (block_at-apply (block_width g) (block_count g) (map_store g disk number slot ∷ []) disk
      (map_address g other) whole (map_store_stored, tt))

  -- what they leave in a map block
  pub last_at-map_stores-map :
      (other : ℕ) → other < g.publics →
      last_at (map_stores write_public g disk number slot) (map_address g other)
      (block_at (block_width g) disk (map_address g other)) ≡
      block_at (block_width g) (mapped g f disk whole number counted (slot_start g slot)) (map_address g other)
  unfolding map_stores
  last_at-map_stores-map other h =
      ap (λ (xs : Trace). last_at (map_store g disk number slot ∷ xs) (map_address g other)
      (block_at (block_width g) disk (map_address g other))) (sym (take-length bits))
      ∙ last_at-take-map_stores-map (length bits) other h

  -- what they leave in a bitmap block
  pub last_at-map_stores_bit :
      (address : DiskAddress) → 1 + map_blocks g ≤ address →
      last_at (map_stores write_public g disk number slot) address (block_at (block_width g) disk address) ≡
      block_at (block_width g) (with_bits g f disk whole slot inside (map_entry g disk number) old) address
  unfolding map_stores
  last_at-map_stores_bit address h =
      last_at_other (map_store g disk number slot) bits address _
      (λ e. omega (arith, map_address_lt g f number counted))
      ∙ sym (block_at-apply (block_width g) (block_count g) bits disk address whole
      (bit_stores_stored g f disk whole slot inside (map_entry g disk number) old))
