-- Laws of the bitmap's stores of a round that takes the call's data: what they are by the disk as it is,
-- where they go, that they are whole, and the bits after them; and the addresses of all stores of map and
-- bitmap. Assumes nothing.
use mathlib.Core.Path.{◌≡◌, refl, sym, ap, ◌∙◌}
use mathlib.Core.Logic.{◌≢◌, inl, inr, ⊎_elim}
use mathlib.Core.Bool.{Bool, true, false, cond, ◌||◌}
use mathlib.Core.List.{List, [], ◌∷◌, ◌++◌}
use Prim.Native.Nat.{ℕ, ◌*◌, ◌<◌}
use native.Mathlib.Omega.{arith}
use lib.Dec.{eqb}
use lib.ListN.{length}
use borrow.Author.Tests.{eq-eqb, ne_eqb, eqb-true, eqb-false}
use Rattle.laws.specs.Bits.{set_bit}
use Rattle.laws.proofs.Cases.{bool_cases}
use Rattle.laws.proofs.Members.{All}
use Rattle.model.specs.Geometry.{Geometry, Fits, block_count, block_width}
use Rattle.model.specs.Blocks.{Bytes, DiskAddress, block_at}
use Rattle.model.specs.Layout.{slot_of, area_place, bit_address, bit_place, is_shared, is_one_block}
use Rattle.model.specs.Layout.{bitmap_with, map_address, map_entry}
use Rattle.model.specs.Stores.{Store, Trace, store, apply, addresses}
use Rattle.model.specs.Table.{write_public}
use Rattle.model.specs.Rounds.{bit_store, moved_stores, bit_stores, map_stores}
use Rattle.model.specs.Invariants.{bitmap_bit}
use Rattle.model.proofs.Laws.Geometry.{bit_address_lt}
use Rattle.model.proofs.Laws.Blocks.{length-set_block, set_block_again, block_at-set_block_other}
use Rattle.model.proofs.Laws.Slots.{SlotBlock}
use Rattle.model.proofs.Laws.Bitmap.{length-bitmap_with, marked, block_at_marked, area_place_apart}
use Rattle.model.proofs.Laws.Bitmap.{bitmap_bit_marked_other, bitmap_bit_marked_same}
use Rattle.model.proofs.Laws.Stores.{Stored}
-- what it says of old places
pub use Rattle.model.proofs.Laws.Places.{OldPlace, entry_not_zero}

-- ---- the bitmap's stores ----

module _ (g : Geometry) (f : Fits g) (disk : Bytes) (whole : length disk ≡ block_count g * g.block_size)
    (slot : ℕ) (inside : slot < g.slots) where
  -- the disk with the new bit
  abbrev with_new : Bytes
  with_new = marked g f disk whole slot inside true

  whole_new : length with_new ≡ block_count g * g.block_size
  whole_new =
      length-set_block (block_width g) disk (block_count g) whole _
      (omega (arith, bit_address_lt g f slot inside)) _
      (length-bitmap_with g f disk whole slot inside true) ∙ whole

  pub bit_stores_none :
      (entry : DiskAddress) → entry ≡ 0 → bit_stores g disk entry slot ≡ bit_store g disk slot true ∷ []
  unfolding bit_stores
  bit_stores_none entry e = rw (eq-eqb entry 0 e)

  -- the old bit's block, cleared on top of the new bit
  abbrev cleared : DiskAddress → Store
  cleared entry = bit_store g with_new (slot_of g entry) false

  bit_stores_shared :
      (entry : DiskAddress) → entry ≢ 0 → is_shared g slot (slot_of g entry) ≡ true →
      bit_stores g disk entry slot ≡ cleared entry ∷ []
  unfolding bit_stores moved_stores apply
  bit_stores_shared entry ne e = rw (ne_eqb entry 0 ne, e)

  bit_stores_apart :
      (entry : DiskAddress) → entry ≢ 0 → is_shared g slot (slot_of g entry) ≡ false →
      bit_stores g disk entry slot ≡ bit_store g disk slot true ∷ cleared entry ∷ []
  unfolding bit_stores moved_stores apply
  bit_stores_apart entry ne e = rw (ne_eqb entry 0 ne, e)

  -- by the disk as it is: the shared block with both bits
  pub bit_stores_both :
      (entry : DiskAddress) → entry ≢ 0 → is_shared g slot (slot_of g entry) ≡ true →
      bit_stores g disk entry slot ≡
      store (bit_address g slot)
      (set_bit (bit_place g (slot_of g entry)) false (bitmap_with g disk slot true)) ∷ []
  unfolding bitmap_with
  bit_stores_both entry ne e =
      let old = slot_of g entry in
      let same = eqb-true (bit_address g slot) (bit_address g old) e in
      let block : block_at (block_width g) with_new (bit_address g old) ≡ bitmap_with g disk slot true =
      rw (sym same) (block_at_marked g f disk whole slot inside true) in
      bit_stores_shared entry ne e ∙ rw (block, sym same)

  -- or each block with its own bit
  pub bit_stores_each :
      (entry : DiskAddress) → entry ≢ 0 → is_shared g slot (slot_of g entry) ≡ false →
      bit_stores g disk entry slot ≡ bit_store g disk slot true ∷ bit_store g disk (slot_of g entry) false ∷ []
  unfolding bitmap_with
  bit_stores_each entry ne e =
      let old = slot_of g entry in
      let block : block_at (block_width g) with_new (bit_address g old) ≡
      block_at (block_width g) disk (bit_address g old) =
      block_at-set_block_other (block_width g) disk (block_count g) whole (bit_address g slot)
      (omega (arith, bit_address_lt g f slot inside)) (bitmap_with g disk slot true)
      (length-bitmap_with g f disk whole slot inside true) (bit_address g old)
      (λ same. eqb-false (bit_address g slot) (bit_address g old) e (sym same)) in
      bit_stores_apart entry ne e ∙ rw block

  module _ (entry : DiskAddress) (old : OldPlace g entry) where
    -- the disk with the bits as a round leaves them
    abbrev pub with_bits : Bytes
    with_bits = apply (block_width g) (bit_stores g disk entry slot) disk

    with_bits_none : entry ≡ 0 → with_bits ≡ with_new
    unfolding apply
    with_bits_none e = ap (λ (xs : Trace). apply (block_width g) xs disk) (bit_stores_none entry e)

    with_bits_some :
        (block : SlotBlock g 0 entry) →
        with_bits ≡ marked g f with_new whole_new (slot_of g entry) block.slot_inside false
    unfolding apply
    with_bits_some block = ⊎_elim shared apart (bool_cases (is_shared g slot (slot_of g entry)))
      where
        both : Bytes
        both = marked g f with_new whole_new (slot_of g entry) block.slot_inside false

        shared : is_shared g slot (slot_of g entry) ≡ true → with_bits ≡ both
        shared e =
            ap (λ (xs : Trace). apply (block_width g) xs disk)
            (bit_stores_shared entry (entry_not_zero g entry block) e)
            ∙ sym (set_block_again (block_width g) disk (block_count g) whole (bit_address g slot)
            (omega (arith, bit_address_lt g f slot inside)) (bitmap_with g disk slot true)
            (length-bitmap_with g f disk whole slot inside true) (bit_address g (slot_of g entry))
            (eqb-true (bit_address g slot) (bit_address g (slot_of g entry)) e)
            (bitmap_with g with_new (slot_of g entry) false)
            (length-bitmap_with g f with_new whole_new (slot_of g entry) block.slot_inside false))

        apart : is_shared g slot (slot_of g entry) ≡ false → with_bits ≡ both
        apart e =
            ap (λ (xs : Trace). apply (block_width g) xs disk)
            (bit_stores_apart entry (entry_not_zero g entry block) e)

    pub bit_stores_stored : All (Stored (block_width g) (block_count g)) (bit_stores g disk entry slot)
    bit_stores_stored = by old
      where
        first : Stored (block_width g) (block_count g) (bit_store g disk slot true)
        first =
            (omega (arith, bit_address_lt g f slot inside), length-bitmap_with g f disk whole slot inside true)

        second : SlotBlock g 0 entry → Stored (block_width g) (block_count g) (cleared entry)
        second block = (
          omega (arith, bit_address_lt g f (slot_of g entry) block.slot_inside),
          length-bitmap_with g f with_new whole_new (slot_of g entry) block.slot_inside false,
        )

        by : OldPlace g entry → All (Stored (block_width g) (block_count g)) (bit_stores g disk entry slot)
        by (inl e) = rw (bit_stores_none entry e) (first, tt)
        by (inr block) =
            let ne = entry_not_zero g entry block in
            ⊎_elim (λ e. rw (bit_stores_shared entry ne e) (second block, tt))
            (λ e. rw (bit_stores_apart entry ne e) (first, (second block, tt)))
            (bool_cases (is_shared g slot (slot_of g entry)))

    -- ---- the bits after them ----

    pub bitmap_bit-with_bits_new :
        (entry ≢ 0 → slot_of g entry ≢ slot) → bitmap_bit g with_bits (area_place g slot) ≡ true
    bitmap_bit-with_bits_new apart = by old
      where
        by : OldPlace g entry → bitmap_bit g with_bits (area_place g slot) ≡ true
        by (inl e) =
            ap (λ (d : Bytes). bitmap_bit g d (area_place g slot)) (with_bits_none e)
            ∙ bitmap_bit_marked_same g f disk whole slot inside true
        by (inr block) =
            ap (λ (d : Bytes). bitmap_bit g d (area_place g slot)) (with_bits_some block)
            ∙ bitmap_bit_marked_other g f with_new whole_new (slot_of g entry) block.slot_inside false
            (area_place g slot)
            (area_place_apart g (slot_of g entry) slot (λ e. apart (entry_not_zero g entry block) (sym e)))
            ∙ bitmap_bit_marked_same g f disk whole slot inside true

    pub bitmap_bit-with_bits_old : entry ≢ 0 → bitmap_bit g with_bits (area_place g (slot_of g entry)) ≡ false
    bitmap_bit-with_bits_old ne = by old
      where
        by : OldPlace g entry → bitmap_bit g with_bits (area_place g (slot_of g entry)) ≡ false
        by (inl e) = absurd (ne e)
        by (inr block) =
            ap (λ (d : Bytes). bitmap_bit g d (area_place g (slot_of g entry))) (with_bits_some block)
            ∙ bitmap_bit_marked_same g f with_new whole_new (slot_of g entry) block.slot_inside false

    pub bitmap_bit-with_bits_other :
        (place : ℕ) → place ≢ area_place g slot → (entry ≢ 0 → place ≢ area_place g (slot_of g entry)) →
        bitmap_bit g with_bits place ≡ bitmap_bit g disk place
    bitmap_bit-with_bits_other place ne apart = by old
      where
        by : OldPlace g entry → bitmap_bit g with_bits place ≡ bitmap_bit g disk place
        by (inl e) =
            ap (λ (d : Bytes). bitmap_bit g d place) (with_bits_none e)
            ∙ bitmap_bit_marked_other g f disk whole slot inside true place ne
        by (inr block) =
            ap (λ (d : Bytes). bitmap_bit g d place) (with_bits_some block)
            ∙ bitmap_bit_marked_other g f with_new whole_new (slot_of g entry) block.slot_inside false place
            (apart (entry_not_zero g entry block))
            ∙ bitmap_bit_marked_other g f disk whole slot inside true place ne

-- ---- where the stores go ----

pub addresses-bit_stores :
    (g : Geometry) (disk : Bytes) (entry : DiskAddress) (slot : ℕ) →
    addresses (bit_stores g disk entry slot) ≡
    bit_address g slot ∷ cond (is_one_block g entry slot) [] (bit_address g (slot_of g entry) ∷ [])
unfolding addresses bit_stores moved_stores
addresses-bit_stores g disk entry slot =
    by (eqb entry 0) (is_shared g slot (slot_of g entry))
    (eqb-true (bit_address g slot) (bit_address g (slot_of g entry)))
  where
    new : Store
    new = bit_store g disk slot true

    old : Store
    old = bit_store g (apply (block_width g) (new ∷ []) disk) (slot_of g entry) false

    by : (isNew isOne : Bool) → (isOne ≡ true → bit_address g slot ≡ bit_address g (slot_of g entry)) →
        addresses (cond isNew (new ∷ []) (cond isOne (old ∷ []) (new ∷ old ∷ []))) ≡
        bit_address g slot ∷ cond (isNew || isOne) [] (bit_address g (slot_of g entry) ∷ [])
    by true isOne h = refl
    by false true h = ap (λ (a : ℕ). a ∷ []) (sym (h refl))
    by false false h = refl

-- the addresses of the last round after its slot and the root
pub addresses-map_stores :
    (g : Geometry) (disk : Bytes) (number slot : ℕ) →
    addresses (map_stores write_public g disk number slot) ++ (0 ∷ []) ≡
    map_address g number ∷ bit_address g slot ∷
    cond (is_one_block g (map_entry g disk number) slot) (0 ∷ [])
    (bit_address g (slot_of g (map_entry g disk number)) ∷ 0 ∷ [])
unfolding addresses map_stores
addresses-map_stores g disk number slot =
    ap (λ (xs : List ℕ). map_address g number ∷ (xs ++ (0 ∷ [])))
    (addresses-bit_stores g disk (map_entry g disk number) slot)
    ∙ by (is_one_block g (map_entry g disk number) slot)
  where
    old : DiskAddress
    old = bit_address g (slot_of g (map_entry g disk number))

    by : (b : Bool) →
        map_address g number ∷ bit_address g slot ∷ (cond b [] (old ∷ []) ++ (0 ∷ [])) ≡
        map_address g number ∷ bit_address g slot ∷ cond b (0 ∷ []) (old ∷ 0 ∷ [])
    by true = refl
    by false = refl
