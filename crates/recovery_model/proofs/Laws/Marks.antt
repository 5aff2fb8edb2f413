-- Laws of the bitmap as a recovery stores it: with no bit set, with a slot's bit set, and with the bits of
-- given places set; of each the length, the blocks elsewhere, and the bits. Assumes nothing.
use mathlib.Core.Path.{◌≡◌, refl, sym, ap, ◌∙◌}
use mathlib.Core.Logic.{◌≢◌, ◌⊎◌, inl, inr, ⊎_elim}
use mathlib.Core.Bool.{Bool, true, false, ◌||◌}
use mathlib.Core.List.{List, [], ◌∷◌}
use Prim.Native.Nat.{ℕ, ◌+◌, ◌*◌, ◌-◌, ◌≤◌, ◌<◌}
use native.Mathlib.Nat.{add-mul, mul-le-mul_right}
use native.Mathlib.Omega.{arith}
use lib.Dec.{eqb}
use lib.ListN.{length, length-replicate}
use borrow.Author.Tests.{eq-eqb, ne_eqb}
use Rattle.laws.proofs.Cases.{and_left, and_right, eq_cases}
use Rattle.laws.proofs.Lists.{length_over, part_over_before, part_over_after, part_over_inside, part_zeros}
use Rattle.model.specs.Geometry.{Geometry, Fits, is_one_of, map_blocks, bitmap_blocks, root_address, area_start}
use Rattle.model.specs.Geometry.{block_count, block_width}
use Rattle.model.specs.Blocks.{Bytes, DiskAddress, block_at, zero_block}
use Rattle.model.specs.Layout.{slot_of, area_place, is_slot_block, bit_address, bitmap_with}
use Rattle.model.specs.Invariants.{bitmap_bit}
use Rattle.model.proofs.Laws.Geometry.{bit_address_lt}
use Rattle.model.proofs.Laws.Blocks.{block_at_is, length-set_block, block_at-set_block_other}
use Rattle.model.proofs.Laws.Slots.{SlotBlock, slot_block_of}
use Rattle.model.proofs.Laws.Bitmap.{block_of_bit, block_of_bit_lt, bitmap_bit_zeros, length-bitmap_with}
use Rattle.model.proofs.Laws.Bitmap.{bitmap_bit_marked_same, bitmap_bit_marked_other}
use Rattle.recovery_model.specs.Recovery.{are_starts, without_bits, with_mark, with_marks}

-- an address outside the bitmap
abbrev pub Elsewhere : Geometry → DiskAddress → Type 0
Elsewhere g address = (address < 1 + map_blocks g) ⊎ (root_address g ≤ address)

-- ---- places that are all block A of a slot ----

module _ (g : Geometry) (entry : DiskAddress) (later : List DiskAddress)
    (good : are_starts g (entry ∷ later) ≡ true) where
  pub are_starts_later : are_starts g later ≡ true
  unfolding are_starts
  are_starts_later = and_right (is_slot_block g 0 entry) (are_starts g later) good

  first_block : SlotBlock g 0 entry
  unfolding are_starts
  first_block = slot_block_of g 0 entry (and_left (is_slot_block g 0 entry) (are_starts g later) good)

  pub slot_of_lt_of-are_starts : slot_of g entry < g.slots
  slot_of_lt_of-are_starts = first_block.slot_inside

  first_is : entry ≡ area_start g + area_place g (slot_of g entry)
  first_is = omega (arith, first_block.address_is)

module _ (g : Geometry) (f : Fits g) where
  module _ (disk : Bytes) (whole : length disk ≡ block_count g * g.block_size) where
    -- ---- no bit set ----

    abbrev start : ℕ
    start = (1 + map_blocks g) * g.block_size

    abbrev zeros : Bytes
    zeros = zero_block (bitmap_blocks g * g.block_size)

    length_zeros : length zeros ≡ bitmap_blocks g * g.block_size
    length_zeros = length-replicate (bitmap_blocks g * g.block_size) 0

    -- the bitmap ends where the root begins
    bitmap_end : start + length zeros ≡ root_address g * g.block_size
    bitmap_end = omega (arith, length_zeros, add-mul (1 + map_blocks g) (bitmap_blocks g) g.block_size)

    bitmap_inside : start + length zeros ≤ length disk
    bitmap_inside =
        let l : root_address g ≤ block_count g = omega arith in
        omega (arith, bitmap_end, mul-le-mul_right g.block_size l)

    pub length-without_bits : length (without_bits g disk) ≡ length disk
    unfolding without_bits
    length-without_bits = length_over zeros disk start bitmap_inside

    pub block_at-without_bits_elsewhere :
        (address : DiskAddress) → Elsewhere g address →
        block_at (block_width g) (without_bits g disk) address ≡ block_at (block_width g) disk address
    unfolding without_bits
    block_at-without_bits_elsewhere address (inl h) =
        block_at_is (block_width g) (without_bits g disk) address
        ∙ part_over_before zeros disk start bitmap_inside (address * g.block_size) g.block_size
        (omega (arith, mul-le-mul_right g.block_size h))
        ∙ sym (block_at_is (block_width g) disk address)
    block_at-without_bits_elsewhere address (inr h) =
        block_at_is (block_width g) (without_bits g disk) address
        ∙ part_over_after zeros disk start bitmap_inside (address * g.block_size) g.block_size
        (omega (arith, bitmap_end, mul-le-mul_right g.block_size h))
        ∙ sym (block_at_is (block_width g) disk address)

    pub block_at-without_bits_zeros :
        (address : DiskAddress) → 1 + map_blocks g ≤ address → address < root_address g →
        block_at (block_width g) (without_bits g disk) address ≡ zero_block g.block_size
    unfolding without_bits
    block_at-without_bits_zeros address low high =
        let later : ℕ = address - (1 + map_blocks g) in
        let split : 1 + map_blocks g + later ≡ address = omega arith in
        let at : address * g.block_size ≡ start + later * g.block_size =
        ap (λ (n : ℕ). n * g.block_size) (sym split) ∙ add-mul (1 + map_blocks g) later g.block_size in
        let l : later + 1 ≤ bitmap_blocks g = omega arith in
        let inside : later * g.block_size + g.block_size ≤ bitmap_blocks g * g.block_size =
        omega (arith, mul-le-mul_right g.block_size l) in
        block_at_is (block_width g) (without_bits g disk) address
        ∙ rw at (part_over_inside zeros disk start bitmap_inside (later * g.block_size) g.block_size
        (omega (arith, length_zeros)))
        ∙ part_zeros (later * g.block_size) g.block_size (bitmap_blocks g * g.block_size) inside

    pub bitmap_bit-without_bits :
        (place : ℕ) → place < bitmap_blocks g * (8 * g.block_size) →
        bitmap_bit g (without_bits g disk) place ≡ false
    bitmap_bit-without_bits place h =
        bitmap_bit_zeros g (without_bits g disk) place
        (block_at-without_bits_zeros (block_of_bit g place) (omega arith) (block_of_bit_lt g f place h))

    -- ---- a slot's bit set ----

    module _ (slot : ℕ) (inside : slot < g.slots) where
      bit_address_inside : bit_address g slot < block_count g
      bit_address_inside = omega (arith, bit_address_lt g f slot inside)

      sized : length (bitmap_with g disk slot true) ≡ g.block_size
      sized = length-bitmap_with g f disk whole slot inside true

      length-with_mark : length (with_mark g slot disk) ≡ length disk
      length-with_mark =
          length-set_block (block_width g) disk (block_count g) whole (bit_address g slot) bit_address_inside
          (bitmap_with g disk slot true) sized

      block_at-with_mark_elsewhere :
          (address : DiskAddress) → Elsewhere g address →
          block_at (block_width g) (with_mark g slot disk) address ≡ block_at (block_width g) disk address
      block_at-with_mark_elsewhere address h =
          block_at-set_block_other (block_width g) disk (block_count g) whole (bit_address g slot)
          bit_address_inside
          (bitmap_with g disk slot true) sized address
          (λ e. ⊎_elim (λ l. omega arith) (λ l. omega (arith, bit_address_lt g f slot inside)) h)

  -- ---- the bits of given places set ----

  pub length-with_marks :
      (entries : List DiskAddress) (disk : Bytes) → length disk ≡ block_count g * g.block_size →
      are_starts g entries ≡ true → length (with_marks g entries disk) ≡ length disk
  unfolding with_marks
  length-with_marks [] disk whole good = refl
  length-with_marks (entry ∷ later) disk whole good =
      let e = length-with_mark disk whole (slot_of g entry) (slot_of_lt_of-are_starts g entry later good) in
      length-with_marks later (with_mark g (slot_of g entry) disk) (e ∙ whole)
      (are_starts_later g entry later good) ∙ e

  pub block_at-with_marks_elsewhere :
      (entries : List DiskAddress) (disk : Bytes) → length disk ≡ block_count g * g.block_size →
      are_starts g entries ≡ true → (address : DiskAddress) → Elsewhere g address →
      block_at (block_width g) (with_marks g entries disk) address ≡ block_at (block_width g) disk address
  unfolding with_marks
  block_at-with_marks_elsewhere [] disk whole good address h = refl
  block_at-with_marks_elsewhere (entry ∷ later) disk whole good address h =
      let inside = slot_of_lt_of-are_starts g entry later good in
      block_at-with_marks_elsewhere later (with_mark g (slot_of g entry) disk)
      (length-with_mark disk whole (slot_of g entry) inside ∙ whole) (are_starts_later g entry later good)
      address h
      ∙ block_at-with_mark_elsewhere disk whole (slot_of g entry) inside address h

  -- a bit is 1 if it was, or if it is that of one of them
  pub bitmap_bit-with_marks :
      (entries : List DiskAddress) (disk : Bytes) → length disk ≡ block_count g * g.block_size →
      are_starts g entries ≡ true → (place : ℕ) →
      bitmap_bit g (with_marks g entries disk) place ≡
      (bitmap_bit g disk place || is_one_of (area_start g + place) entries)
  unfolding with_marks
  bitmap_bit-with_marks [] disk whole good place = by (bitmap_bit g disk place)
    where
      by : (is_set : Bool) → is_set ≡ (is_set || false)
      by true = refl
      by false = refl
  bitmap_bit-with_marks (entry ∷ later) disk whole good place =
      bitmap_bit-with_marks later (with_mark g slot disk) (length-with_mark disk whole slot inside ∙ whole)
      (are_starts_later g entry later good) place
      ∙ ⊎_elim same different (eq_cases place (area_place g slot))
    where
      slot : ℕ
      slot = slot_of g entry

      inside : slot < g.slots
      inside = slot_of_lt_of-are_starts g entry later good

      rest : Bool
      rest = is_one_of (area_start g + place) later

      set : (is_set : Bool) → true ≡ (is_set || true)
      set true = refl
      set false = refl

      same : place ≡ area_place g slot →
          (bitmap_bit g (with_mark g slot disk) place || rest) ≡
          (bitmap_bit g disk place || (eqb (area_start g + place) entry || rest))
      same e =
          let at : area_start g + place ≡ entry = omega (arith, first_is g entry later good) in
          rw (eq-eqb (area_start g + place) entry at)
          (ap (λ (is_set : Bool). is_set || rest)
          (ap (bitmap_bit g (with_mark g slot disk)) e ∙ bitmap_bit_marked_same g f disk whole slot inside true)
          ∙ set (bitmap_bit g disk place))

      different : place ≢ area_place g slot →
          (bitmap_bit g (with_mark g slot disk) place || rest) ≡
          (bitmap_bit g disk place || (eqb (area_start g + place) entry || rest))
      different ne =
          let apart : area_start g + place ≢ entry = λ e. ne (omega (arith, first_is g entry later good)) in
          rw (ne_eqb (area_start g + place) entry apart)
          (ap (λ (is_set : Bool). is_set || rest)
          (bitmap_bit_marked_other g f disk whole slot inside true place ne))
