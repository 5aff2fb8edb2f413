-- Laws of the loop that notes every number's entry in the bits of one window of slots: its invariant, one
-- more entry, an entry that was noted before, and the end. Assumes nothing.
use mathlib.Core.Path.{◌≡◌, sym, ap, ap₂, subst, ◌∙◌}
use mathlib.Core.Logic.{◌≢◌, ⊎_elim}
use mathlib.Core.Bool.{Bool, true, false, not, ◌&&◌, ◌||◌, or-false}
use Prim.Native.Nat.{ℕ, ◌+◌, ◌*◌, ◌-◌, ◌/◌, ◌≤◌, ◌<◌}
use native.Mathlib.Nat.{add-mul, mul-le-mul_right, mul-div_cancel, div-lt_iff_lt-mul}
use native.Mathlib.Omega.{arith}
use lib.Dec.{eqb}
use lib.ListN.{length, replicate, length-replicate}
use borrow.Author.Tests.{eq-eqb, ne_eqb}
use Rattle.laws.specs.Bits.{bit_at, set_bit}
use Rattle.laws.proofs.Bits.{length-set_bit, bit_at-set_bit_same, bit_at-set_bit_other, bit_at_zeros}
use Rattle.laws.proofs.Cases.{bool_cases, lt_cases, eq_cases, and_ext, cond_true, cond_false}
use Rattle.laws.proofs.Cases.{or_right, true_is_not_false}
use Rattle.model.specs.Geometry.{Geometry, is_one_of, slot_width}
use Rattle.model.specs.Blocks.{Bytes, DiskAddress}
use Rattle.model.specs.Layout.{slot_start, slot_of, map_entry}
use Rattle.model.proofs.Laws.Bitmap.{area_place_apart}
use Rattle.recovery_model.specs.Recovery.{used_from}
use Rattle.recovery_model.proofs.Laws.Steps.{used_from-zero, used_from_end, used_entries_split}
use Rattle.recovery_model.proofs.Laws.Steps.{start_of_are_starts}
use Rattle.recovery.specs.Windows.{window_slots, window_end, window_place, is_within, are_apart_within}
use Rattle.recovery.specs.Windows.{Noted, Started, is_window_apart}
use Rattle.recovery.proofs.Laws.Entries.{formed_block}
use Rattle.recovery.proofs.Laws.Windows.{within_low, within_high, within_inside, is_one_of_end}
use Rattle.recovery.proofs.Laws.Windows.{are_apart_within_nil, are_apart_within_end, are_apart_within_front}

-- where the window that begins at a slot ends
abbrev end_of : Geometry → (first : ℕ) → DiskAddress
end_of g first = window_end (slot_start g first) (slot_width g)

-- the entries of the numbers before one are noted: a slot's bit is 1 exactly if its start is one of them, and
-- none in the window comes twice
pub record Scanning (g : Geometry) (disk : Bytes) (first number : ℕ) (seen : Bytes) : Type 0 where
  pub sized : length seen ≡ 4096
  pub bits :
      (place : ℕ) → place < window_slots →
      bit_at place seen ≡ is_one_of (slot_start g first + place * slot_width g) (used_from g disk 0 number)
  pub apart : are_apart_within (slot_start g first) (end_of g first) (used_from g disk 0 number) ≡ true

-- what was noted by the numbers that the code works out is noted of the number's entry in the window
pub noted_read :
    (g : Geometry) (first : ℕ) {low width : ℕ} → low ≡ slot_start g first → width ≡ slot_width g →
    {entry read : DiskAddress} → entry ≡ read → {seen after : Bytes} {was : Bool} →
    Noted low width entry seen after was → Noted (slot_start g first) (slot_width g) read seen after was
noted_read g first {low} {width} l w {entry} {read} e {seen} {after} {was} noted =
    subst (λ (n : ℕ). Noted n (slot_width g) read seen after was) l
    (subst (λ (n : ℕ). Noted low n read seen after was) w
    (subst (λ (n : ℕ). Noted low width n seen after was) e noted))

module _ (g : Geometry) (disk : Bytes) (started : Started g disk) (first : ℕ) (first_lt : first < g.slots)
  where
    -- ---- the start and the end ----

    pub scanning_none : Scanning g disk first 0 (replicate 4096 0)
    scanning_none =
        record {
          sized = length-replicate {A = ℕ} 4096 0;
          bits = λ place h. bit_at_zeros place 4096 ∙ rw (used_from-zero g disk 0);
          apart = rw (used_from-zero g disk 0) (are_apart_within_nil (slot_start g first) (end_of g first));
        }

    -- ---- one more entry ----

    module _ (number : ℕ) (inside : number < g.publics) where
      abbrev entry : DiskAddress
      entry = map_entry g disk number

      abbrev is_here : Bool
      is_here = is_within (slot_start g first) (end_of g first) entry

      abbrev at : ℕ
      at = window_place (slot_start g first) (slot_width g) entry

      -- an entry of the window is the start of the slot that its place counts to
      entry_at_lem : is_here ≡ true → slot_start g first + at * slot_width g ≡ entry
      entry_at_lem here =
          let low : slot_start g first ≤ entry = within_low (slot_start g first) (end_of g first) entry here in
          let start = start_of_are_starts g disk started.starts number inside in
          let block = formed_block g entry start (λ z. omega arith) in
          let slot = slot_of g entry in
          let width : 0 < slot_width g = omega arith in
          let past : first ≤ slot = ⊎_elim
          (λ (l : slot < first). absurd (omega (arith, block.address_is, mul-le-mul_right (slot_width g) l)))
          (λ l. l) (lt_cases slot first) in
          let whole : first + (slot - first) ≡ slot = omega arith in
          let times : (first + (slot - first)) * slot_width g ≡ slot * slot_width g =
          ap (λ (n : ℕ). n * slot_width g) whole in
          let more : entry - slot_start g first ≡ (slot - first) * slot_width g =
          omega (arith, block.address_is, add-mul first (slot - first) (slot_width g)) in
          let counted : at ≡ slot - first =
          ap (λ (n : ℕ). n / slot_width g) more ∙ mul-div_cancel (slot - first) width in
          let again : at * slot_width g ≡ (slot - first) * slot_width g =
          ap (λ (n : ℕ). n * slot_width g) counted in
          omega arith

      at_lt : is_here ≡ true → at < window_slots
      at_lt here =
          let low : slot_start g first ≤ entry = within_low (slot_start g first) (end_of g first) entry here in
          let high : entry < end_of g first = within_high (slot_start g first) (end_of g first) entry here in
          let width : 0 < slot_width g = omega arith in
          (div-lt_iff_lt-mul width).1 (omega arith)

      module _ (seen : Bytes) (before : Scanning g disk first number seen) (after : Bytes) (was : Bool)
          (noted : Noted (slot_start g first) (slot_width g) entry seen after was) where
        -- it was noted before exactly if it is in the window and one of the entries before it
        was_is : was ≡ (is_here && is_one_of entry (used_from g disk 0 number))
        was_is =
            noted.was_noted
            ∙ and_ext is_here
            (λ here. before.bits at (at_lt here)
            ∙ ap (λ (e : DiskAddress). is_one_of e (used_from g disk 0 number)) (entry_at_lem here))

        apart_is :
            are_apart_within (slot_start g first) (end_of g first) (used_from g disk 0 (number + 1)) ≡ not was
        apart_is =
            ap (are_apart_within (slot_start g first) (end_of g first)) (used_from_end g disk number)
            ∙ are_apart_within_end (slot_start g first) (end_of g first) (omega arith) (used_from g disk 0 number)
            entry
            ∙ ap (λ (b : Bool). b && not (is_here && is_one_of entry (used_from g disk 0 number))) before.apart
            ∙ ap not (sym was_is)

        -- outside the window nothing is noted, inside it the entry's bit is set
        after_away : is_here ≡ false → after ≡ seen
        after_away away = noted.noted ∙ cond_false _ seen away

        after_here : is_here ≡ true → after ≡ set_bit at true seen
        after_here here = noted.noted ∙ cond_true _ seen here

        length_after : length after ≡ 4096
        length_after = ⊎_elim
            (λ here. ap length (after_here here) ∙ length-set_bit at true seen ∙ before.sized)
            (λ away. ap length (after_away away) ∙ before.sized) (bool_cases is_here)

        -- a slot's bit is 1 exactly if its start is one of the entries, this one with them
        module _ (place : ℕ) (place_lt : place < window_slots) where
          abbrev start : DiskAddress
          start = slot_start g first + place * slot_width g

          abbrev BitIs : Type 0
          BitIs = bit_at place after ≡ (is_one_of start (used_from g disk 0 number) || eqb start entry)

          bit_away : is_here ≡ false → BitIs
          bit_away away =
              let within : start ≢ entry = λ e.
              true_is_not_false
              (ap (is_within (slot_start g first) (end_of g first)) (sym e)
              ∙ within_inside (slot_start g first) (end_of g first) start (omega arith)
              (omega (arith, mul-le-mul_right (slot_width g) place_lt))) away in
              ap (bit_at place) (after_away away) ∙ before.bits place place_lt
              ∙ rw (ne_eqb start entry within) (sym (or-false (is_one_of start (used_from g disk 0 number))))

          bit_same : is_here ≡ true → place ≡ at → BitIs
          bit_same here e =
              let byte : at / 8 < length seen = omega (arith, at_lt here, before.sized) in
              ap₂ bit_at e (after_here here) ∙ bit_at-set_bit_same at true seen byte
              ∙ sym (or_right (is_one_of start (used_from g disk 0 number))
              (eq-eqb start entry
              (ap (λ (n : ℕ). slot_start g first + n * slot_width g) e ∙ entry_at_lem here)))

          bit_other : is_here ≡ true → place ≢ at → BitIs
          bit_other here ne =
              let byte : at / 8 < length seen = omega (arith, at_lt here, before.sized) in
              let other : start ≢ entry = λ e.
              area_place_apart g at place ne (omega (arith, entry_at_lem here)) in
              ap (bit_at place) (after_here here) ∙ bit_at-set_bit_other at place true seen byte ne
              ∙ before.bits place place_lt
              ∙ rw (ne_eqb start entry other) (sym (or-false (is_one_of start (used_from g disk 0 number))))

          bit_is : BitIs
          bit_is = ⊎_elim
              (λ here. ⊎_elim (bit_same here) (bit_other here) (eq_cases place at))
              bit_away (bool_cases is_here)

        pub scanning_next : was ≡ false → Scanning g disk first (number + 1) after
        scanning_next e =
            record {
              sized = length_after;
              bits = λ place h.
                  bit_is place h
                  ∙ sym (ap (is_one_of (slot_start g first + place * slot_width g)) (used_from_end g disk number)
                  ∙ is_one_of_end (slot_start g first + place * slot_width g) (used_from g disk 0 number) entry
                  (λ z. omega arith));
              apart = apart_is ∙ ap not e;
            }

        pub scanning_shared : was ≡ true → false ≡ is_window_apart g disk first
        scanning_shared e =
            let next : number + 1 ≤ g.publics = omega arith in
            let low = slot_start g first in
            sym (ap (are_apart_within low (end_of g first)) (used_entries_split g disk (number + 1) next)
            ∙ are_apart_within_front low (end_of g first) (used_from g disk 0 (number + 1)) _
            (apart_is ∙ ap not e))
