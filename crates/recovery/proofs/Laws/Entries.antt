-- Laws of an entry of the map that is 0 or block A of one of the slots: where its slot is, and what the whole
-- map is told to be where every entry is held to it. Assumes nothing.
use mathlib.Core.Path.{◌≡◌, refl, sym, ap, subst, ◌∙◌}
use mathlib.Core.Logic.{◌≢◌}
use mathlib.Core.Bool.{Bool, true, false, ◌&&◌}
use mathlib.Core.List.{[]}
use Prim.Native.Nat.{ℕ, zero, suc, ◌+◌, ◌≤◌, ◌<◌}
use native.Mathlib.Numerals.{add-one}
use native.Mathlib.Omega.{arith}
use Rattle.std.specs.Prelude.{MatchBool, length, get_or}
use Rattle.std.specs.List.{range_with_len, AllWithin, HoldsAt}
use Rattle.std.proofs.lemmas.List.FromFn.{length-range_with_len, get_or-range_with_len}
use Rattle.laws.proofs.Cases.{and_both, and_false_left, and_false_right}
use Rattle.model.specs.Geometry.{Geometry, area_start}
use Rattle.model.specs.Blocks.{Bytes, DiskAddress}
use Rattle.model.specs.Layout.{slot_of, map_entry}
use Rattle.model.proofs.Laws.Slots.{SlotBlock, slot_block_of}
use Rattle.recovery_model.specs.Recovery.{unless_zero, used_from, used_entries, are_starts, with_mark, with_marks}
use Rattle.recovery_model.proofs.Laws.Steps.{are_starts_some, are_starts_nil, are_starts-append, used_from-zero}
use Rattle.recovery_model.proofs.Laws.Steps.{used_from_end, used_entries_split, with_marks_some}

-- ---- one entry ----

module _ (g : Geometry) (entry : DiskAddress) (start : are_starts g (unless_zero entry []) ≡ true)
    (some : entry ≢ 0) where
  pub formed_block : SlotBlock g 0 entry
  formed_block = slot_block_of g 0 entry (sym (are_starts_some g entry some) ∙ start)

  pub formed_above : area_start g ≤ entry
  formed_above = omega (arith, formed_block.address_is)

  pub formed_slot : (slot : ℕ) → slot ≡ slot_of g entry → slot < g.slots
  formed_slot slot e = rw e formed_block.slot_inside

pub entry_marked :
    (g : Geometry) (entry : DiskAddress) (disk : Bytes) → entry ≢ 0 → (slot : ℕ) → slot ≡ slot_of g entry →
    (after : Bytes) → after ≡ with_mark g slot disk → after ≡ with_marks g (unless_zero entry []) disk
entry_marked g entry disk some slot e after marked =
    marked ∙ ap (λ (at : ℕ). with_mark g at disk) e ∙ sym (with_marks_some g entry disk some)

-- ---- the entries of the map ----

module _ (g : Geometry) (disk : Bytes) where
  -- the number's entry is 0 or a slot's start, or not
  abbrev pub FormedAs : (is : Bool) (number : ℕ) → Type 0
  FormedAs is number = is ≡ are_starts g (unless_zero (map_entry g disk number) [])

  -- one more number
  one_more : (number : ℕ) (is : Bool) → FormedAs is number →
      are_starts g (used_from g disk 0 (number + 1)) ≡ (are_starts g (used_from g disk 0 number) && is)
  one_more number is e =
      ap (are_starts g) (used_from_end g disk number)
      ∙ are_starts-append g (used_from g disk 0 number) (unless_zero (map_entry g disk number) [])
      ∙ ap (λ (b : Bool). are_starts g (used_from g disk 0 number) && b) (sym e)

  -- every number
  starts_before : (number : ℕ) → ((k : ℕ) → k < number → FormedAs true k) →
      are_starts g (used_from g disk 0 number) ≡ true
  starts_before zero each = ap (are_starts g) (used_from-zero g disk 0) ∙ are_starts_nil g
  starts_before (suc number) each =
      ap (λ (n : ℕ). are_starts g (used_from g disk 0 n)) (sym (add-one number))
      ∙ one_more number true (each number (omega arith))
      ∙ and_both (starts_before number (λ k h. each k (omega arith))) refl

  -- not every number
  not_starts : (number : ℕ) → number < g.publics → FormedAs false number →
      are_starts g (used_entries g disk) ≡ false
  not_starts number inside e =
      ap (are_starts g) (used_entries_split g disk (number + 1) (omega arith))
      ∙ are_starts-append g (used_from g disk 0 (number + 1)) _
      ∙ and_false_left _ (one_more number false e
      ∙ and_false_right (are_starts g (used_from g disk 0 number)) refl)

  there : (k : ℕ) → k < g.publics → get_or (range_with_len 0 g.publics) k 0 ≡ k
  there k h = get_or-range_with_len 0 g.publics k 0 h ∙ omega arith

  -- what the numbers were asked for one after another, until one was not so
  pub map_formed :
      (all : Bool) →
      MatchBool all
      (AllWithin (FormedAs true) (range_with_len 0 g.publics) 0 (length (range_with_len 0 g.publics)))
      ((k : ℕ) × (k < length (range_with_len 0 g.publics)) ×
      HoldsAt (FormedAs false) (range_with_len 0 g.publics) k) →
      all ≡ are_starts g (used_entries g disk)
  map_formed true each =
      let long = length-range_with_len 0 g.publics in
      sym (starts_before g.publics
      (λ k h. subst (FormedAs true) (there k h) (each k 0 (omega arith) (omega arith))))
  map_formed false (k, h, one) =
      let long = length-range_with_len 0 g.publics in
      let inside : k < g.publics = omega arith in
      sym (not_starts k inside (subst (FormedAs false) (there k inside) (one 0)))
