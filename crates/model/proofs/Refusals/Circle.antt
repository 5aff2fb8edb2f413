-- The slots in a circle, counted from one on: how many on a slot is, and what `rounds_to` finds there: 0 where
-- all are taken, else the first free one. Assumes nothing.
use mathlib.Core.Path.{◌≡◌, sym, ap, ◌∙◌}
use mathlib.Core.Logic.{◌⊎◌, inl, inr}
use mathlib.Core.Bool.{Bool, true, false, cond}
use Prim.Native.Nat.{ℕ, zero, suc, ◌+◌, ◌-◌, ◌%◌, ◌≤◌, ◌<◌}
use native.Mathlib.Nat.{mod-lt, mod-eq_of_lt, mod-add-mod, add-mod-mod, add-mod_right}
use native.Mathlib.Omega.{arith}
use Rattle.laws.proofs.Cases.{bool_cases, cond_cases}
use Rattle.model.specs.Geometry.{Geometry}
use Rattle.model.specs.Blocks.{Bytes}
use Rattle.model.specs.Layout.{head_in, next_slot, is_allocated}
use Rattle.model.specs.Refusals.{one_more_than, rounds_to, round_count}
use Rattle.model.proofs.Laws.Slots.{slot_after, slot_after_next, slot_after-zero}

-- ---- how many slots on ----

-- how many slots on another slot is
abbrev pub index_from : Geometry → (slot other : ℕ) → ℕ
index_from g slot other = (other + (g.slots - slot)) % g.slots

module _ (g : Geometry) (slot : ℕ) (inside : slot < g.slots) where
  pub slot_after-index_from : (other : ℕ) → other < g.slots → slot_after g slot (index_from g slot other) ≡ other
  slot_after-index_from other h =
      let e : slot + (other + (g.slots - slot)) ≡ other + g.slots = omega arith in
      add-mod-mod slot (other + (g.slots - slot)) g.slots ∙ ap (λ (n : ℕ). n % g.slots) e
      ∙ add-mod_right other g.slots ∙ mod-eq_of_lt h

  pub index_from-slot_after : (index : ℕ) → index < g.slots → index_from g slot (slot_after g slot index) ≡ index
  index_from-slot_after index h =
      let e : slot + index + (g.slots - slot) ≡ index + g.slots = omega arith in
      mod-add-mod (slot + index) g.slots (g.slots - slot) ∙ ap (λ (n : ℕ). n % g.slots) e
      ∙ add-mod_right index g.slots ∙ mod-eq_of_lt h

  pub index_from_lt : (other : ℕ) → index_from g slot other < g.slots
  index_from_lt other = let p : 0 < g.slots = omega arith in mod-lt (other + (g.slots - slot)) p

-- ---- what the rounds say ----

-- of so many slots from one on: all are taken, or the last of the rounds is at the first free one
pub data RoundsTo (most : ℕ) (is_taken : ℕ → Bool) (g : Geometry) (slot : ℕ) : (rounds : ℕ) → Type 0 where
  none_free : ((index : ℕ) → index < most → is_taken (slot_after g slot index) ≡ true) →
      RoundsTo most is_taken g slot 0
  first_free : {index : ℕ} → index < most → is_taken (slot_after g slot index) ≡ false →
      ((before : ℕ) → before < index → is_taken (slot_after g slot before) ≡ true) →
      RoundsTo most is_taken g slot (suc index)

module _ (is_taken : ℕ → Bool) (g : Geometry) where
  -- one taken slot in front
  taken_before :
      (slot count : ℕ) → slot < g.slots → is_taken slot ≡ true →
      ((index : ℕ) → index < count → is_taken (slot_after g (next_slot g slot) index) ≡ true) →
      (index : ℕ) → index < suc count → is_taken (slot_after g slot index) ≡ true
  taken_before slot count h e f zero l = ap is_taken (slot_after-zero g slot h) ∙ e
  taken_before slot count h e f (suc index) l =
      ap is_taken (sym (slot_after_next g slot index)) ∙ f index (omega arith)

  one_more :
      (most slot : ℕ) {rounds : ℕ} → slot < g.slots → is_taken slot ≡ true →
      RoundsTo most is_taken g (next_slot g slot) rounds → RoundsTo (suc most) is_taken g slot (one_more_than rounds)
  one_more most slot h e (none_free f) = none_free (taken_before slot most h e f)
  one_more most slot h e (first_free {index = index} l q f) =
      first_free {index = suc index} (omega arith) (ap is_taken (sym (slot_after_next g slot index)) ∙ q)
      (taken_before slot index h e f)

  pub rounds_to_is :
      (most slot : ℕ) → slot < g.slots → RoundsTo most is_taken g slot (rounds_to most is_taken g slot)
  unfolding rounds_to
  rounds_to_is zero slot h = none_free (λ index l. absurd (omega arith))
  rounds_to_is (suc most) slot h =
      by (bool_cases (is_taken slot)) (rounds_to_is most (next_slot g slot) (mod-lt (slot + 1) (omega arith)))
    where
      by : (is_taken slot ≡ true) ⊎ (is_taken slot ≡ false) →
          RoundsTo most is_taken g (next_slot g slot) (rounds_to most is_taken g (next_slot g slot)) →
          RoundsTo (suc most) is_taken g slot
          (cond (is_taken slot) (one_more_than (rounds_to most is_taken g (next_slot g slot))) 1)
      by (inl e) later = rw e (one_more most slot h e later)
      by (inr e) later =
          rw e (first_free {index = 0} (omega arith) (ap is_taken (slot_after-zero g slot h) ∙ e)
          (λ index l. absurd (omega arith)))

  one_more_le : (rounds most : ℕ) → rounds ≤ most → one_more_than rounds ≤ suc most
  one_more_le zero most h = omega arith
  one_more_le (suc rounds) most h = omega arith

  rounds_to_le : (most slot : ℕ) → rounds_to most is_taken g slot ≤ most
  unfolding rounds_to
  rounds_to_le zero slot = omega arith
  rounds_to_le (suc most) slot =
      cond_cases (λ (n : ℕ). n ≤ suc most) (is_taken slot)
      (λ e. one_more_le (rounds_to most is_taken g (next_slot g slot)) most (rounds_to_le most (next_slot g slot)))
      (λ e. omega arith)

-- a write takes at most a round for each slot
pub round_count_le : (g : Geometry) (disk : Bytes) → round_count g disk ≤ g.slots
round_count_le g disk = rounds_to_le (is_allocated g disk) g g.slots (head_in disk)
