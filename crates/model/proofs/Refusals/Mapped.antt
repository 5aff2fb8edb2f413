-- Where each set bit is that of a public number's place, a free slot is among the first P + 1 from the head
-- on: the numbers' places are at most P slots. Assumes nothing.
use mathlib.Core.Path.{◌≡◌, ap, ◌∙◌, sym}
use mathlib.Core.Bool.{true}
use Prim.Native.Nat.{ℕ, ◌+◌, ◌≤◌, ◌<◌}
use native.Mathlib.Nat.{mod-lt}
use native.Mathlib.Omega.{arith}
use Rattle.laws.proofs.Pigeonhole.{Reached, reached_le}
use Rattle.model.specs.Geometry.{Geometry, Fits}
use Rattle.model.specs.Blocks.{Bytes}
use Rattle.model.specs.Layout.{head_in, slot_of, area_place, is_allocated, map_entry}
use Rattle.model.specs.Refusals.{round_count}
use Rattle.model.specs.Invariants.{BitmapInvariant}
use Rattle.model.proofs.Laws.Slots.{slot_of-slot_start, slot_after}
use Rattle.model.proofs.Laws.Bitmap.{area_place_lt, is_allocated_bit}
use Rattle.model.proofs.Refusals.Circle.{index_from, index_from-slot_after, none_free, first_free}
use Rattle.model.proofs.Refusals.Rounds.{HeadFinds, head_finds}

module _ (g : Geometry) (f : Fits g) (disk : Bytes) (v : BitmapInvariant g disk) where
  -- how many slots after the head a number's place is
  abbrev place_index : (number : ℕ) → ℕ
  place_index number = index_from g (head_in disk) (slot_of g (map_entry g disk number))

  -- an allocated slot is some public number's place
  reached_of_allocated :
      (index : ℕ) → head_in disk < g.slots → index < g.slots →
      is_allocated g disk (slot_after g (head_in disk) index) ≡ true → Reached place_index g.publics index
  reached_of_allocated index inside h e =
      let slot = slot_after g (head_in disk) index in
      let l : slot < g.slots = mod-lt (head_in disk + index) (omega arith) in
      let found = v.mapped (area_place g slot) (area_place_lt g f slot l)
      (sym (is_allocated_bit g disk slot) ∙ e) in
      record {
        at = found.0;
        below = found.1;
        value_is =
            ap (λ (address : ℕ). index_from g (head_in disk) (slot_of g address)) found.2
            ∙ ap (index_from g (head_in disk)) (slot_of-slot_start g slot)
            ∙ index_from-slot_after g (head_in disk) inside index h;
      }

  rounds_le : {rounds : ℕ} → head_in disk < g.slots → HeadFinds g disk rounds → rounds ≤ g.publics + 1
  rounds_le inside (none_free all) = omega arith
  rounds_le inside (first_free {index = index} l e before) =
      let h : index ≤ g.publics =
      reached_le index g.publics place_index
      (λ value k. reached_of_allocated value inside (omega arith) (before value k)) in
      omega arith

  pub round_count_le_of_mapped : head_in disk < g.slots → round_count g disk ≤ g.publics + 1
  round_count_le_of_mapped inside = rounds_le inside (head_finds g disk inside)
