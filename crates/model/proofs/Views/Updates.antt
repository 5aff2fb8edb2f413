-- What the simulator keeps after a write: one entry and two marks set are those of the disk that the write
-- leaves. Assumes nothing.
use mathlib.Core.Path.{◌≡◌, sym, ◌∙◌}
use mathlib.Core.Logic.{◌≢◌, ◌⊎◌, inl, inr}
use mathlib.Core.Bool.{Bool, true, false, cond}
use mathlib.Core.List.{List}
use Prim.Native.Nat.{ℕ, ◌<◌}
use lib.Dec.{eqb}
use lib.ListN.{length, get_or, set, length-set}
use lib.Seq.{get_or-set_same, get_or-set_other}
use borrow.Author.Tests.{eq-eqb, ne_eqb}
use Rattle.laws.proofs.Cases.{eq_cases}
use Rattle.laws.proofs.Joins.{set_of-get_d}
use Rattle.model.specs.Geometry.{Geometry}
use Rattle.model.specs.Blocks.{Bytes, DiskAddress}
use Rattle.model.specs.Layout.{slot_of, map_entry, is_allocated}
use Rattle.model.specs.Simulator.{entries_from, allocated_from}
use Rattle.model.proofs.Views.Tracking.{length-entries_from, length-allocated_from, get_d_entries}
use Rattle.model.proofs.Views.Tracking.{get_d_allocated}

module _ (g : Geometry) (disk after : Bytes) where
  pub entries_from_after :
      (number value : ℕ) → number < g.publics → map_entry g after number ≡ value →
      ((other : ℕ) → other < g.publics → other ≢ number → map_entry g after other ≡ map_entry g disk other) →
      entries_from g after 0 g.publics ≡ set (entries_from g disk 0 g.publics) number value
  entries_from_after number value h here others =
      let sized = length-entries_from g disk 0 g.publics in
      set_of-get_d 0 (entries_from g after 0 g.publics) (entries_from g disk 0 g.publics) number value
      (length-entries_from g after 0 g.publics ∙ sym sized) (rw sized h)
      (get_d_entries g after number h ∙ here)
      (λ i l ne. let k : i < g.publics = rw sized at l in get_d_entries g after i k ∙ others i k ne
      ∙ sym (get_d_entries g disk i k))

  -- the marks with one slot's mark set
  allocated_from-set :
      (marks : List Bool) (slot : ℕ) (is_set : Bool) → length marks ≡ g.slots → slot < g.slots →
      is_allocated g after slot ≡ is_set →
      ((other : ℕ) → other < g.slots → other ≢ slot → is_allocated g after other ≡ get_or marks other false) →
      allocated_from g after 0 g.slots ≡ set marks slot is_set
  allocated_from-set marks slot is_set sized h here others =
      set_of-get_d false (allocated_from g after 0 g.slots) marks slot is_set
      (length-allocated_from g after 0 g.slots ∙ sym sized) (rw sized h)
      (get_d_allocated g after slot h ∙ here)
      (λ i l ne. let k : i < g.slots = rw sized at l in get_d_allocated g after i k ∙ others i k ne)

  pub allocated_from_after :
      (entry : DiskAddress) (last : ℕ) → last < g.slots → (entry ≢ 0 → slot_of g entry < g.slots) →
      is_allocated g after last ≡ true → (entry ≢ 0 → is_allocated g after (slot_of g entry) ≡ false) →
      ((slot : ℕ) → slot < g.slots → slot ≢ last →
      (entry ≢ 0 → slot ≢ slot_of g entry) → is_allocated g after slot ≡ is_allocated g disk slot) →
      allocated_from g after 0 g.slots ≡
      set (cond (eqb entry 0) (allocated_from g disk 0 g.slots)
      (set (allocated_from g disk 0 g.slots) (slot_of g entry) false)) last true
  allocated_from_after entry last h old_inside new old others = by (eq_cases entry 0)
    where
      marks : List Bool
      marks = allocated_from g disk 0 g.slots

      sized : length marks ≡ g.slots
      sized = length-allocated_from g disk 0 g.slots

      by : (entry ≡ 0) ⊎ (entry ≢ 0) →
          allocated_from g after 0 g.slots ≡
          set (cond (eqb entry 0) marks (set marks (slot_of g entry) false)) last true
      by (inl e) =
          rw (eq-eqb entry 0 e)
          (allocated_from-set marks last true sized h new
          (λ slot l ne. others slot l ne (λ z. absurd (z e)) ∙ sym (get_d_allocated g disk slot l)))
      by (inr z) =
          rw (ne_eqb entry 0 z)
          (allocated_from-set (set marks (slot_of g entry) false) last true
          (length-set marks (slot_of g entry) false ∙ sized) h new
          (λ slot l ne. at slot l ne (eq_cases slot (slot_of g entry))))
        where
          at :
              (slot : ℕ) → slot < g.slots → slot ≢ last → (slot ≡ slot_of g entry) ⊎ (slot ≢ slot_of g entry) →
              is_allocated g after slot ≡ get_or (set marks (slot_of g entry) false) slot false
          at slot l ne (inl e) =
              rw (e, get_or-set_same marks (slot_of g entry) false false (rw sized (old_inside z))) (old z)
          at slot l ne (inr apart) =
              others slot l ne (λ _. apart) ∙ sym (get_d_allocated g disk slot l)
              ∙ sym (get_or-set_other marks (slot_of g entry) slot false false apart)
