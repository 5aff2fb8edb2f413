-- Two drives that show the same are recovered to drives that show the same, or refused alike (document 02,
-- K5): a recovery reads header and map, and changes the bitmap alone, all of which is shown. Its steps in
-- their order: the map's entries, the bitmap without bits, the bits set. Assumes nothing.
use mathlib.Core.Path.{◌≡◌, refl, sym, ap, ◌∙◌, subst}
use mathlib.Core.Logic.{◌≢◌, inl, inr, ⊎_elim}
use mathlib.Core.Bool.{true, not, ◌&&◌}
use mathlib.Core.List.{List, [], ◌∷◌}
use Prim.Native.Nat.{ℕ, ◌+◌, ◌≤◌, ◌<◌}
use native.Mathlib.Omega.{arith}
use Rattle.laws.specs.Checks.{check, first_of}
use Rattle.laws.proofs.Cases.{lt_cases, eq_cases}
use Rattle.model.specs.Geometry.{Geometry, Fits, map_blocks, root_address, block_count, block_width}
use Rattle.model.specs.Blocks.{Bytes, DiskAddress, block_at}
use Rattle.model.specs.Layout.{geometry_in, slot_of}
use Rattle.model.specs.Rounds.{bit_store}
use Rattle.model.specs.View.{shown_of}
use Rattle.model.proofs.Laws.Stores.{apply_one}
use Rattle.model.proofs.Laws.Refusals.{after_drive_pass}
use Rattle.model.proofs.Views.Agreement.{none, more, agree_apply}
use Rattle.model.proofs.Views.Shown.{ShowSame}
use Rattle.model.proofs.Views.Sides.{map_entry_alike, bit_store_alike}
use Rattle.model.proofs.Views.Drives.{Twins, geometry_in_twins}
use Rattle.model.proofs.Volumes.Writes.{fits_of_accepted}
use Rattle.recovery_model.specs.Recovery.{used_entries, are_starts, are_apart, map_checks, recovery_refusal}
use Rattle.recovery_model.specs.Recovery.{without_bits, with_mark, with_marks, recovered}
use Rattle.recovery_model.proofs.Laws.Used.{used_from_same}
use Rattle.recovery_model.proofs.Laws.Marks.{Elsewhere, are_starts_later, slot_of_lt_of-are_starts}
use Rattle.recovery_model.proofs.Laws.Marks.{length-without_bits, block_at-without_bits_elsewhere}
use Rattle.recovery_model.proofs.Laws.Marks.{block_at-without_bits_zeros}
use Rattle.recovery_model.proofs.Laws.SameButBits.{geometry_in_torn, drive_refusal_torn}
use Rattle.recovery_model.proofs.Laws.MapRefusal.{are_starts_of_recovery}
use Rattle.recovery_model.proofs.Laws.Recovery.{recovered_done, recovered_refused}
use Rattle.recovery_model.proofs.Laws.Recovery.{same_but_bits-recovered}

module _ (g : Geometry) (f : Fits g) where
  module _ (disk other : Bytes) (same : ShowSame g disk other) where
    -- ---- the map's entries ----

    used_entries_alike : used_entries g disk ≡ used_entries g other
    used_entries_alike =
        used_from_same g disk other 0 g.publics
        (λ number h. map_entry_alike g f disk other same number (omega arith))

    map_checks_alike : map_checks g disk ≡ map_checks g other
    unfolding map_checks
    map_checks_alike =
        ap (λ (used : List DiskAddress). check (not (are_starts g used && are_apart used)) 17 ∷ [])
        used_entries_alike

    -- ---- the bitmap without bits ----

    kept :
        (address : DiskAddress) → Elsewhere g address →
        shown_of g address (block_at (block_width g) (without_bits g disk) address) ≡
        shown_of g address (block_at (block_width g) (without_bits g other) address)
    kept address h =
        rw (
          block_at-without_bits_elsewhere g f disk same.whole address h,
          block_at-without_bits_elsewhere g f other same.other_whole address h,
        ) (same.same_shown address)

    cleared :
        (address : DiskAddress) → 1 + map_blocks g ≤ address → address < root_address g →
        shown_of g address (block_at (block_width g) (without_bits g disk) address) ≡
        shown_of g address (block_at (block_width g) (without_bits g other) address)
    cleared address h l =
        ap (shown_of g address)
        (block_at-without_bits_zeros g f disk same.whole address h l
        ∙ sym (block_at-without_bits_zeros g f other same.other_whole address h l))

    without_bits_alike : ShowSame g (without_bits g disk) (without_bits g other)
    without_bits_alike =
        record {
          whole = length-without_bits g f disk same.whole ∙ same.whole;
          other_whole = length-without_bits g f other same.other_whole ∙ same.other_whole;
          same_shown = λ address. ⊎_elim (λ h. kept address (inl h))
              (λ h. ⊎_elim (λ l. cleared address h l) (λ l. kept address (inr l))
              (lt_cases address (root_address g)))
              (lt_cases address (1 + map_blocks g));
        }

    -- ---- the bits set ----

    with_mark_alike :
        (slot : ℕ) → slot < g.slots → ShowSame g (with_mark g slot disk) (with_mark g slot other)
    with_mark_alike slot h =
        rw (
          apply_one (block_width g) (bit_store g disk slot true) disk,
          apply_one (block_width g) (bit_store g other slot true) other,
        ) at (agree_apply (shown_of g) g.block_size (block_count g)
        (more (bit_store_alike g f disk other same slot true h) none) same)

  with_marks_alike :
      (entries : List DiskAddress) → are_starts g entries ≡ true → (disk other : Bytes) →
      ShowSame g disk other → ShowSame g (with_marks g entries disk) (with_marks g entries other)
  unfolding with_marks
  with_marks_alike [] starts disk other same = same
  with_marks_alike (entry ∷ later) starts disk other same =
      let slot = slot_of g entry in
      with_marks_alike later (are_starts_later g entry later starts) (with_mark g slot disk)
      (with_mark g slot other)
      (with_mark_alike disk other same slot (slot_of_lt_of-are_starts g entry later starts))

-- ---- a recovery ----

module _ (disk other : Bytes) (twins : Twins disk other) where
  abbrev g : Geometry
  g = geometry_in disk

  f : Fits (geometry_in disk)
  f = fits_of_accepted g disk refl twins.accepted

  states_other : geometry_in other ≡ geometry_in disk
  states_other = sym (geometry_in_twins disk other twins)

  -- refused alike
  pub recovery_refusal_twins : recovery_refusal disk ≡ recovery_refusal other
  unfolding recovery_refusal
  recovery_refusal_twins =
      after_drive_pass disk (map_checks g disk) twins.accepted
      ∙ ap first_of (map_checks_alike g f disk other twins.show_same)
      ∙ ap (λ (h : Geometry). first_of (map_checks h other)) (sym states_other)
      ∙ sym (after_drive_pass other (map_checks (geometry_in other) other) twins.other_accepted)

  done : recovery_refusal disk ≡ 0 → Twins (recovered disk) (recovered other)
  done good =
      let good-other = sym recovery_refusal_twins ∙ good in
      let torn = same_but_bits-recovered g disk refl good in
      record {
        accepted = drive_refusal_torn g disk (recovered disk) refl twins.accepted torn;
        other_accepted =
            drive_refusal_torn g other (recovered other) states_other twins.other_accepted
            (same_but_bits-recovered g other states_other good-other);
        show_same =
            subst (λ (h : Geometry). ShowSame h (recovered disk) (recovered other))
            (sym (geometry_in_torn g disk (recovered disk) refl twins.accepted torn))
            (rw (
              recovered_done g disk refl good,
              recovered_done g other states_other good-other,
              ← used_entries_alike g f disk other twins.show_same,
            )
            (with_marks_alike g f (used_entries g disk) (are_starts_of_recovery g disk refl good)
            (without_bits g disk) (without_bits g other)
            (without_bits_alike g f disk other twins.show_same)));
      }

  refused : recovery_refusal disk ≢ 0 → Twins (recovered disk) (recovered other)
  refused ne =
      rw (recovered_refused disk ne, recovered_refused other (λ e. ne (recovery_refusal_twins ∙ e))) twins

  pub recovered_twins : Twins (recovered disk) (recovered other)
  recovered_twins = ⊎_elim done refused (eq_cases (recovery_refusal disk) 0)
