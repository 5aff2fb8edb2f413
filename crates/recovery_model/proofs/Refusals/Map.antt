-- Refusal 17: the test of the map holds exactly if some entry other than 0 is no slot's public block or is
-- shared by two numbers, and a recovery's chain answers its conditions. Assumes nothing.
use mathlib.Core.Path.{◌≡◌, refl, ap, ◌∙◌}
use mathlib.Core.Logic.{◌⊎◌, inl, inr, ⊎_elim}
use mathlib.Core.Bool.{true, not, ◌&&◌}
use mathlib.Core.List.{◌++◌}
use native.Mathlib.Omega.{arith}
use borrow.Author.Tests.{not-true, not-false}
use Rattle.laws.proofs.Cases.{and_left, and_right, bool_cases, true_is_not_false}
use Rattle.laws.proofs.Decides.{Decides}
use Rattle.model.specs.Geometry.{Geometry}
use Rattle.model.specs.Blocks.{Bytes}
use Rattle.model.specs.Layout.{geometry_in, slot_of, is_slot_block, map_entry}
use Rattle.model.specs.Refusals.{drive_checks}
use Rattle.model.specs.Conditions.{Answers, drive_conditions}
use Rattle.model.proofs.Laws.Slots.{is_slot_block-slot_start, slot_block_of}
use Rattle.model.proofs.Refusals.Answers.{Judges, judges_append, answers_of_judges}
use Rattle.model.proofs.Refusals.Drive.{judges_drive}
use Rattle.recovery_model.specs.Recovery.{used_entries, are_starts, are_apart, map_checks, recovery_refusal}
use Rattle.recovery_model.specs.MapConditions.{NoStart, SharedEntry, map_conditions}
use Rattle.recovery_model.proofs.Laws.MapTests.{Unstarted, Sharing, start_of_used}
use Rattle.recovery_model.proofs.Laws.MapTests.{unstarted_of_are_starts, apart_of_are_apart}
use Rattle.recovery_model.proofs.Laws.MapTests.{sharing_of_are_apart}

module _ (g : Geometry) (disk : Bytes) where
  -- ---- an entry that is no slot's public block ----

  no_start_of_unstarted : Unstarted g disk 0 g.publics → NoStart g disk
  no_start_of_unstarted fault =
      record {
        number = fault.owner;
        inside = omega arith;
        mapped = fault.mapped;
        no_start = λ slot h e.
            true_is_not_false (ap (is_slot_block g 0) e ∙ is_slot_block-slot_start g slot h) fault.no_start;
      }

  started : are_starts g (used_entries g disk) ≡ true → NoStart g disk → ⊥
  started e fault =
      let entry = map_entry g disk fault.number in
      let block =
      slot_block_of g 0 entry
      (start_of_used g disk 0 g.publics e entry
      (record {
        owner = fault.number;
        low = omega arith;
        high = omega (arith, fault.inside);
        mapped = fault.mapped;
        entry_is = refl;
      })) in
      fault.no_start (slot_of g entry) block.slot_inside (omega (arith, block.address_is))

  -- ---- or that two numbers share ----

  shared_entry_of_sharing : Sharing g disk 0 g.publics → SharedEntry g disk
  shared_entry_of_sharing pair =
      record {
        number = pair.first;
        other = pair.second;
        before = pair.before;
        inside = omega arith;
        mapped = pair.mapped;
        shared = pair.shared;
      }

  apart : are_apart (used_entries g disk) ≡ true → SharedEntry g disk → ⊥
  apart e pair =
      apart_of_are_apart g disk 0 g.publics e
      (record {
        first = pair.number;
        second = pair.other;
        low = omega arith;
        before = pair.before;
        high = omega (arith, pair.inside);
        mapped = pair.mapped;
        shared = pair.shared;
      })

  -- ---- the test ----

  decides_map :
      Decides (not (are_starts g (used_entries g disk) && are_apart (used_entries g disk)))
      (NoStart g disk ⊎ SharedEntry g disk)
  decides_map =
      let used = used_entries g disk in
      record {
        holds = λ e. ⊎_elim
            (λ t.
            inr (shared_entry_of_sharing
            (sharing_of_are_apart g disk 0 g.publics
            (rw t at (not-true (are_starts g used && are_apart used) e)))))
            (λ t. inl (no_start_of_unstarted (unstarted_of_are_starts g disk 0 g.publics t)))
            (bool_cases (are_starts g used));
        fails = λ e.
            let both = not-false (are_starts g used && are_apart used) e in
            ⊎_elim (started (and_left (are_starts g used) (are_apart used) both))
            (apart (and_right (are_starts g used) (are_apart used) both));
      }

  judges_map : Judges (map_checks g disk) (map_conditions g disk)
  unfolding map_checks
  judges_map = (refl, decides_map, λ e. tt)

-- ---- the call ----

pub answers_recovery :
    (disk : Bytes) →
    Answers (drive_conditions disk ++ map_conditions (geometry_in disk) disk) (recovery_refusal disk)
unfolding recovery_refusal
answers_recovery disk =
    let g = geometry_in disk in
    answers_of_judges (drive_checks disk ++ map_checks g disk) _
    (judges_append (drive_checks disk) (map_checks g disk) (drive_conditions disk) (map_conditions g disk)
    (judges_drive disk) (λ p. judges_map g disk))
