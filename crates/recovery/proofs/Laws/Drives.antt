-- Laws of what a recovery answers and leaves: a drive mended or left as it is, and the call. Assumes nothing.
use mathlib.Core.Path.{◌≡◌, sym, ap, ap₂, subst, ◌∙◌}
use mathlib.Core.Logic.{◌≢◌, ⊎_elim}
use mathlib.Core.List.{List}
use Prim.Native.Nat.{ℕ}
use borrow.Author.Tests.{eq-eqb, ne_eqb}
use Rattle.laws.specs.Checks.{first_of}
use Rattle.laws.proofs.Cases.{eq_cases, cond_true, cond_false}
use Rattle.model.specs.Geometry.{Geometry}
use Rattle.model.specs.Blocks.{Bytes, DiskAddress}
use Rattle.model.specs.Layout.{Drive}
use Rattle.model.specs.Refusals.{drive_refusal}
use Rattle.layout.specs.Drives.{RefusedBy, OpenedWith}
use Rattle.recovery_model.specs.Recovery.{used_entries, are_starts, map_checks, recovery_refusal}
use Rattle.recovery_model.specs.Recovery.{with_marks, without_bits, recovered}
use Rattle.recovery_model.proofs.Laws.StepDisks.{used_entries_same, same_map-without_bits, starts_of_map_checks}
use Rattle.recovery_model.proofs.Laws.StepDisks.{recovery_refusal_drive, recovery_refusal-map}
use Rattle.recovery_model.proofs.Laws.Recovery.{recovered_refused, recovered_done}
use Rattle.recovery.specs.Windows.{Started}
use Rattle.recovery.specs.Drives.{MendedAs, RecoveredAs}

-- ---- a drive mended ----

module _ (g : Geometry) (disk : Bytes) where
  module _ (drive : Drive g disk) (accepted : first_of (map_checks g disk) ≡ 0) (cleared : Bytes)
      (e : cleared ≡ without_bits g disk) where
    used_cleared : used_entries g cleared ≡ used_entries g disk
    used_cleared =
        ap (used_entries g) e ∙ used_entries_same g disk (without_bits g disk) (same_map-without_bits g disk drive)

    pub cleared_started : Started g cleared
    cleared_started =
        record {
          drive = subst (Drive g) (sym e) (same_map-without_bits g disk drive).drive;
          starts = ap (are_starts g) used_cleared ∙ starts_of_map_checks g disk accepted;
        }

    pub mended_good :
        (after : Bytes) → after ≡ with_marks g (used_entries g cleared) cleared → MendedAs g disk after 0
    mended_good after m =
        record {
          answered = sym accepted;
          stored =
              m
              ∙ ap₂ (λ (used : List DiskAddress) (bytes : Bytes). with_marks g used bytes) used_cleared e
              ∙ sym (cond_true _ disk (eq-eqb (first_of (map_checks g disk)) 0 accepted));
        }

-- ---- the call ----

module _ (disk : Bytes) where
  pub recovered_no_drive : (fault : ℕ) → RefusedBy (drive_refusal disk) fault → RecoveredAs disk disk fault
  recovered_no_drive fault told =
      let refused = recovery_refusal_drive disk (λ z. told.fault_some (told.fault_is ∙ z)) in
      record {
        answered = told.fault_is ∙ sym refused;
        stored = sym (recovered_refused disk (λ z. told.fault_some (told.fault_is ∙ sym refused ∙ z)));
      }

  module _ (g : Geometry) (opened : OpenedWith (drive_refusal disk) disk g) (after : Bytes) (answer : ℕ)
      (mended : MendedAs g disk after answer) where
    refusal_is : recovery_refusal disk ≡ first_of (map_checks g disk)
    refusal_is =
        recovery_refusal-map disk opened.accepted
        ∙ ap (λ (stated : Geometry). first_of (map_checks stated disk)) (sym opened.same)

    mended_stored : recovery_refusal disk ≡ 0 → after ≡ recovered disk
    mended_stored z =
        mended.stored
        ∙ cond_true _ disk (eq-eqb (first_of (map_checks g disk)) 0 (sym refusal_is ∙ z))
        ∙ sym (recovered_done g disk (sym opened.same) z)

    refused_stored : recovery_refusal disk ≢ 0 → after ≡ recovered disk
    refused_stored ne =
        mended.stored
        ∙ cond_false _ disk (ne_eqb (first_of (map_checks g disk)) 0 (λ z. ne (refusal_is ∙ z)))
        ∙ sym (recovered_refused disk ne)

    pub recovered_drive : RecoveredAs disk after answer
    recovered_drive =
        record {
          answered = mended.answered ∙ sym refusal_is;
          stored = ⊎_elim mended_stored refused_stored (eq_cases (recovery_refusal disk) 0);
        }
