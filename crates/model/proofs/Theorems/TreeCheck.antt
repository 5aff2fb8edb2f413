-- The whole-tree check: its chain answers its conditions, it passes just the drives with the hidden
-- invariant, which every call keeps, and under which no call meets damage. Assumes nothing.
use mathlib.Core.Path.{◌≡◌, refl, sym, ◌∙◌, subst}
use mathlib.Core.Logic.{⊎_elim}
use mathlib.Core.List.{List}
use Rattle.laws.proofs.Cases.{eq_cases}
use Rattle.laws.proofs.Checks.{zero_of_passed}
use Rattle.model.specs.Geometry.{Geometry}
use Rattle.model.specs.Blocks.{Bytes}
use Rattle.model.specs.Layout.{geometry_in}
use Rattle.model.specs.Refusals.{drive_refusal, format_refusal}
use Rattle.model.specs.Calls.{formatted}
use Rattle.model.specs.Invariants.{HiddenInvariant}
use Rattle.model.specs.Runs.{Call, disk_after_all}
use Rattle.model.specs.TreeCheck.{met_entries, tree_checks, tree_refusal}
use Rattle.model.specs.Promises.TreeCheck.{TreeCheck}
use Rattle.model.proofs.Laws.Refusals.{drive_refusal_of_chain, passed_after_drive, after_drive_pass}
use Rattle.model.proofs.Laws.TreeCheck.{numbered_met}
use Rattle.model.proofs.Laws.Formatting.{formatted_refused}
use Rattle.model.proofs.Refusals.Tree.{answers_tree}
use Rattle.model.proofs.Tree.Check.{sound_of_passes, passes_of_sound}
use Rattle.model.proofs.Volumes.Writes.{fits_of_accepted}
use Rattle.model.proofs.Volumes.Fresh.{formatted_sound}
use Rattle.model.proofs.Volumes.Damage.{HiddenSound, hidden_sound_of_sound, calls_keep_hidden_sound}
use Rattle.model.proofs.Volumes.Damage.{never_damaged_of_sound}
use Rattle.model.proofs.Theorems.TreeFigures.{tree_figures}

-- ---- passing is being sound ----

pub accepted_of_pass : (disk : Bytes) → tree_refusal disk ≡ 0 → drive_refusal disk ≡ 0
unfolding tree_refusal
accepted_of_pass disk e = drive_refusal_of_chain disk (tree_checks (geometry_in disk) disk) e

pub sound_of_pass : (disk : Bytes) → tree_refusal disk ≡ 0 → HiddenInvariant (geometry_in disk) disk
unfolding tree_refusal
sound_of_pass disk e =
    let g = geometry_in disk in
    sound_of_passes g (fits_of_accepted g disk refl (accepted_of_pass disk e)) disk
    (passed_after_drive disk (tree_checks g disk) (numbered_met g disk (met_entries g disk)) e)

pub pass_of_sound : (g : Geometry) (disk : Bytes) → HiddenSound g disk → tree_refusal disk ≡ 0
unfolding tree_refusal
pass_of_sound g disk sound =
    let stated = geometry_in disk in
    let kept =
    subst (λ (h : Geometry). HiddenInvariant h disk) (sym sound.geometry) sound.hidden_sound in
    after_drive_pass disk (tree_checks stated disk) sound.accepted
    ∙ zero_of_passed (tree_checks stated disk)
    (passes_of_sound stated (fits_of_accepted stated disk refl sound.accepted) disk kept)

hidden_sound_of_pass : (disk : Bytes) → tree_refusal disk ≡ 0 → HiddenSound (geometry_in disk) disk
hidden_sound_of_pass disk e =
    record { geometry = refl; accepted = accepted_of_pass disk e; hidden_sound = sound_of_pass disk e }

-- ---- after calls ----

kept_by_calls : (disk : Bytes) (calls : List Call) → tree_refusal disk ≡ 0 →
    tree_refusal (disk_after_all disk calls) ≡ 0
kept_by_calls disk calls e =
    let g = geometry_in disk in
    pass_of_sound g (disk_after_all disk calls)
    (calls_keep_hidden_sound g calls disk (hidden_sound_of_pass disk e))

fresh_passes : (disk : Bytes) (g : Geometry) → format_refusal disk g ≡ 0 → tree_refusal (formatted disk g) ≡ 0
fresh_passes disk g good =
    pass_of_sound g (formatted disk g)
    (hidden_sound_of_sound g (formatted disk g) (formatted_sound disk g good))

pub tree_check : TreeCheck
tree_check =
    record {
      figures = tree_figures;
      exact = answers_tree;
      passed_accepted = accepted_of_pass;
      passed_sound = sound_of_pass;
      sound_passes = λ disk accepted sound.
          pass_of_sound (geometry_in disk) disk
          (record { geometry = refl; accepted = accepted; hidden_sound = sound });
      kept = kept_by_calls;
      never_damaged = λ disk calls e.
          never_damaged_of_sound (disk_after_all disk calls)
          (hidden_sound_of_pass (disk_after_all disk calls) (kept_by_calls disk calls e));
      fresh = fresh_passes;
      format_kept = λ disk g e. ⊎_elim
          (λ good. fresh_passes disk g good)
          (λ f. subst (λ (left : Bytes). tree_refusal left ≡ 0) (sym (formatted_refused disk g f)) e)
          (eq_cases (format_refusal disk g) 0);
    }
