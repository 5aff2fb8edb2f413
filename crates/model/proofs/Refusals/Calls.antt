-- The calls' refusals: each call's chain answers its conditions. Assumes nothing.
use mathlib.Core.List.{◌++◌}
use Prim.Native.Nat.{ℕ, ◌<◌}
use lib.ListN.{length}
use Rattle.laws.proofs.Checks.{Passed, zero_of_passed}
use Rattle.model.specs.Geometry.{Geometry}
use Rattle.model.specs.Blocks.{Bytes}
use Rattle.model.specs.Layout.{geometry_in, head_in}
use Rattle.model.specs.Refusals.{size_checks, size_refusal, drive_checks, drive_refusal, place_checks}
use Rattle.model.specs.Refusals.{round_checks, hidden_checks, walk_checks, format_refusal}
use Rattle.model.specs.Refusals.{public_read_refusal, write_refusal, hidden_read_refusal}
use Rattle.model.specs.Conditions.{Answers, size_conditions, drive_conditions, place_conditions}
use Rattle.model.specs.Conditions.{round_conditions, hidden_conditions, walk_conditions}
use Rattle.model.proofs.Laws.Refusals.{accepted_of_refusal}
use Rattle.model.proofs.Refusals.Answers.{judges_append, answers_of_judges}
use Rattle.model.proofs.Refusals.Drive.{judges_size, judges_drive}
use Rattle.model.proofs.Refusals.Places.{judges_place}
use Rattle.model.proofs.Refusals.Rounds.{judges_round}
use Rattle.model.proofs.Refusals.Hidden.{judges_hidden, judges_walk}

pub answers_format :
    (disk : Bytes) (g : Geometry) → Answers (size_conditions (length disk) g) (format_refusal disk g)
unfolding size_refusal
answers_format disk g = answers_of_judges (size_checks (length disk) g) _ (judges_size (length disk) g)

-- the head is one of the slots on a drive that has passed 1 to 3
head_of_passed : (disk : Bytes) → Passed (drive_checks disk) → head_in disk < (geometry_in disk).slots
unfolding drive_refusal
head_of_passed disk p = (accepted_of_refusal disk (zero_of_passed (drive_checks disk) p)).head_inside

module _ (disk : Bytes) (number : ℕ) where
  pub answers_public_read :
      (blank : Bytes) →
      Answers (drive_conditions disk ++ place_conditions (geometry_in disk) disk number (length blank))
      (public_read_refusal disk number blank)
  unfolding public_read_refusal
  answers_public_read blank =
      answers_of_judges (drive_checks disk ++ place_checks (geometry_in disk) disk number (length blank)) _
      (judges_append (drive_checks disk) _ (drive_conditions disk) _ (judges_drive disk)
      (λ p. judges_place (geometry_in disk) disk number (length blank)))

  pub answers_hidden_read :
      (blank : Bytes) →
      Answers
      (drive_conditions disk ++
      (hidden_conditions (geometry_in disk) number (length blank) ++
      walk_conditions (geometry_in disk) disk number))
      (hidden_read_refusal disk number blank)
  unfolding hidden_read_refusal
  answers_hidden_read blank =
      let g = geometry_in disk in
      let own = hidden_checks g number (length blank) in
      answers_of_judges (drive_checks disk ++ (own ++ walk_checks g disk number)) _
      (judges_append (drive_checks disk) _ (drive_conditions disk) _ (judges_drive disk)
      (λ p. judges_append own _ (hidden_conditions g number (length blank)) _
      (judges_hidden g number (length blank)) (λ q. judges_walk g disk number)))

  pub answers_write :
      (content : Bytes) (random room : ℕ) →
      Answers
      (drive_conditions disk ++
      (place_conditions (geometry_in disk) disk number (length content) ++
      round_conditions (geometry_in disk) disk number random room))
      (write_refusal disk number content random room)
  unfolding write_refusal
  answers_write content random room =
      let g = geometry_in disk in
      let own = place_checks g disk number (length content) in
      answers_of_judges (drive_checks disk ++ (own ++ round_checks g disk number random room)) _
      (judges_append (drive_checks disk) _ (drive_conditions disk) _ (judges_drive disk)
      (λ p. judges_append own _ (place_conditions g disk number (length content)) _
      (judges_place g disk number (length content))
      (λ q. judges_round g disk number random room (head_of_passed disk p))))
