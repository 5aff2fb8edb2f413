-- A write that is lent what it takes now is not refused: the checks of what it takes have passed, and 8 and 9
-- pass by what is lent. Assumes nothing.
use mathlib.Core.Path.{◌≡◌, refl, sym, ap, ◌∙◌}
use mathlib.Core.Logic.{⊎_elim}
use mathlib.Core.List.{List, ◌++◌}
use Prim.Native.Nat.{ℕ, ◌*◌, ◌≤◌}
use native.Mathlib.Omega.{arith}
use lib.ListN.{length}
use borrow.Author.Tests.{le-ltb}
use Rattle.laws.specs.Checks.{Check, first_of}
use Rattle.laws.proofs.Cases.{eq_cases}
use Rattle.laws.proofs.Checks.{Passed, passed_front, passed_rest, passed_append, zero_of_passed}
use Rattle.model.specs.Geometry.{Geometry}
use Rattle.model.specs.Blocks.{Bytes}
use Rattle.model.specs.Layout.{geometry_in}
use Rattle.model.specs.Refusals.{drive_checks, place_checks, round_count, write_store_count}
use Rattle.model.specs.Refusals.{round_checks, write_refusal}
use Rattle.model.specs.Needs.{Needed, needs_refusal, needed_for, needs_of, Suffices}
use Rattle.model.proofs.Laws.Refusals.{drive_refusal_of_chain, passed_of_drive_refusal}
use Rattle.model.proofs.Laws.Refusals.{passed_after_drive}
use Rattle.model.proofs.Laws.Needs.{last_check, needs_of_refused, needs_of_good}

module _ (disk : Bytes) (number : ℕ) where
  abbrev g : Geometry
  g = geometry_in disk

  abbrev place : ℕ → List Check
  place size = place_checks g disk number size

  -- ---- what has passed ----

  needs_refusal_of_answer : (needs_of disk number).answer ≡ 0 → needs_refusal disk number ≡ 0
  needs_refusal_of_answer e =
      ⊎_elim (λ z. z)
      (λ f. absurd (f (ap (λ (n : Needed). n.answer)
      (needs_of_refused disk number (needs_refusal disk number) refl f) ∙ e)))
      (eq_cases (needs_refusal disk number) 0)

  passed_drive : needs_refusal disk number ≡ 0 → Passed (drive_checks disk)
  unfolding needs_refusal
  passed_drive z =
      passed_of_drive_refusal disk (drive_refusal_of_chain disk (place g.block_size ++ last_check disk) z)

  passed_own : needs_refusal disk number ≡ 0 → Passed (place g.block_size ++ last_check disk)
  unfolding needs_refusal place_checks
  passed_own =
      passed_after_drive disk (place g.block_size ++ last_check disk)
      (λ z. omega arith, ((λ z. omega arith), ((λ z. omega arith), ((λ z. omega arith), tt))))

  -- ---- what is lent ----

  module _ (random room : ℕ) (good : needs_refusal disk number ≡ 0)
      (long : (needs_of disk number).random_blocks * g.block_size ≤ random)
      (wide : (needs_of disk number).stores ≤ room) where
    taken : needed_for g disk number ≡ needs_of disk number
    taken = needs_of_good disk number good

    passed_rounds : Passed (round_checks g disk number random room)
    unfolding round_checks
    passed_rounds =
        let random-long = rw (ap (λ (n : Needed). n.random_blocks) (sym taken)) at long in
        let room-wide = rw (ap (λ (n : Needed). n.stores) (sym taken)) at wide in (
          (passed_rest (place g.block_size) (last_check disk) (passed_own good)).0,
          (
            le-ltb random (round_count g disk * g.height * g.block_size) random-long,
            (le-ltb room (write_store_count g disk number) room-wide, tt),
          ),
        )

    write_refusal_lent :
        (content : Bytes) → length content ≡ g.block_size → write_refusal disk number content random room ≡ 0
    unfolding write_refusal
    write_refusal_lent content whole =
        let rounds = round_checks g disk number random room in
        ap (λ (size : ℕ). first_of (drive_checks disk ++ (place size ++ rounds))) whole
        ∙ zero_of_passed (drive_checks disk ++ (place g.block_size ++ rounds))
        (passed_append (drive_checks disk) (place g.block_size ++ rounds) (passed_drive good)
        (passed_append (place g.block_size) rounds
        (passed_front (place g.block_size) (last_check disk) (passed_own good)) passed_rounds))

  pub needs_of_suffices : {told : Needed} → told ≡ needs_of disk number → Suffices disk number told
  needs_of_suffices told content random room =
      rw told
      (λ e whole long wide.
      write_refusal_lent random room (needs_refusal_of_answer e) long wide content whole)
