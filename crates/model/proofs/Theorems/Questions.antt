-- Two drives that are alike answer the same questions: header and map entries stand in the view, the refusals
-- and the rounds are the simulator's. Assumes nothing.
use mathlib.Core.Path.{◌≡◌, sym, ap, ◌∙◌}
use mathlib.Core.Logic.{◌≢◌, ⊎_elim}
use Prim.Native.Nat.{ℕ, ◌<◌}
use native.Mathlib.Omega.{arith}
use lib.ListN.{length, replicate, length-replicate}
use Rattle.laws.proofs.Cases.{eq_cases}
use Rattle.model.specs.Geometry.{Geometry}
use Rattle.model.specs.Blocks.{Bytes}
use Rattle.model.specs.Layout.{Drive, geometry_in, head_in, round_slot, map_entry}
use Rattle.model.specs.Refusals.{round_count, store_count, write_store_count, public_read_refusal}
use Rattle.model.specs.Needs.{refused_needs, needed_for, needs_of}
use Rattle.model.specs.Simulator.{simulated_rounds}
use Rattle.model.specs.Promises.Questions.{Questions}
use Rattle.model.proofs.Laws.Refusals.{drive_of_refusal, accepted_of_refusal}
use Rattle.model.proofs.Laws.Accepted.{accepted_of_read}
use Rattle.model.proofs.Laws.Needs.{needs_of_refused, needs_of_good, needs_refusal_refused}
use Rattle.model.proofs.Laws.Needs.{needs_refusal_full, needs_refusal_good}
use Rattle.model.proofs.Views.Answers.{simulated_rounds_is}
use Rattle.model.proofs.Views.Sides.{entry_at_alike, map_entry_alike}
use Rattle.model.proofs.Views.Drives.{Twins, twins_of_alike, geometry_in_twins, tracker_of_twins}
use Rattle.model.proofs.Views.Drives.{public_read_refusal_twins}

module _ (disk other : Bytes) (twins : Twins disk other) where
  abbrev g : Geometry
  g = geometry_in disk

  abbrev there : Geometry
  there = geometry_in other

  here : Drive (geometry_in disk) disk
  here = drive_of_refusal disk twins.accepted

  same_head : head_in disk ≡ head_in other
  same_head = entry_at_alike g here.fits disk other twins.show_same 5 (omega arith)

  same_entry : (number : ℕ) → number < g.publics → map_entry g disk number ≡ map_entry there other number
  same_entry number h =
      map_entry_alike g here.fits disk other twins.show_same number h
      ∙ ap (λ (h : Geometry). map_entry h other number) (geometry_in_twins disk other twins)

  -- ---- what a write takes ----

  same_rounds : round_count g disk ≡ round_count there other
  same_rounds =
      sym (simulated_rounds_is g here.fits (head_in disk) disk
      (accepted_of_refusal disk twins.accepted).head_inside)
      ∙ ap simulated_rounds (tracker_of_twins disk other twins)
      ∙ simulated_rounds_is there (drive_of_refusal other twins.other_accepted).fits (head_in other) other
      (accepted_of_refusal other twins.other_accepted).head_inside

  -- the stores of a write, by what is read for them
  abbrev stores_by : Geometry → (rounds entry head : ℕ) → ℕ
  stores_by g rounds entry head = store_count g rounds entry (round_slot g head rounds)

  same_stores : (number : ℕ) → number < g.publics →
      write_store_count g disk number ≡ write_store_count there other number
  same_stores number h =
      ap (λ (shape : Geometry). stores_by shape (round_count g disk) (map_entry g disk number) (head_in disk))
      (geometry_in_twins disk other twins)
      ∙ ap (λ (rounds : ℕ). stores_by there rounds (map_entry g disk number) (head_in disk)) same_rounds
      ∙ ap (λ (entry : ℕ). stores_by there (round_count there other) entry (head_in disk)) (same_entry number h)
      ∙ ap (λ (head : ℕ). stores_by there (round_count there other) (map_entry there other number) head)
      same_head

  same_needed : (number : ℕ) → number < g.publics → needed_for g disk number ≡ needed_for there other number
  same_needed number h =
      let rounds = same_rounds in
      let stores = same_stores number h in
      let height = ap (λ (h : Geometry). h.height) (geometry_in_twins disk other twins) in
      cc

  -- a blank of one block of either
  abbrev blank : Bytes
  blank = replicate g.block_size 0

  whole : length blank ≡ g.block_size
  whole = length-replicate g.block_size 0

  whole_there : length blank ≡ there.block_size
  whole_there = whole ∙ ap (λ (h : Geometry). h.block_size) (geometry_in_twins disk other twins)

  module _ (number : ℕ) where
    same_refusal : public_read_refusal disk number blank ≡ public_read_refusal other number blank
    same_refusal = public_read_refusal_twins disk other twins number blank

    needs_refused : public_read_refusal disk number blank ≢ 0 → needs_of disk number ≡ needs_of other number
    needs_refused f =
        sym (needs_of_refused disk number _ (needs_refusal_refused disk number blank whole f) f)
        ∙ ap refused_needs same_refusal
        ∙ needs_of_refused other number _
        (needs_refusal_refused other number blank whole_there (λ z. f (same_refusal ∙ z)))
        (λ z. f (same_refusal ∙ z))

    module _ (good : public_read_refusal disk number blank ≡ 0) where
      good_there : public_read_refusal other number blank ≡ 0
      good_there = sym same_refusal ∙ good

      needs_full : round_count g disk ≡ 0 → needs_of disk number ≡ needs_of other number
      needs_full z =
          sym (needs_of_refused disk number 7 (needs_refusal_full disk number blank whole good z)
          (λ e. omega arith))
          ∙ needs_of_refused other number 7
          (needs_refusal_full other number blank whole_there good_there (sym same_rounds ∙ z))
          (λ e. omega arith)

      needs_good : round_count g disk ≢ 0 → needs_of disk number ≡ needs_of other number
      needs_good f =
          sym (needs_of_good disk number (needs_refusal_good disk number blank whole good f))
          ∙ same_needed number (accepted_of_read disk number blank good).number_inside
          ∙ needs_of_good other number
          (needs_refusal_good other number blank whole_there good_there (λ z. f (same_rounds ∙ z)))

    same_needs : needs_of disk number ≡ needs_of other number
    same_needs =
        ⊎_elim (λ good. ⊎_elim (needs_full good) (needs_good good) (eq_cases (round_count g disk) 0))
        needs_refused (eq_cases (public_read_refusal disk number blank) 0)

pub questions : Questions
questions disk other alike =
    let twins = twins_of_alike disk other alike in
    record {
      same_geometry = geometry_in_twins disk other twins;
      same_head = same_head disk other twins;
      same_refusal = public_read_refusal_twins disk other twins;
      same_entry = same_entry disk other twins;
      same_needs = same_needs disk other twins;
    }
