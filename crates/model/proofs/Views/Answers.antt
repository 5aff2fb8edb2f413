-- The simulator's rounds, stores and answers are those of the disk that it tracks. Assumes nothing.
use mathlib.Core.Path.{◌≡◌, refl, sym, ap, ◌∙◌}
use mathlib.Core.Logic.{◌≢◌}
use mathlib.Core.Bool.{Bool, true, false, not, cond, ◌&&◌, ◌||◌}
use mathlib.Core.List.{List, [], ◌++◌, append-nil}
use Prim.Native.Nat.{ℕ, zero, suc, ◌+◌, ◌*◌, ◌-◌, ◌<◌}
use native.Mathlib.Omega.{arith}
use lib.Dec.{ltb, eqb}
use lib.ListN.{length}
use borrow.Author.Tests.{leb-false, eqb-false}
use Rattle.laws.specs.Checks.{Check, first_of}
use Rattle.laws.proofs.Cases.{and_ext}
use Rattle.laws.proofs.Checks.{SameAnswer, same_answer-check, same_answer_refl}
use Rattle.model.specs.Geometry.{Geometry, Fits}
use Rattle.model.specs.Blocks.{Bytes}
use Rattle.model.specs.Layout.{geometry_in, head_in, slot_of, round_slot, map_entry, is_allocated, is_place}
use Rattle.model.specs.Layout.{is_slot_block}
use Rattle.model.specs.Refusals.{one_more_than, rounds_to, round_count, store_count, write_store_count}
use Rattle.model.specs.Refusals.{drive_refusal, place_checks, round_checks, public_read_refusal}
use Rattle.model.specs.Refusals.{write_refusal}
use Rattle.model.specs.Simulator.{Simulator, CallLengths, entry_for, is_taken, least_from, simulated_rounds}
use Rattle.model.specs.Simulator.{simulated_stores, simulated_place_checks, simulated_round_checks}
use Rattle.model.specs.Simulator.{simulated_answer}
use Rattle.model.proofs.Laws.Slots.{slot_block_of, next_slot-slot_after, slot_after, slot_after_round}
use Rattle.model.proofs.Laws.Slots.{slot_after-zero}
use Rattle.model.proofs.Laws.Refusals.{after_drive_pass, accepted_of_refusal}
use Rattle.model.proofs.Laws.RoundCounts.{rounds_to_ext, length_rounds}
use Rattle.model.proofs.Views.Tracking.{tracked, tracker_of, get_d_entries, get_d_allocated}

-- ---- rounds ----

-- so many more than first, where there are any
abbrev counted_from : (first rounds : ℕ) → ℕ
counted_from first zero = 0
counted_from first (suc rounds) = suc rounds + first

counted_from-one_more : (first rounds : ℕ) → counted_from (suc first) rounds ≡ counted_from first (one_more_than rounds)
counted_from-one_more first zero = refl
counted_from-one_more first (suc rounds) = omega arith

counted_from-zero : (rounds : ℕ) → counted_from 0 rounds ≡ rounds
counted_from-zero zero = refl
counted_from-zero (suc rounds) = omega arith

-- the least round with a free slot is the count of rounds up to it
least_from-rounds_to :
    (g : Geometry) (is_taken : ℕ → Bool) (head most first : ℕ) →
    least_from most (λ round. not (is_taken (round_slot g head round))) (suc first) ≡
    counted_from first (rounds_to most is_taken g (slot_after g head first))
unfolding least_from rounds_to
least_from-rounds_to g is_taken head zero first = refl
least_from-rounds_to g is_taken head (suc most) first =
    let later = least_from-rounds_to g is_taken head most (suc first) in
    rw (slot_after_round g head first, next_slot-slot_after g head first)
    (by (is_taken (slot_after g head first)) (rounds_to most is_taken g (slot_after g head (suc first))) later)
  where
    by : (b : Bool) (rounds : ℕ) {least : ℕ} → least ≡ counted_from (suc first) rounds →
        cond (not b) (suc first) least ≡ counted_from first (cond b (one_more_than rounds) 1)
    by true rounds h = h ∙ counted_from-one_more first rounds
    by false rounds h = omega arith

pub simulated_rounds_is :
    (g : Geometry) → Fits g → (head : ℕ) (disk : Bytes) → head < g.slots →
    simulated_rounds (tracked g head disk) ≡ rounds_to g.slots (is_allocated g disk) g head
simulated_rounds_is g f head disk h =
    let sim = tracked g head disk in
    least_from-rounds_to g (is_taken sim) head g.slots 0
    ∙ ap (λ (slot : ℕ). counted_from 0 (rounds_to g.slots (is_taken sim) g slot))
    (slot_after-zero g head h)
    ∙ counted_from-zero (rounds_to g.slots (is_taken sim) g head)
    ∙ rounds_to_ext g.slots (is_taken sim) (is_allocated g disk) g f head h (get_d_allocated g disk)

-- ---- answers ----

module _ (g : Geometry) (f : Fits g) (disk : Bytes) (inside : head_in disk < g.slots) where
  abbrev sim : Simulator
  sim = tracked g (head_in disk) disk

  -- 6 fails alike
  place_tracked :
      (number : ℕ) → number < g.publics →
      (eqb (entry_for sim number) 0 ||
      is_slot_block g 0 (entry_for sim number) && is_taken sim (slot_of g (entry_for sim number))) ≡
      (eqb (map_entry g disk number) 0 || is_place g disk (map_entry g disk number))
  unfolding is_place
  place_tracked number h =
      let entry = map_entry g disk number in
      rw (get_d_entries g disk number h)
      (ap (λ (b : Bool). eqb entry 0 || b)
      (and_ext (is_slot_block g 0 entry)
      (λ e. get_d_allocated g disk (slot_of g entry) (slot_block_of g 0 entry e).slot_inside)))

  -- 4 to 6, with whatever checks come after
  place_answer :
      (call : CallLengths) (cs ds : List Check) → (call.number < g.publics → SameAnswer cs ds) →
      SameAnswer (simulated_place_checks sim call ++ cs)
      (place_checks g disk call.number call.content ++ ds)
  unfolding place_checks
  place_answer call cs ds h =
      same_answer-check refl
      (λ e. let l : call.number < g.publics = leb-false g.publics call.number e in
      same_answer-check refl (λ _. same_answer-check (ap not (place_tracked call.number l)) (λ _. h l)))

  length-simulated_stores :
      (number : ℕ) → number < g.publics → round_count g disk ≢ 0 →
      length (simulated_stores sim number) ≡ write_store_count g disk number
  unfolding simulated_stores
  length-simulated_stores number h some =
      let rounds : suc (round_count g disk - 1) ≡ round_count g disk = omega arith in
      rw (simulated_rounds_is g f (head_in disk) disk inside, get_d_entries g disk number h)
      (length_rounds (round_count g disk - 1) g number (map_entry g disk number) (head_in disk)
      (round_slot g (head_in disk) (round_count g disk))
      ∙ ap (λ (n : ℕ). store_count g n (map_entry g disk number)
      (round_slot g (head_in disk) (round_count g disk))) rounds)

  -- 7 to 9
  round_answer_lem :
      (call : CallLengths) → call.number < g.publics →
      SameAnswer (simulated_round_checks sim call)
      (round_checks g disk call.number call.random call.room)
  unfolding round_checks
  round_answer_lem call h =
      let rounds = simulated_rounds_is g f (head_in disk) disk inside in
      same_answer-check (ap (λ (n : ℕ). eqb n 0) rounds)
      (λ e. let some : round_count g disk ≢ 0 = eqb-false (round_count g disk) 0 e in
      same_answer-check (ap (λ (n : ℕ). ltb call.random (n * g.height * g.block_size)) rounds)
      (λ _. same_answer-check (ap (ltb call.room) (length-simulated_stores call.number h some))
      (λ _. same_answer_refl)))

-- what the simulator is fed of a public read, and of a write
abbrev pub read_lengths : (number content : ℕ) → CallLengths
read_lengths number content =
    record { is_write = false; number = number; content = content; random = 0; room = 0 }

abbrev pub write_lengths : (number content random room : ℕ) → CallLengths
write_lengths number content random room =
    record { is_write = true; number = number; content = content; random = random; room = room }

module _ (disk : Bytes) (accepted : drive_refusal disk ≡ 0) where
  pub simulated_answer_read :
      (number : ℕ) (blank : Bytes) →
      simulated_answer (tracker_of disk) (read_lengths number (length blank)) ≡
      public_read_refusal disk number blank
  unfolding simulated_answer public_read_refusal
  simulated_answer_read number blank =
      let a = accepted_of_refusal disk accepted in
      let g = geometry_in disk in
      let cs = place_checks g disk number (length blank) in
      (place_answer g a.sized.fits disk a.head_inside (read_lengths number (length blank)) [] []
      (λ _. same_answer_refl)).same
      ∙ ap first_of (append-nil cs) ∙ sym (after_drive_pass disk cs accepted)

  pub simulated_answer_write :
      (number : ℕ) (content : Bytes) (random room : ℕ) →
      simulated_answer (tracker_of disk) (write_lengths number (length content) random room) ≡
      write_refusal disk number content random room
  unfolding simulated_answer write_refusal
  simulated_answer_write number content random room =
      let a = accepted_of_refusal disk accepted in
      let g = geometry_in disk in
      let call = write_lengths number (length content) random room in
      let cs = place_checks g disk number (length content) ++ round_checks g disk number random room in
      (place_answer g a.sized.fits disk a.head_inside call (simulated_round_checks (tracker_of disk) call)
      (round_checks g disk number random room)
      (round_answer_lem g a.sized.fits disk a.head_inside call)).same
      ∙ sym (after_drive_pass disk cs accepted)
