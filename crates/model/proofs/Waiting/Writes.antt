-- One write on a drive whose hidden volume is sound: in its first rounds, and in all of them, the hidden
-- write behind so many others is placed or comes nearer. Assumes nothing.
use mathlib.Core.Path.{◌≡◌, refl, sym, ap, subst, ◌∙◌}
use mathlib.Core.Logic.{inl, inr, ⊎_elim}
use Prim.Native.Nat.{ℕ, zero, suc, ◌+◌, ◌*◌, ◌-◌, ◌≤◌, ◌<◌}
use native.Mathlib.Nat.{mul-le-mul_right, mul_assoc}
use native.Mathlib.Omega.{arith}
use lib.ListN.{length}
use Rattle.laws.proofs.Cases.{cond_cases, eq_cases}
use Rattle.model.specs.Geometry.{Geometry, block_width}
use Rattle.model.specs.Blocks.{Bytes}
use Rattle.model.specs.Layout.{geometry_in, head_in}
use Rattle.model.specs.Stores.{apply}
use Rattle.model.specs.HiddenHalf.{HiddenState, row_of}
use Rattle.model.specs.Rounds.{Run, run_from, choice_goes_on}
use Rattle.model.specs.Refusals.{round_count, drive_refusal}
use Rattle.model.specs.Calls.{Offered, offered_writes, start_state, write_run, Written, refused_write}
use Rattle.model.specs.Calls.{written_disk}
use Rattle.model.specs.Invariants.{HiddenInvariant}
use Rattle.model.specs.Promises.Waiting.{PublicHalf, half_refusal, half_written, first_rounds}
use Rattle.model.proofs.Laws.Stores.{apply_nil}
use Rattle.model.proofs.Laws.Slots.{slot_after, next_slot-slot_after}
use Rattle.model.proofs.Laws.Refusals.{Accepted, accepted_of_refusal}
use Rattle.model.proofs.Laws.Accepted.{AcceptedWrite, accepted_of_write, offered_writes_good}
use Rattle.model.proofs.Laws.Calls.{done_with, written_done, written_refused}
use Rattle.model.proofs.Laws.Offers.{write_run_is}
use Rattle.model.proofs.Laws.Runs.{Ran, rounds_ran}
use Rattle.model.proofs.Laws.WriteRuns.{write_run_ran}
use Rattle.model.proofs.Tree.Ghost.{Ghost}
use Rattle.model.proofs.Tree.FromInvariant.{tree_of, ghost_of_hidden_invariant}
use Rattle.model.proofs.Volumes.Kept.{write_keeps_geometry, write_keeps_accepted, write_keeps_hidden}
use Rattle.model.proofs.Waiting.Live.{Near}
use Rattle.model.proofs.Waiting.Rounds.{rounds_left}
use Rattle.model.proofs.Waiting.Runs.{Underway, Waits, run_from_waits}

-- a drive whose hidden volume is sound, with so many live slots from its head on
pub record Ahead (disk : Bytes) (index : ℕ) : Type 0 where
  pub accepted : drive_refusal disk ≡ 0
  pub sound : HiddenInvariant (geometry_in disk) disk
  pub near : Near (geometry_in disk) disk (head_in disk) index

-- what a write, refused or not, does to the hidden write behind so many others
pub data WriteWaits (disk : Bytes) (result : Written) (index front : ℕ) : Type 0 where
  when_placed : suc front ≤ result.placed → WriteWaits disk result index front
  goes_on : (index_after front_after : ℕ) → Ahead (written_disk result disk) index_after →
      geometry_in (written_disk result disk) ≡ geometry_in disk → result.placed + front_after ≡ front →
      result.rounds + rounds_left (geometry_in disk) index_after front_after ≤
      rounds_left (geometry_in disk) index front → index ≤ result.rounds + index_after →
      WriteWaits disk result index front

-- ---- how many rounds ----

rounds_le_most :
    (most : ℕ) (g : Geometry) (number : ℕ) (content : Bytes) (slot : ℕ) (random disk : Bytes)
    (state : HiddenState) → (run_from most g number content slot random disk state).rounds ≤ most
unfolding run_from
rounds_le_most zero g number content slot random disk state = omega arith
rounds_le_most (suc most) g number content slot random disk state =
    cond_cases (λ (run : Run). suc run.rounds ≤ suc most)
    (choice_goes_on (row_of g disk slot state.waiting).public)
    (λ e. one_more (rounds_le_most most g number content _ _ _ _)) (λ e. omega arith)
  where
    one_more : {rounds : ℕ} → rounds ≤ most → suc rounds ≤ suc most
    one_more l = omega arith

-- ---- a write that is not refused ----

module _ (half : PublicHalf) (disk : Bytes) (offer : Offered) (free : half_refusal half disk ≡ 0) (index : ℕ)
    (ahead : Ahead disk index) where
  abbrev g : Geometry
  g = geometry_in disk

  abbrev begin : HiddenState
  begin = start_state (offered_writes g offer)

  drive : Accepted disk
  drive = accepted_of_refusal disk ahead.accepted

  good : AcceptedWrite g disk half.number (length half.content) (length half.random) half.room
  good = accepted_of_write disk half.number half.content (length half.random) half.room free

  ghost : Ghost g disk (tree_of g disk)
  ghost = ghost_of_hidden_invariant g drive.sized.fits disk ahead.sound

  module _ (most : ℕ) (few : (first_rounds most half disk offer).rounds ≤ round_count g disk) where
    underway : Underway g half.number half.content most disk (head_in disk) half.random begin
    underway =
        record {
          whole = drive.sized.whole;
          here = drive.head_inside;
          placed = good.accepted.in_place;
          enough =
              let all : round_count g disk * (g.height * g.block_size) ≤ length half.random =
              rw (mul_assoc (round_count g disk) g.height g.block_size) at good.enough_random in
              omega (arith, mul-le-mul_right (g.height * g.block_size) few, all);
          good = offered_writes_good g offer;
        }

    rounds_wait :
        (front : ℕ) → front < length (offered_writes g offer) →
        Waits g (apply (block_width g) (first_rounds most half disk offer).trace disk) (head_in disk) begin
        (first_rounds most half disk offer) index front
    rounds_wait front waits =
        run_from_waits g drive.sized.fits half.number good.accepted.number_inside half.content
        good.accepted.block_sized most disk (head_in disk) half.random begin (tree_of g disk) index front
        underway ghost ahead.near waits

  -- the first so many of its rounds
  pub first_rounds_wait :
      (most : ℕ) → most ≤ round_count g disk → (front : ℕ) → front < length (offered_writes g offer) →
      Waits g (apply (block_width g) (first_rounds most half disk offer).trace disk) (head_in disk) begin
      (first_rounds most half disk offer) index front
  first_rounds_wait most some =
      rounds_wait most
      (omega (
        arith,
        rounds_le_most most g half.number half.content (head_in disk) half.random disk begin,
        some,
      ))

  -- all of them
  abbrev run : Run
  run = write_run g disk half.number half.content half.random offer

  abbrev result : Written
  result = done_with disk half.number half.content half.random half.room offer

  ran : Ran g half.number half.content (head_in disk) (round_count g disk - 1) disk run
  ran = write_run_ran disk half.number half.content half.random half.room offer free

  all_rounds : run.rounds ≡ round_count g disk
  all_rounds =
      rounds_ran g half.number half.content (head_in disk) (round_count g disk) good.some_rounds disk
      run ran

  run_is : run ≡ first_rounds g.slots half disk offer
  run_is = write_run_is g disk half.number half.content half.random offer

  all_wait : (front : ℕ) → front < length (offered_writes g offer) →
      Waits g (apply (block_width g) run.trace disk) (head_in disk) begin run index front
  all_wait front waits =
      subst (λ (r : Run). Waits g (apply (block_width g) r.trace disk) (head_in disk) begin r index front)
      (sym run_is)
      (rounds_wait g.slots
      (let e = ap (λ (r : Run). r.rounds) run_is in omega (arith, e, all_rounds)) front waits)

  head_after : head_in (written_disk result disk) ≡ slot_after g (head_in disk) run.rounds
  head_after =
      ran.wrote.head ∙ next_slot-slot_after g (head_in disk) (round_count g disk - 1)
      ∙ ap (slot_after g (head_in disk)) (sym ran.counted)

  done_waits : (front : ℕ) → front < length (offered_writes g offer) → WriteWaits disk result index front
  done_waits front waits = by (all_wait front waits)
    where
      written_is : half_written half disk offer ≡ result
      written_is = written_done disk half.number half.content half.random half.room offer free

      kept : geometry_in (written_disk result disk) ≡ g
      kept =
          subst (λ (w : Written). geometry_in (written_disk w disk) ≡ g) written_is
          (write_keeps_geometry g disk refl ahead.accepted half.number half.content half.random
          half.room offer)

      accepted : drive_refusal (written_disk result disk) ≡ 0
      accepted =
          subst (λ (w : Written). drive_refusal (written_disk w disk) ≡ 0) written_is
          (write_keeps_accepted g disk refl ahead.accepted half.number half.content half.random
          half.room offer)

      sound : HiddenInvariant g (written_disk result disk)
      sound =
          subst (λ (w : Written). HiddenInvariant g (written_disk w disk)) written_is
          (write_keeps_hidden g disk refl ahead.accepted half.number half.content half.random
          half.room offer ahead.sound)

      by : Waits g (written_disk result disk) (head_in disk) begin run index front →
          WriteWaits disk result index front
      by (inl d) = when_placed (omega (arith, d.placed))
      by (inr m) =
          goes_on m.index_after m.front_after
          (record {
            accepted = accepted;
            sound = subst (λ (h : Geometry). HiddenInvariant h (written_disk result disk)) (sym kept) sound;
            near =
                subst (λ (h : Geometry). Near h (written_disk result disk) (head_in (written_disk result disk))
                m.index_after) (sym kept)
                (subst (λ (s : ℕ). Near g (written_disk result disk) s m.index_after) (sym head_after)
                m.near_after);
          })
          kept (omega (arith, m.front_is)) m.spent m.no_sooner

-- ---- any write ----

refused_waits :
    (disk : Bytes) (answer index front : ℕ) → Ahead disk index →
    WriteWaits disk (refused_write answer) index front
refused_waits disk answer index front ahead =
    goes_on index front
    (subst (λ (d : Bytes). Ahead d index) (sym (apply_nil (block_width (geometry_in disk)) disk)) ahead)
    (ap geometry_in (apply_nil (block_width (geometry_in disk)) disk)) (omega arith) (omega arith) (omega arith)

pub write_waits :
    (half : PublicHalf) (disk : Bytes) (offer : Offered) (index : ℕ) → Ahead disk index →
    (front : ℕ) → front < length (offered_writes (geometry_in disk) offer) →
    WriteWaits disk (half_written half disk offer) index front
write_waits half disk offer index ahead front waits =
    ⊎_elim
    (λ free.
    rw (written_done disk half.number half.content half.random half.room offer free)
    (done_waits half disk offer free index ahead front waits))
    (λ ne.
    rw (written_refused disk half.number half.content half.random half.room offer ne)
    (refused_waits disk (half_refusal half disk) index front ahead))
    (eq_cases (half_refusal half disk) 0)
