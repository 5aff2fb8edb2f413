-- Laws of the rounds of a write, whatever its hidden writes and random bytes: how many there are, the
-- addresses of all stores in order, that these are whole and inside the disk, and the whole effect on header,
-- map, bitmap and public blocks. Assumes nothing.
use mathlib.Core.Path.{◌≡◌, refl, sym, ap, ap₂, ◌∙◌, subst}
use mathlib.Core.Logic.{◌≢◌, ⊎_elim}
use mathlib.Core.Bool.{true, false}
use mathlib.Core.List.{List, ◌++◌, append-nil}
use Prim.Native.Nat.{ℕ, zero, suc, ◌*◌, ◌-◌, ◌<◌}
use native.Mathlib.Omega.{arith}
use lib.ListN.{drop, length}
use Rattle.laws.proofs.Cases.{bool_cases}
use Rattle.laws.proofs.Members.{All, all_append}
use Rattle.laws.proofs.Joins.{append_between}
use Rattle.model.specs.Geometry.{Geometry, Fits, block_count, block_width}
use Rattle.model.specs.Blocks.{Bytes}
use Rattle.model.specs.Layout.{next_slot, round_slot, map_entry, is_allocated}
use Rattle.model.specs.Stores.{Trace, apply, addresses}
use Rattle.model.specs.Table.{keep_public, write_public}
use Rattle.model.specs.HiddenHalf.{HiddenState, HiddenHalf, hidden_half}
use Rattle.model.specs.Rounds.{Run, stopped, followed_by, round_trace, run_from}
use Rattle.model.specs.Refusals.{rounds_to, store_count}
use Rattle.model.specs.Simulator.{slot_addresses, kept_rounds, last_round}
use Rattle.model.proofs.Laws.Slots.{slot_after, slot_after_next, slot_after-zero, slot_after_round}
use Rattle.model.proofs.Laws.Stores.{Stored, apply-append, addresses-append, length-addresses}
use Rattle.model.proofs.Laws.RoundStores.{after_round, addresses_kept, addresses_last, round_stored}
use Rattle.model.proofs.Laws.RoundStores.{Round}
use Rattle.model.proofs.Laws.Wrote.{Wrote, last_wrote, entry_kept, kept_wrote}
use Rattle.model.proofs.Laws.RoundCounts.{rounds_to-zero, rounds_to_free, length_rounds}
use Rattle.model.proofs.Laws.Ready.{Ready, ready_kept, rounds_kept, run_from_kept, run_from_last}
use Rattle.model.proofs.Laws.Ready.{ready_round}

-- a run of so many kept rounds and a last one
pub record Ran (g : Geometry) (number : ℕ) (content : Bytes) (slot earlier : ℕ) (disk : Bytes)
    (run : Run) : Type 0 where
  pub counted : run.rounds ≡ suc earlier
  pub listed :
      addresses run.trace ≡
      kept_rounds earlier g slot ++ last_round g number (map_entry g disk number) (slot_after g slot earlier)
  pub stored : All (Stored (block_width g) (block_count g)) run.trace
  pub wrote : Wrote g number content (slot_after g slot earlier) disk (apply (block_width g) run.trace disk)

module _ (g : Geometry) (f : Fits g) (number : ℕ) (inside : number < g.publics) (content : Bytes)
    (sized : length content ≡ g.block_size) where
  -- ---- one round ----

  module _ (disk : Bytes) (slot : ℕ) (hidden : Trace) (this : Round g disk number slot content hidden) where
    -- the last round
    last_ran :
        is_allocated g disk slot ≡ false → (state : HiddenState) →
        Ran g number content slot 0 disk
        (followed_by (round_trace write_public g disk number slot content hidden) (stopped state))
    unfolding kept_rounds
    last_ran free state =
        let e = slot_after-zero g slot this.inside in
        let round = round_trace write_public g disk number slot content hidden in
        record {
          counted = refl;
          listed =
              ap addresses (append-nil round) ∙ addresses_last g disk number slot content hidden
              this.hides
              ∙ ap (last_round g number (map_entry g disk number)) (sym e);
          stored = rw append-nil (round_stored this write_public);
          wrote = rw (e, append-nil) (last_wrote this free);
        }

    -- a kept round and then a run
    kept_ran :
        (earlier : ℕ) (run : Run) →
        Ran g number content (next_slot g slot) earlier
        (after_round keep_public g disk number slot content hidden) run →
        Ran g number content slot (suc earlier) disk
        (followed_by (round_trace keep_public g disk number slot content hidden) run)
    unfolding kept_rounds
    kept_ran earlier run ran =
        let round = round_trace keep_public g disk number slot content hidden in
        let same = slot_after_next g slot earlier in
        let entry = entry_kept this in
        record {
          counted = ap suc ran.counted;
          listed =
              addresses-append round run.trace
              ∙ ap₂ (λ (xs ys : List ℕ). xs ++ ys) (addresses_kept g disk number slot content hidden
              this.hides)
              ran.listed
              ∙ rw (entry, same)
              (append_between (slot_addresses g slot) 0 (kept_rounds earlier g (next_slot g slot))
              (last_round g number (map_entry g disk number) (slot_after g slot (suc earlier))));
          stored =
              all_append (Stored (block_width g) (block_count g)) round run.trace
              (round_stored this keep_public)
              ran.stored;
          wrote =
              kept_wrote this (slot_after g slot (suc earlier))
              (apply (block_width g) (round ++ run.trace) disk)
              (rw (← same, apply-append) ran.wrote);
        }

  -- ---- all rounds ----

  -- what a run of at most so many rounds does, from any slot of any disk
  abbrev RanBy : (most : ℕ) → Type 0
  RanBy most =
      (disk : Bytes) (slot : ℕ) (random : Bytes) (state : HiddenState) →
      Ready g number most disk slot random state →
      Ran g number content slot (rounds_to most (is_allocated g disk) g slot - 1) disk
      (run_from most g number content slot random disk state)

  one_more : (most : ℕ) → RanBy most → RanBy (suc most)
  one_more most later disk slot random state ready = ⊎_elim kept last (bool_cases (is_allocated g disk slot))
    where
      part : HiddenHalf
      part = hidden_half g disk slot random state

      this : Round g disk number slot content part.trace
      this = ready_round g f number inside content sized most disk slot random state ready

      kept : is_allocated g disk slot ≡ true →
          Ran g number content slot (rounds_to (suc most) (is_allocated g disk) g slot - 1) disk
          (run_from (suc most) g number content slot random disk state)
      kept taken =
          let next = ready_kept g f number inside content sized most disk slot random state ready taken in
          let fewer = rounds_kept g f number inside content sized most disk slot random state ready taken in
          let rest =
          run_from most g number content (next_slot g slot) (drop (g.height * g.block_size) random)
          (after_round keep_public g disk number slot content part.trace) part.state in
          rw (run_from_kept most g number content slot random disk state taken)
          (subst (λ (n : ℕ). Ran g number content slot n disk
          (followed_by (round_trace keep_public g disk number slot content part.trace) rest))
          (omega (arith, fewer, next.some_rounds))
          (kept_ran disk slot part.trace this _ rest
          (later _ _ _ _ next)))

      last : is_allocated g disk slot ≡ false →
          Ran g number content slot (rounds_to (suc most) (is_allocated g disk) g slot - 1) disk
          (run_from (suc most) g number content slot random disk state)
      last free =
          let e : 0 ≡ rounds_to (suc most) (is_allocated g disk) g slot - 1 =
          omega (arith, rounds_to_free most (is_allocated g disk) g slot free) in
          rw (run_from_last most g number content slot random disk state free)
          (subst (λ (n : ℕ). Ran g number content slot n disk
          (followed_by (round_trace write_public g disk number slot content part.trace)
          (stopped part.state)))
          e
          (last_ran disk slot part.trace this free part.state))

  pub run_from_ran : (most : ℕ) → RanBy most
  run_from_ran zero disk slot random state ready =
      absurd (ready.some_rounds (rounds_to-zero (is_allocated g disk) g slot))
  run_from_ran (suc most) disk slot random state ready =
      one_more most (run_from_ran most) disk slot random state ready

-- ---- by the number of rounds ----

module _ (g : Geometry) (number : ℕ) (content : Bytes) (slot rounds : ℕ) (some : rounds ≢ 0) (disk : Bytes)
    (run : Run) (ran : Ran g number content slot (rounds - 1) disk run) where
  pub rounds_ran : run.rounds ≡ rounds
  rounds_ran = omega (arith, ran.counted)

  pub length_ran :
      length run.trace ≡ store_count g rounds (map_entry g disk number) (round_slot g slot rounds)
  length_ran =
      let e : suc (rounds - 1) ≡ rounds = omega arith in
      sym (length-addresses run.trace) ∙ ap length ran.listed
      ∙ length_rounds (rounds - 1) g number (map_entry g disk number) slot (slot_after g slot (rounds - 1))
      ∙ ap (store_count g (suc (rounds - 1)) (map_entry g disk number))
      (sym (slot_after_round g slot (rounds - 1)))
      ∙ ap (λ (n : ℕ). store_count g n (map_entry g disk number) (round_slot g slot n)) e
