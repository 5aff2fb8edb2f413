-- The rounds of a write under a cut (document 02, K5): by the rounds of the run, the cut falls into the first
-- round, or behind it and so into the rounds after it. Assumes nothing.
use mathlib.Core.Path.{◌≡◌, refl, sym, ap, ◌∙◌, subst}
use mathlib.Core.Logic.{⊎_elim}
use mathlib.Core.Bool.{true, false}
use mathlib.Core.List.{◌++◌, append-nil}
use Prim.Native.Nat.{ℕ, zero, suc, ◌+◌, ◌*◌, ◌-◌, ◌≤◌, ◌<◌}
use native.Mathlib.Nat.{suc-mul}
use native.Mathlib.Omega.{arith}
use lib.ListN.{length, take, drop}
use lib.Seq.{take-append-le, take-append-add}
use Rattle.laws.proofs.Cases.{bool_cases, lt_cases}
use Rattle.model.specs.Geometry.{Geometry, Fits, block_width}
use Rattle.model.specs.Blocks.{Bytes}
use Rattle.model.specs.Layout.{is_allocated, next_slot}
use Rattle.model.specs.Stores.{Trace, apply}
use Rattle.model.specs.Table.{PublicChoice, keep_public, write_public}
use Rattle.model.specs.HiddenHalf.{HiddenState, HiddenHalf, hidden_half}
use Rattle.model.specs.Rounds.{Run, stopped, followed_by, round_trace, run_from}
use Rattle.model.proofs.Laws.Stores.{apply-append, apply_nil}
use Rattle.model.proofs.Laws.RoundCounts.{rounds_to-zero}
use Rattle.model.proofs.Laws.RoundStores.{after_round, Round}
use Rattle.model.proofs.Laws.Ready.{Ready, ready_kept, ready_round, run_from_kept, run_from_last}
use Rattle.model.proofs.Laws.Runs.{run_from_ran}
use Rattle.model.proofs.Waiting.Runs.{run_from_placed}
use Rattle.recovery_model.proofs.Laws.RootedRounds.{length_kept_round, rooted_by, rooted_by_none}
use Rattle.recovery_model.proofs.Laws.RootedRounds.{rooted_by_one, rooted_by_next, rooted_by_last}
use Rattle.recovery_model.proofs.Volumes.Cuts.{CutRun, cut_nothing, cut_untouched, cut-turned}
use Rattle.recovery_model.proofs.Volumes.Cuts.{cut_kept, cut_last, cut_then}

module _ (g : Geometry) (f : Fits g) (number : ℕ) (counted : number < g.publics) (content : Bytes)
    (sized : length content ≡ g.block_size) where
  -- a run that is cut
  abbrev Cut : (bound slot : ℕ) → (random disk : Bytes) → HiddenState → Run → Type 0
  Cut bound slot random disk state run =
      CutRun g number content bound disk (apply (block_width g) (take bound run.trace) disk) state run
      (rooted_by g number content bound slot random disk state)

  -- what a run of at most so many rounds leaves under a cut, from any slot of any disk
  abbrev CutBy : (most : ℕ) → Type 0
  CutBy most =
      (bound : ℕ) (disk : Bytes) (slot : ℕ) (random : Bytes) (state : HiddenState) →
      Ready g number most disk slot random state →
      Cut bound slot random disk state (run_from most g number content slot random disk state)

  -- ---- one round more ----

  module _ (most : ℕ) (later : CutBy most) (disk : Bytes) (slot : ℕ) (random : Bytes) (state : HiddenState)
      (ready : Ready g number (suc most) disk slot random state) where
    abbrev now : HiddenHalf
    now = hidden_half g disk slot random state

    abbrev this : Round g disk number slot content now.trace
    this = ready_round g f number counted content sized most disk slot random state ready

    abbrev round : PublicChoice → Trace
    round choice = round_trace choice g disk number slot content now.trace

    abbrev run : Run
    run = run_from (suc most) g number content slot random disk state

    placed_run : state.placed ≤ run.state.placed
    placed_run = run_from_placed g (suc most) number content slot random disk state

    -- by the stores that are made, and the hidden writes after the rooted rounds
    cut_by :
        (bound : ℕ) (made : Run) (trace : Trace) → trace ≡ take bound made.trace → (rooted : HiddenState) →
        rooted_by g number content bound slot random disk state ≡ rooted →
        CutRun g number content bound disk (apply (block_width g) trace disk) state made rooted →
        Cut bound slot random disk state made
    cut_by bound made trace e rooted q cut =
        subst (λ (xs : Trace). CutRun g number content bound disk (apply (block_width g) xs disk) state made
        (rooted_by g number content bound slot random disk state)) e
        (subst (CutRun g number content bound disk (apply (block_width g) trace disk) state made) (sym q) cut)

    cut_at-zero : Cut 0 slot random disk state run
    cut_at-zero =
        let ran = run_from_ran g f number counted content sized (suc most) disk slot random state ready in
        let some_rounds : 1 ≤ run.rounds = omega (arith, ran.counted) in
        cut_by 0 run (take 0 run.trace) refl state
        (rooted_by_none g number content 0 slot random disk state (omega arith))
        (subst (λ (cut : Bytes). CutRun g number content 0 disk cut state run state)
        (sym (apply_nil (block_width g) disk))
        (cut_nothing g f number content disk state run some_rounds placed_run))

    -- ---- a kept round ----

    module _ (taken : is_allocated g disk slot ≡ true) where
      abbrev kept : Bytes
      kept = after_round keep_public g disk number slot content now.trace

      abbrev rest : Run
      rest =
          run_from most g number content (next_slot g slot) (drop (g.height * g.block_size) random) kept
          now.state

      abbrev followed : Run
      followed = followed_by (round keep_public) rest

      followed_is : run ≡ followed
      followed_is = run_from_kept most g number content slot random disk state taken

      round_stores : length (round keep_public) ≡ g.height + 3
      round_stores = length_kept_round g disk number slot content now.trace this.hides

      -- the cut falls into it
      module _ (count : ℕ) (short : suc count < g.height + 3) where
        early : suc count < suc rest.rounds * (g.height + 3)
        early = omega (arith, suc-mul rest.rounds (g.height + 3))

        made_within : take (suc count) (round keep_public) ≡ take (suc count) followed.trace
        made_within =
            sym (take-append-le (suc count) (round keep_public) rest.trace (omega (arith, round_stores)))

        within_kept : Cut (suc count) slot random disk state followed
        within_kept = ⊎_elim
            (λ unrooted.
            cut_by (suc count) followed (take (suc count) (round keep_public)) made_within state
            (rooted_by_none g number content (suc count) slot random disk state (omega arith))
            (cut_kept g f number counted content sized most disk slot random state ready count followed
            state (subst (λ (made : Run). state.placed ≤ made.state.placed) followed_is placed_run) early
            (λ tree ghost.
            cut_untouched g f number counted content sized most disk slot random state ready keep_public count
            tree ghost (omega arith))))
            (λ rooted.
            cut_by (suc count) followed (take (suc count) (round keep_public)) made_within now.state
            (rooted_by_one g number content (suc count) slot random disk state taken (omega arith))
            (cut_kept g f number counted content sized most disk slot random state ready count followed
            now.state
            (run_from_placed g most number content (next_slot g slot)
            (drop (g.height * g.block_size) random) kept now.state) early
            (λ tree ghost.
            cut-turned g f number counted content sized most disk slot random state ready keep_public count
            tree ghost (omega arith))))
            (lt_cases count (suc g.height))

      -- the cut falls behind it
      module _ (bound : ℕ) (long : g.height + 3 ≤ bound) where
        abbrev left : ℕ
        left = bound - (g.height + 3)

        abbrev rooted_rest : HiddenState
        rooted_rest =
            rooted_by g number content left (next_slot g slot) (drop (g.height * g.block_size) random) kept
            now.state

        made_behind : round keep_public ++ take left rest.trace ≡ take bound followed.trace
        made_behind =
            let all : length (round keep_public) + left ≡ bound = omega (arith, round_stores) in
            sym (ap (λ (n : ℕ). take n (round keep_public ++ rest.trace)) (sym all)
            ∙ take-append-add (round keep_public) rest.trace left)

        behind_kept : Cut bound slot random disk state followed
        behind_kept =
            cut_by bound followed (round keep_public ++ take left rest.trace) made_behind rooted_rest
            (rooted_by_next g number content bound slot random disk state taken long)
            (subst (λ (cut : Bytes). CutRun g number content bound disk cut state followed rooted_rest)
            (sym (apply-append (block_width g) (round keep_public) (take left rest.trace) disk))
            (cut_then g f number counted content sized most disk slot random state ready taken bound long rest
            (apply (block_width g) (take left rest.trace) kept) rooted_rest
            (later left kept (next_slot g slot) (drop (g.height * g.block_size) random) now.state
            (ready_kept g f number counted content sized most disk slot random state ready taken))))

    -- ---- the last round ----

    module _ (free : is_allocated g disk slot ≡ false) (count : ℕ) where
      abbrev alone : Run
      alone = followed_by (round write_public) (stopped now.state)

      alone_is : run ≡ alone
      alone_is = run_from_last most g number content slot random disk state free

      made_last : take (suc count) (round write_public) ≡ take (suc count) alone.trace
      made_last = ap (take (suc count)) (sym (append-nil (round write_public)))

      within_last : Cut (suc count) slot random disk state alone
      within_last = ⊎_elim
          (λ unrooted.
          cut_by (suc count) alone (take (suc count) (round write_public)) made_last state
          (rooted_by_none g number content (suc count) slot random disk state (omega arith))
          (cut_last g f number counted content sized most disk slot random state ready count alone
          state (subst (λ (made : Run). state.placed ≤ made.state.placed) alone_is placed_run) refl free
          (λ tree ghost.
          cut_untouched g f number counted content sized most disk slot random state ready write_public count
          tree ghost (omega arith))))
          (λ rooted.
          cut_by (suc count) alone (take (suc count) (round write_public)) made_last now.state
          (rooted_by_last g number content (suc count) slot random disk state free (omega arith))
          (cut_last g f number counted content sized most disk slot random state ready count alone
          now.state (omega arith) refl free
          (λ tree ghost.
          cut-turned g f number counted content sized most disk slot random state ready write_public count
          tree ghost (omega arith))))
          (lt_cases count (suc g.height))

    cut_here : (bound : ℕ) → Cut bound slot random disk state run
    cut_here zero = cut_at-zero
    cut_here (suc count) = ⊎_elim
        (λ taken.
        subst (Cut (suc count) slot random disk state) (sym (followed_is taken))
        (⊎_elim (within_kept taken count) (behind_kept taken (suc count))
        (lt_cases (suc count) (g.height + 3))))
        (λ free.
        subst (Cut (suc count) slot random disk state) (sym (alone_is free count)) (within_last free count))
        (bool_cases (is_allocated g disk slot))

  -- ---- all rounds ----

  pub run_from-cut : (most : ℕ) → CutBy most
  run_from-cut zero bound disk slot random state ready =
      absurd (ready.some_rounds (rounds_to-zero (is_allocated g disk) g slot))
  run_from-cut (suc most) bound disk slot random state ready =
      cut_here most (run_from-cut most) disk slot random state ready bound
