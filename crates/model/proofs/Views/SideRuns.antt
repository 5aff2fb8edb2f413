-- A run of rounds side by side on two disks that show the same: whatever hidden writes and random bytes each
-- has, the two traces are side by side. Assumes nothing.
use mathlib.Core.Path.{◌≡◌, sym, ◌∙◌}
use mathlib.Core.Logic.{◌⊎◌, inl, inr}
use mathlib.Core.Bool.{true, false}
use Prim.Native.Nat.{ℕ, zero, suc, ◌<◌}
use lib.ListN.{length}
use Rattle.laws.proofs.Cases.{bool_cases}
use Rattle.model.specs.Geometry.{Geometry, Fits, block_count}
use Rattle.model.specs.Blocks.{Bytes}
use Rattle.model.specs.Layout.{next_slot, is_allocated}
use Rattle.model.specs.Table.{PublicChoice, keep_public, write_public}
use Rattle.model.specs.HiddenHalf.{HiddenState, hidden_half}
use Rattle.model.specs.Rounds.{round_trace, run_from}
use Rattle.model.specs.View.{shown_of}
use Rattle.model.proofs.Laws.Places.{old_of_placed}
use Rattle.model.proofs.Laws.RoundCounts.{rounds_to-zero}
use Rattle.model.proofs.Laws.Ready.{Ready, ready_kept, run_from_kept, run_from_last, ready_round}
use Rattle.model.proofs.Views.Agreement.{none, along_append, agree_apply}
use Rattle.model.proofs.Views.Shown.{ShowSame, TraceSame}
use Rattle.model.proofs.Views.Sides.{is_allocated_alike, round_trace_alike}

module _ (g : Geometry) (f : Fits g) (number : ℕ) (content : Bytes) (known : number < g.publics)
    (sized : length content ≡ g.block_size) where
  -- two runs of at most so many rounds, from any slot of any two disks that show the same
  abbrev RunsAlike : (most : ℕ) → Type 0
  RunsAlike most =
      (disk other : Bytes) (slot : ℕ) (random others : Bytes) (state stateOther : HiddenState) →
      ShowSame g disk other → Ready g number most disk slot random state →
      Ready g number most other slot others stateOther →
      TraceSame g (run_from most g number content slot random disk state).trace
      (run_from most g number content slot others other stateOther).trace

  one_more_alike : (most : ℕ) → RunsAlike most → RunsAlike (suc most)
  one_more_alike most later disk other slot random others state stateOther same ready readyOther =
      by (bool_cases (is_allocated g disk slot))
    where
      round : (choice : PublicChoice) →
          TraceSame g
          (round_trace choice g disk number slot content (hidden_half g disk slot random state).trace)
          (round_trace choice g other number slot content (hidden_half g other slot others stateOther).trace)
      round choice =
          round_trace_alike g f disk other same number slot content known ready.here sized choice _ _
          (old_of_placed g disk number ready.placed)
          (ready_round g f number known content sized most disk slot random state ready).hides
          (ready_round g f number known content sized most other slot others stateOther readyOther).hides

      mark : is_allocated g other slot ≡ is_allocated g disk slot
      mark = sym (is_allocated_alike g f disk other same slot ready.here)

      by : (is_allocated g disk slot ≡ true) ⊎ (is_allocated g disk slot ≡ false) →
          TraceSame g (run_from (suc most) g number content slot random disk state).trace
          (run_from (suc most) g number content slot others other stateOther).trace
      by (inl e) =
          rw (
            run_from_kept most g number content slot random disk state e,
            run_from_kept most g number content slot others other stateOther (mark ∙ e),
          )
          (along_append (shown_of g) g.block_size (block_count g) (round keep_public)
          (later _ _ (next_slot g slot) _ _ _ _
          (agree_apply (shown_of g) g.block_size (block_count g) (round keep_public) same)
          (ready_kept g f number known content sized most disk slot random state ready e)
          (ready_kept g f number known content sized most other slot others stateOther readyOther
          (mark ∙ e))))
      by (inr e) =
          rw (
            run_from_last most g number content slot random disk state e,
            run_from_last most g number content slot others other stateOther (mark ∙ e),
          )
          (along_append (shown_of g) g.block_size (block_count g) (round write_public) none)

  pub run_from_alike : (most : ℕ) → RunsAlike most
  run_from_alike zero disk other slot random others state stateOther same ready readyOther =
      absurd (ready.some_rounds (rounds_to-zero (is_allocated g disk) g slot))
  run_from_alike (suc most) disk other slot random others state stateOther same ready readyOther =
      one_more_alike most (run_from_alike most) disk other slot random others state stateOther same ready
      readyOther
