-- The hidden volume under the rounds of a write: since each round keeps the ghost tree and makes progress
-- with the hidden writes, the whole run does. Assumes nothing.
use mathlib.Core.Path.{◌≡◌, sym, subst}
use mathlib.Core.Logic.{⊎_elim}
use mathlib.Core.List.{append-nil}
use Prim.Native.Nat.{◌*◌, ℕ, zero, suc, ◌<◌}
use lib.ListN.{drop, length}
use Rattle.laws.proofs.Cases.{bool_cases}
use Rattle.model.specs.Geometry.{Geometry, Fits, block_width}
use Rattle.model.specs.Blocks.{Bytes}
use Rattle.model.specs.Layout.{is_allocated, next_slot}
use Rattle.model.specs.Stores.{Trace, apply}
use Rattle.model.specs.Table.{PublicChoice, keep_public, write_public}
use Rattle.model.specs.HiddenHalf.{HiddenState, HiddenHalf, hidden_half}
use Rattle.model.specs.Rounds.{Run, stopped, followed_by, round_trace, run_from}
use Rattle.model.proofs.Laws.Stores.{apply-append}
use Rattle.model.proofs.Laws.RoundStores.{after_round}
use Rattle.model.proofs.Laws.RoundCounts.{rounds_to-zero}
use Rattle.model.proofs.Laws.Ready.{Ready, ready_kept, run_from_kept, run_from_last}
use Rattle.model.proofs.Tree.Ghost.{Tree, Ghost}
use Rattle.model.proofs.Volumes.Growth.{Grew, grew_then, round_grew}

-- a run that keeps the tree and makes progress
abbrev Grows : Geometry → (disk : Bytes) → HiddenState → Run → Type 0
Grows g disk state run =
    (tree : Tree) → Ghost g disk tree →
    Grew g disk (apply (block_width g) run.trace disk) tree state run.state

module _ (g : Geometry) (f : Fits g) (number : ℕ) (counted : number < g.publics) (content : Bytes)
    (sized : length content ≡ g.block_size) where
  -- what a run of at most so many rounds does, from any slot of any disk
  abbrev GrowsBy : (most : ℕ) → Type 0
  GrowsBy most =
      (disk : Bytes) (slot : ℕ) (random : Bytes) (state : HiddenState) →
      Ready g number most disk slot random state →
      Grows g disk state (run_from most g number content slot random disk state)

  -- ---- one round more ----

  module _ (most : ℕ) (later : GrowsBy most) (disk : Bytes) (slot : ℕ) (random : Bytes) (state : HiddenState)
      (ready : Ready g number (suc most) disk slot random state) where
    abbrev now : HiddenHalf
    now = hidden_half g disk slot random state

    -- the round, and the disk after it
    abbrev round : PublicChoice → Trace
    round choice = round_trace choice g disk number slot content now.trace

    abbrev after : PublicChoice → Bytes
    after choice = after_round choice g disk number slot content now.trace

    one :
        (choice : PublicChoice) (tree : Tree) → Ghost g disk tree →
        Grew g disk (after choice) tree state now.state
    one = round_grew g f number counted content sized most disk slot random state ready

    grows_kept :
        (run : Run) → Grows g (after keep_public) now.state run →
        Grows g disk state (followed_by (round keep_public) run)
    grows_kept run grows tree ghost =
        let first = one keep_public tree ghost in
        subst (λ (final : Bytes). Grew g disk final tree state run.state)
        (sym (apply-append (block_width g) (round keep_public) run.trace disk))
        (grew_then g disk (after keep_public) (apply (block_width g) run.trace (after keep_public)) tree
        state now.state run.state first (grows first.grown first.ghost))

    grows_last : Grows g disk state (followed_by (round write_public) (stopped now.state))
    grows_last tree ghost =
        subst (λ (trace : Trace). Grew g disk (apply (block_width g) trace disk) tree state now.state)
        (sym (append-nil (round write_public))) (one write_public tree ghost)

    grows_by : Grows g disk state (run_from (suc most) g number content slot random disk state)
    grows_by = ⊎_elim
        (λ taken.
        subst (Grows g disk state) (sym (run_from_kept most g number content slot random disk state taken))
        (grows_kept
        (run_from most g number content (next_slot g slot) (drop (g.height * g.block_size) random)
        (after keep_public) now.state)
        (later _ _ _ _
        (ready_kept g f number counted content sized most disk slot random state ready taken))))
        (λ free.
        subst (Grows g disk state) (sym (run_from_last most g number content slot random disk state free))
        grows_last)
        (bool_cases (is_allocated g disk slot))

  -- ---- all rounds ----

  pub run_from_grows : (most : ℕ) → GrowsBy most
  run_from_grows zero disk slot random state ready =
      absurd (ready.some_rounds (rounds_to-zero (is_allocated g disk) g slot))
  run_from_grows (suc most) disk slot random state ready =
      grows_by most (run_from_grows most) disk slot random state ready
