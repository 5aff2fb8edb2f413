-- Laws of the rounds of a cut write that have their root stored (document 02, K5): a round that another
-- follows has k + 3 stores; no root is stored before store k + 2 of the first round, then one, and with each
-- whole kept round one more; and the hidden writes after these rounds. Assumes nothing.
use mathlib.Core.Path.{◌≡◌, sym, ap, ◌∙◌}
use mathlib.Core.Bool.{true, false}
use mathlib.Core.List.{[], ◌∷◌}
use Prim.Native.Nat.{ℕ, suc, ◌+◌, ◌*◌, ◌-◌, ◌/◌, ◌≤◌, ◌<◌}
use native.Mathlib.Nat.{div-eq_of_lt, div-eq-sub-div, zero-div}
use native.Mathlib.Omega.{arith}
use lib.ListN.{length, drop, length-append}
use Rattle.model.specs.Geometry.{Geometry}
use Rattle.model.specs.Blocks.{Bytes}
use Rattle.model.specs.Layout.{next_slot, is_allocated}
use Rattle.model.specs.Stores.{Trace}
use Rattle.model.specs.Table.{keep_public}
use Rattle.model.specs.HiddenHalf.{HiddenState, HiddenHalf, hidden_half}
use Rattle.model.specs.Rounds.{Run, round_trace, run_from}
use Rattle.model.specs.Simulator.{slot_addresses}
use Rattle.model.proofs.Laws.Stores.{length-addresses}
use Rattle.model.proofs.Laws.Paths.{Hides}
use Rattle.model.proofs.Laws.RoundCounts.{length-slot_addresses}
use Rattle.model.proofs.Laws.RoundStores.{after_round, addresses_kept}
use Rattle.model.proofs.Laws.RunSteps.{run_from-zero}
use Rattle.model.proofs.Laws.Ready.{run_from_kept, run_from_last}
use Rattle.recovery_model.specs.Cuts.{rooted_rounds}

pub length_kept_round :
    (g : Geometry) (disk : Bytes) (number slot : ℕ) (content : Bytes) (hidden : Trace) → Hides g slot hidden →
    length (round_trace keep_public g disk number slot content hidden) ≡ g.height + 3
length_kept_round g disk number slot content hidden hides =
    sym (length-addresses (round_trace keep_public g disk number slot content hidden))
    ∙ ap length (addresses_kept g disk number slot content hidden hides)
    ∙ length-append (slot_addresses g slot) (0 ∷ []) ∙ omega (arith, length-slot_addresses g slot)

-- ---- how many ----

module _ (g : Geometry) (bound : ℕ) where
  rooted_rounds_none : bound < g.height + 2 → rooted_rounds g bound ≡ 0
  rooted_rounds_none h =
      let few : bound + 1 < g.height + 3 = omega arith in
      div-eq_of_lt few

  rooted_rounds_some :
      g.height + 2 ≤ bound → rooted_rounds g bound ≡ suc ((bound + 1 - (g.height + 3)) / (g.height + 3))
  rooted_rounds_some h =
      let some : 0 < g.height + 3 = omega arith in
      let many : g.height + 3 ≤ bound + 1 = omega arith in
      div-eq-sub-div some many ∙ omega arith

  rooted_rounds_one : bound ≡ g.height + 2 → rooted_rounds g bound ≡ 1
  rooted_rounds_one e =
      let none : bound + 1 - (g.height + 3) ≡ 0 = omega arith in
      rooted_rounds_some (omega arith)
      ∙ ap suc (ap (λ (left : ℕ). left / (g.height + 3)) none ∙ zero-div (g.height + 3))

  rooted_rounds_next :
      g.height + 3 ≤ bound → rooted_rounds g bound ≡ suc (rooted_rounds g (bound - (g.height + 3)))
  rooted_rounds_next h =
      let left : bound + 1 - (g.height + 3) ≡ bound - (g.height + 3) + 1 = omega arith in
      rooted_rounds_some (omega arith) ∙ ap (λ (n : ℕ). suc (n / (g.height + 3))) left

-- ---- the hidden writes after them ----

-- of a run from a slot on
abbrev pub rooted_by :
    Geometry → (number : ℕ) → (content : Bytes) → (bound slot : ℕ) → (random disk : Bytes) → HiddenState →
    HiddenState
rooted_by g number content bound slot random disk state =
    (run_from (rooted_rounds g bound) g number content slot random disk state).state

module _ (g : Geometry) (number : ℕ) (content : Bytes) (bound slot : ℕ) (random disk : Bytes)
    (state : HiddenState) where
  abbrev part : HiddenHalf
  part = hidden_half g disk slot random state

  abbrev state_after : (rounds : ℕ) → HiddenState
  state_after rounds = (run_from rounds g number content slot random disk state).state

  pub rooted_by_none : bound < g.height + 2 → rooted_by g number content bound slot random disk state ≡ state
  rooted_by_none h =
      ap state_after (rooted_rounds_none g bound h)
      ∙ ap (λ (run : Run). run.state) (run_from-zero g number content slot random disk state)

  -- a kept round, and those after it
  module _ (taken : is_allocated g disk slot ≡ true) where
    abbrev kept : Bytes
    kept = after_round keep_public g disk number slot content part.trace

    abbrev rest_after : (rounds : ℕ) → HiddenState
    rest_after rounds =
        (run_from rounds g number content (next_slot g slot) (drop (g.height * g.block_size) random) kept
        part.state).state

    after_kept : (rounds : ℕ) → state_after (suc rounds) ≡ rest_after rounds
    after_kept rounds =
        ap (λ (run : Run). run.state) (run_from_kept rounds g number content slot random disk state taken)

    pub rooted_by_one :
        bound ≡ g.height + 2 → rooted_by g number content bound slot random disk state ≡ part.state
    rooted_by_one e =
        ap state_after (rooted_rounds_one g bound e) ∙ after_kept 0
        ∙ ap (λ (run : Run). run.state)
        (run_from-zero g number content (next_slot g slot) (drop (g.height * g.block_size) random) kept
        part.state)

    pub rooted_by_next :
        g.height + 3 ≤ bound →
        rooted_by g number content bound slot random disk state ≡
        rooted_by g number content (bound - (g.height + 3)) (next_slot g slot)
        (drop (g.height * g.block_size) random) kept part.state
    rooted_by_next h =
        ap state_after (rooted_rounds_next g bound h) ∙ after_kept (rooted_rounds g (bound - (g.height + 3)))

  -- a last one
  pub rooted_by_last :
      is_allocated g disk slot ≡ false → g.height + 2 ≤ bound →
      rooted_by g number content bound slot random disk state ≡ part.state
  rooted_by_last free h =
      ap state_after (rooted_rounds_some g bound h)
      ∙ ap (λ (run : Run). run.state)
      (run_from_last ((bound + 1 - (g.height + 3)) / (g.height + 3)) g number content slot random disk state
      free)
