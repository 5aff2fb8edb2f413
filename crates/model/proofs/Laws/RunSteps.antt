-- Laws of a run by its rounds: what is done with the rest of it, and one round moved from the rest to what is
-- done. Assumes nothing.
use mathlib.Core.Path.{◌≡◌, refl, sym, ap, ap₂}
use mathlib.Core.Bool.{true, cond}
use mathlib.Core.List.{[], ◌++◌, append_assoc, append-nil}
use Prim.Native.Nat.{ℕ, suc, ◌+◌, ◌*◌}
use native.Mathlib.Omega.{arith}
use lib.ListN.{drop}
use Rattle.laws.proofs.Cases.{true_is_not_false}
use Rattle.model.specs.Geometry.{Geometry, block_width}
use Rattle.model.specs.Blocks.{Bytes}
use Rattle.model.specs.Layout.{next_slot}
use Rattle.model.specs.Stores.{Trace, apply}
use Rattle.model.specs.Table.{PublicChoice, keep_public, write_public}
use Rattle.model.specs.HiddenHalf.{HiddenState, row_of, hidden_half}
use Rattle.model.specs.Rounds.{Run, stopped, followed_by, choice_goes_on, round_trace, run_from}

-- ---- a run, and what is done before it ----

abbrev pub after : (front : Trace) → (done : ℕ) → Run → Run
after front done rest =
    record { trace = front ++ rest.trace; rounds = done + rest.rounds; state = rest.state }

pub after_nothing : (run : Run) → run ≡ after [] 0 run
after_nothing run =
    let e : run.rounds ≡ 0 + run.rounds = omega arith in
    ap (λ (n : ℕ). record { trace = run.trace; rounds = n; state = run.state }) e

-- a round goes over from the rest
pub after_round_lem :
    (front : Trace) (done : ℕ) (round : Trace) (rest : Run) →
    after front done (followed_by round rest) ≡ after (front ++ round) (done + 1) rest
after_round_lem front done round rest =
    let e : done + suc rest.rounds ≡ done + 1 + rest.rounds = omega arith in
    ap₂ (λ (xs : Trace) (n : ℕ). record { trace = xs; rounds = n; state = rest.state })
    (sym (append_assoc front round rest.trace)) e

pub after_stopped :
    (front : Trace) (done : ℕ) (state : HiddenState) →
    after front done (stopped state) ≡ record { trace = front; rounds = done; state = state }
after_stopped front done state =
    let e : done + 0 ≡ done = omega arith in
    ap₂ (λ (xs : Trace) (n : ℕ). record { trace = xs; rounds = n; state = state }) (append-nil front) e

-- ---- one round of a run ----

-- the rest after a round, by the table's choice
abbrev pub rest_by :
    (choice : PublicChoice) → (most : ℕ) → Geometry → (number : ℕ) → (content : Bytes) → (slot : ℕ) →
    (random disk : Bytes) → HiddenState → Run
rest_by choice most g number content slot random disk state =
    cond (choice_goes_on choice) (run_from most g number content slot random disk state) (stopped state)

pub run_from_suc :
    (most : ℕ) (g : Geometry) (number : ℕ) (content : Bytes) (slot : ℕ) (random disk : Bytes)
    (state : HiddenState) →
    let choice = (row_of g disk slot state.waiting).public in
    let hidden = hidden_half g disk slot random state in
    let round = round_trace choice g disk number slot content hidden.trace in
    run_from (suc most) g number content slot random disk state ≡
    followed_by round
    (rest_by choice most g number content (next_slot g slot) (drop (g.height * g.block_size) random)
    (apply (block_width g) round disk) hidden.state)
unfolding run_from
run_from_suc most g number content slot random disk state = refl

pub run_from-zero :
    (g : Geometry) (number : ℕ) (content : Bytes) (slot : ℕ) (random disk : Bytes) (state : HiddenState) →
    run_from 0 g number content slot random disk state ≡ stopped state
unfolding run_from
run_from-zero g number content slot random disk state = refl

pub keep_of_goes_on : (choice : PublicChoice) → choice_goes_on choice ≡ true → choice ≡ keep_public
keep_of_goes_on keep_public e = refl
keep_of_goes_on write_public e = true_is_not_false e refl
