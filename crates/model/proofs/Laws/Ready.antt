-- What a run of rounds up to a free slot needs, and one round of such a run: which it is by the slot's mark,
-- that its hidden half hides, and that a kept round leaves what the rounds after it need. Assumes nothing.
use mathlib.Core.Path.{◌≡◌, sym, ap, ◌∙◌}
use mathlib.Core.Logic.{◌≢◌}
use mathlib.Core.Bool.{true, false}
use Prim.Native.Nat.{ℕ, suc, ◌*◌, ◌≤◌, ◌<◌}
use native.Mathlib.Nat.{mul-le-mul_right}
use native.Mathlib.Omega.{arith}
use lib.ListN.{length, drop, length-drop}
use Rattle.laws.proofs.Cases.{cond_false, cond_true}
use Rattle.laws.proofs.Members.{All}
use Rattle.model.specs.Geometry.{Fits, Geometry, block_count}
use Rattle.model.specs.Blocks.{Bytes}
use Rattle.model.specs.Layout.{is_allocated, next_slot}
use Rattle.model.specs.Table.{keep_public, write_public}
use Rattle.model.specs.HiddenHalf.{HiddenHalf, HiddenState, hidden_half, row_of}
use Rattle.model.specs.Rounds.{stopped, followed_by, round_trace, run_from}
use Rattle.model.specs.Refusals.{rounds_to}
use Rattle.model.proofs.Laws.Slots.{next_slot_lt}
use Rattle.model.proofs.Laws.Places.{Placed}
use Rattle.model.proofs.Laws.Accepted.{GoodWrite}
use Rattle.model.proofs.Laws.HiddenHalf.{HidesHalf, hidden_half_hides, row_of_public}
use Rattle.model.proofs.Laws.RoundStores.{after_round, length_round, Round}
use Rattle.model.proofs.Laws.RoundEffects.{is_allocated_kept}
use Rattle.model.proofs.Laws.Wrote.{placed_kept}
use Rattle.model.proofs.Laws.RoundCounts.{OneMore, one_more_of, rounds_to_ext, rounds_to_taken}

-- a free slot among at most so many, random bytes for each round up to it, a number with a place or none, and
-- good hidden writes
pub record Ready (g : Geometry) (number most : ℕ) (disk : Bytes) (slot : ℕ) (random : Bytes)
    (state : HiddenState) : Type 0 where
  pub whole : length disk ≡ block_count g * g.block_size
  pub here : slot < g.slots
  pub placed : Placed g disk number
  pub some_rounds : rounds_to most (is_allocated g disk) g slot ≢ 0
  pub enough : rounds_to most (is_allocated g disk) g slot * (g.height * g.block_size) ≤ length random
  pub good : All (GoodWrite g) state.waiting

-- ---- one round of a run ----

module _ (most : ℕ) (g : Geometry) (number : ℕ) (content : Bytes) (slot : ℕ) (random disk : Bytes)
    (state : HiddenState) where
  pub run_from_kept :
      is_allocated g disk slot ≡ true →
      run_from (suc most) g number content slot random disk state ≡
      followed_by
      (round_trace keep_public g disk number slot content (hidden_half g disk slot random state).trace)
      (run_from most g number content (next_slot g slot) (drop (g.height * g.block_size) random)
      (after_round keep_public g disk number slot content (hidden_half g disk slot random state).trace)
      (hidden_half g disk slot random state).state)
  unfolding run_from
  run_from_kept e =
      let choice : (row_of g disk slot state.waiting).public ≡ keep_public =
      row_of_public g disk slot state.waiting ∙ cond_true keep_public write_public e in
      rw choice

  pub run_from_last :
      is_allocated g disk slot ≡ false →
      run_from (suc most) g number content slot random disk state ≡
      followed_by
      (round_trace write_public g disk number slot content (hidden_half g disk slot random state).trace)
      (stopped (hidden_half g disk slot random state).state)
  unfolding run_from
  run_from_last e =
      let choice : (row_of g disk slot state.waiting).public ≡ write_public =
      row_of_public g disk slot state.waiting ∙ cond_false keep_public write_public e in
      rw choice

-- ---- what it leaves ----

module _ (g : Geometry) (f : Fits g) (number : ℕ) (counted : number < g.publics) (content : Bytes)
    (sized : length content ≡ g.block_size) (most : ℕ) (disk : Bytes) (slot : ℕ) (random : Bytes)
    (state : HiddenState) (ready : Ready g number (suc most) disk slot random state) where
  abbrev now : HiddenHalf
  now = hidden_half g disk slot random state

  ready_hides : HidesHalf (GoodWrite g) g slot now
  ready_hides =
      let one : 1 ≤ rounds_to (suc most) (is_allocated g disk) g slot = omega (arith, ready.some_rounds) in
      hidden_half_hides g f disk ready.whole slot ready.here random
      (omega (arith, ready.enough, mul-le-mul_right (g.height * g.block_size) one)) (GoodWrite g)
      (λ write good. good.block_sized) state ready.good

  pub ready_round : Round g disk number slot content now.trace
  ready_round =
      record {
        fits = f;
        whole = ready.whole;
        counted = counted;
        inside = ready.here;
        sized = sized;
        placed = ready.placed;
        hides = ready_hides.hides;
      }

  module _ (taken : is_allocated g disk slot ≡ true) where
    abbrev kept : Bytes
    kept = after_round keep_public g disk number slot content now.trace

    marks :
        rounds_to most (is_allocated g kept) g (next_slot g slot) ≡
        rounds_to most (is_allocated g disk) g (next_slot g slot)
    marks =
        rounds_to_ext most (is_allocated g kept) (is_allocated g disk) g f (next_slot g slot)
        (next_slot_lt g slot f)
        (is_allocated_kept ready_round)

    more : OneMore (rounds_to most (is_allocated g disk) g (next_slot g slot))
    more =
        one_more_of (rounds_to most (is_allocated g disk) g (next_slot g slot))
        (λ e. ready.some_rounds (rounds_to_taken most (is_allocated g disk) g slot taken ∙ e))

    pub rounds_kept :
        rounds_to (suc most) (is_allocated g disk) g slot ≡
        suc (rounds_to most (is_allocated g kept) g (next_slot g slot))
    rounds_kept = rounds_to_taken most (is_allocated g disk) g slot taken ∙ more.one_more ∙ ap suc (sym marks)

    pub ready_kept :
        Ready g number most kept (next_slot g slot) (drop (g.height * g.block_size) random) now.state
    ready_kept =
        record {
          whole = length_round ready_round keep_public ∙ ready.whole;
          here = next_slot_lt g slot f;
          placed = placed_kept ready_round;
          some_rounds = λ e. more.some_rounds (sym marks ∙ e);
          enough =
              let split = ap (λ (n : ℕ). n * (g.height * g.block_size)) rounds_kept in
              omega (arith, split, ready.enough, length-drop (g.height * g.block_size) random);
          good = ready_hides.waiting;
        }
