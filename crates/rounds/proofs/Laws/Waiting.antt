-- Laws of what waits after so many turns: the first one and those behind it, that their blocks are whole, and
-- what a round makes of it. Assumes nothing.
use mathlib.Core.Path.{◌≡◌, refl, sym, ap}
use mathlib.Core.List.{List, [], ◌∷◌}
use Prim.Native.Nat.{ℕ, zero, suc, ◌+◌, ◌≤◌}
use native.Mathlib.Numerals.{add-one}
use native.Mathlib.Omega.{arith}
use lib.ListN.{drop}
use Rattle.laws.proofs.Members.{All}
use Rattle.model.specs.Geometry.{Geometry}
use Rattle.model.specs.Blocks.{Bytes}
use Rattle.model.specs.HiddenHalf.{HiddenWrite, HiddenState}
use Rattle.model.specs.Line.{Offer, hidden_writes_of}
use Rattle.model.proofs.Laws.HiddenHalf.{WholeWrite}
use Rattle.model.proofs.Laws.HiddenWrites.{hidden_writes_of_nil, hidden_writes_of-cons}
use Rattle.line.specs.Turns.{first_at}
use Rattle.line.proofs.Laws.Turns.{first_at_nil, first_at-zero, first_at_suc}
use Rattle.stores.proofs.Laws.Descriptors.{length-lent_block}
use Rattle.plans.specs.declared.states.State.{State}
use Rattle.plans.specs.declared.states.Turn.{Turn}
use Rattle.plans.specs.declared.states.Turn.TheVariants.{Still, Placed, Damaged}
use Rattle.plans.specs.HiddenPlans.{BlockLent}
use Rattle.plans.specs.States.{first_place, waiting_by, turned, state_after, state_of}
use Rattle.rounds.specs.Runs.{TurnsLent}

drop_nil : (count : ℕ) → ◌≡◌ {A = List HiddenWrite} (drop count []) []
drop_nil zero = refl
drop_nil (suc count) = refl

module _ (g : Geometry) (blocks : Bytes) where
  -- those that wait behind the first one after so many turns
  abbrev pub behind : (turns : List Offer) → (placed : ℕ) → List HiddenWrite
  behind turns placed = drop (suc placed) (hidden_writes_of g blocks turns)

  pub waiting_first :
      (turns : List Offer) (placed : ℕ) →
      drop placed (hidden_writes_of g blocks turns) ≡
      waiting_by g blocks (first_at turns placed) (behind turns placed)
  waiting_first [] placed = rw (hidden_writes_of_nil g blocks, first_at_nil placed) (drop_nil placed)
  waiting_first (offer ∷ later) zero =
      rw (hidden_writes_of-cons g blocks offer later, first_at-zero offer later)
  waiting_first (offer ∷ later) (suc placed) =
      rw (hidden_writes_of-cons g blocks offer later, first_at_suc offer later placed)
      (waiting_first later placed)

  pub first_lent :
      (turns : List Offer) (placed : ℕ) → TurnsLent g blocks turns →
      BlockLent g blocks (first_place (first_at turns placed))
  first_lent [] placed lent = rw (first_at_nil placed) tt
  first_lent (offer ∷ later) zero lent = rw (first_at-zero offer later) lent.0
  first_lent (offer ∷ later) (suc placed) lent =
      rw (first_at_suc offer later placed) (first_lent later placed lent.1)

  pub waiting_whole :
      (turns : List Offer) (placed : ℕ) → TurnsLent g blocks turns →
      All (WholeWrite g) (drop placed (hidden_writes_of g blocks turns))
  waiting_whole [] placed lent = rw (hidden_writes_of_nil g blocks, drop_nil placed) tt
  waiting_whole (offer ∷ later) zero lent =
      rw (hidden_writes_of-cons g blocks offer later)
      (length-lent_block g blocks offer.place lent.0, waiting_whole later zero lent.1)
  waiting_whole (offer ∷ later) (suc placed) lent =
      rw (hidden_writes_of-cons g blocks offer later) (waiting_whole later placed lent.1)

  pub turned_is :
      (turns : List Offer) (state : State) (turn : Turn) →
      turned turn (behind turns state.placed) (state_of g state turns blocks) ≡
      state_of g (state_after state turn) turns blocks
  turned_is turns state Still = refl
  turned_is turns state Placed =
      ap (λ (n : ℕ).
      let s : HiddenState =
      record {
        waiting = drop n (hidden_writes_of g blocks turns);
        placed = n;
        met_damage = state.met_damage;
      } in s) (sym (add-one state.placed))
  turned_is turns state Damaged = refl

-- a round places at most one
pub placed_after : (state : State) (turn : Turn) → (state_after state turn).placed ≤ state.placed + 1
placed_after state Still = omega arith
placed_after state Placed = omega arith
placed_after state Damaged = omega arith
