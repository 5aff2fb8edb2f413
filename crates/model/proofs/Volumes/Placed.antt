-- How many hidden writes a run places: with those still waiting always as many as it began with; what the
-- outcome says of them, and what document 01's write places, on any drive. Assumes nothing.
use mathlib.Core.Path.{◌≡◌, refl, sym, ap, ◌∙◌}
use mathlib.Core.Logic.{◌≢◌, ⊎_elim}
use mathlib.Core.Bool.{Bool, true, false, cond}
use mathlib.Core.List.{List, [], ◌∷◌}
use mathlib.Core.Option.{Option, some}
use Prim.Native.Nat.{ℕ, zero, suc, ◌+◌, ◌≤◌}
use native.Mathlib.Omega.{arith}
use lib.Dec.{eqb}
use lib.ListN.{length, take}
use borrow.Author.Tests.{ne_eqb, eq-eqb}
use Rattle.laws.proofs.Cases.{eq_cases, and_both, and_false_right, cond_true, cond_false, cond_cases}
use Rattle.model.specs.Geometry.{Geometry}
use Rattle.model.specs.Blocks.{Bytes}
use Rattle.model.specs.Layout.{geometry_in, head_in}
use Rattle.model.specs.Table.{HiddenChoice, keep_hidden, place_hidden, fill_hidden}
use Rattle.model.specs.HiddenHalf.{HiddenWrite, HiddenState, HiddenHalf, is_waiting, is_blocked, hidden_by}
use Rattle.model.specs.HiddenHalf.{hidden_half, row_of}
use Rattle.model.specs.Rounds.{Run, run_from, choice_goes_on}
use Rattle.model.specs.Refusals.{hidden_write_refusal}
use Rattle.model.specs.Calls.{Offered, one, no_write, placed, waiting, bad_number, bad_size, damaged_walk}
use Rattle.model.specs.Calls.{outcome_number, offer_outcome, offer_refusal, offered_writes, start_state}
use Rattle.model.specs.Calls.{write_run, Written, written}
use Rattle.model.specs.Promises.ReadAfterWrite.{shown_after, placed_writes, is_placed, ToldPlaced}
use Rattle.model.proofs.Laws.Accepted.{offered_writes_bad}
use Rattle.model.proofs.Laws.Calls.{done_with, written_cases}

-- placed and waiting together
abbrev all_of : HiddenState → ℕ
all_of state = state.placed + length state.waiting

module _ (g : Geometry) where
  hidden_by-all :
      (choice : HiddenChoice) (disk : Bytes) (slot : ℕ) (random : Bytes) (state : HiddenState) →
      all_of (hidden_by choice g disk slot random state state.waiting).state ≡ all_of state
  unfolding hidden_by
  hidden_by-all keep_hidden disk slot random state = refl
  hidden_by-all fill_hidden disk slot random state = refl
  hidden_by-all place_hidden disk slot random state = by state.waiting refl
    where
      by : (writes : List HiddenWrite) → state.waiting ≡ writes →
          all_of (hidden_by place_hidden g disk slot random state writes).state ≡ all_of state
      by [] e = refl
      by (next ∷ later) e = let l : length state.waiting ≡ suc (length later) = ap length e in omega arith

  hidden_half-all :
      (disk : Bytes) (slot : ℕ) (random : Bytes) (state : HiddenState) →
      all_of (hidden_half g disk slot random state).state ≡ all_of state
  unfolding hidden_half
  hidden_half-all disk slot random state =
      cond_cases (λ (part : HiddenHalf). all_of part.state ≡ all_of state)
      (is_blocked g disk slot state.waiting) (λ e. refl)
      (λ e. hidden_by-all (row_of g disk slot state.waiting).hidden disk slot random state)

  pub run_from-all :
      (most number : ℕ) (content : Bytes) (slot : ℕ) (random disk : Bytes) (state : HiddenState) →
      all_of (run_from most g number content slot random disk state).state ≡ all_of state
  unfolding run_from
  run_from-all zero number content slot random disk state = refl
  run_from-all (suc most) number content slot random disk state =
      cond_cases (λ (run : Run). all_of run.state ≡ all_of state)
      (choice_goes_on (row_of g disk slot state.waiting).public)
      (λ e. run_from-all most number content _ _ _ _ ∙ hidden_half-all disk slot random state)
      (λ e. hidden_half-all disk slot random state)

-- ---- the outcome ----

-- says placed just if some are
outcome_told : (refusal : ℕ) (state : HiddenState) → outcome_number (offer_outcome refusal state) ≡ 1 →
    state.placed ≢ 0
unfolding offer_outcome
outcome_told refusal state said none =
    let z : eqb state.placed 0 ≡ true = eq-eqb state.placed 0 none in
    by (eqb refusal 10) (eqb refusal 11) state.met_damage (is_waiting state.waiting) (rw z at said)
  where
    by : (a b c d : Bool) →
        outcome_number (cond a bad_number (cond b bad_size (cond c damaged_walk (cond d waiting no_write)))) ≡ 1 →
        ⊥
    by true b c d e = omega (arith, e)
    by false true c d e = omega (arith, e)
    by false false true d e = omega (arith, e)
    by false false false true e = omega (arith, e)
    by false false false false e = omega (arith, e)

outcome_placed : (state : HiddenState) → state.placed ≢ 0 → offer_outcome 0 state ≡ placed
unfolding offer_outcome
outcome_placed state ne = rw (ne_eqb state.placed 0 ne)

-- ---- a write ----

module _ (disk : Bytes) (number : ℕ) (content random : Bytes) (room : ℕ) (offer : Offered) where
  abbrev g : Geometry
  g = geometry_in disk

  abbrev result : Written
  result = written disk number content random room offer

  done_le : (done_with disk number content random room offer).placed ≤ length (offered_writes g offer)
  unfolding write_run
  done_le =
      omega (
        arith,
        run_from-all g g.slots number content (head_in disk) random disk
            (start_state (offered_writes g offer)),
      )

  -- no more are placed than are brought
  pub placed_le : result.placed ≤ length (offered_writes g offer)
  placed_le =
      written_cases disk number content random room offer
      (λ (made : Written). made.placed ≤ length (offered_writes g offer)) (λ free. done_le)
      (λ refused. omega arith)

  -- a bad offer brings nothing, so nothing is placed
  good_of_placed : (done_with disk number content random room offer).placed ≢ 0 → offer_refusal g offer ≡ 0
  good_of_placed ne = ⊎_elim (λ e. e) bad (eq_cases (offer_refusal g offer) 0)
    where
      bad : offer_refusal g offer ≢ 0 → offer_refusal g offer ≡ 0
      bad f =
          let none : length (offered_writes g offer) ≡ 0 = ap length (offered_writes_bad g offer f) in
          absurd (ne (omega (arith, done_le)))

  pub told_of-written : ToldPlaced result
  told_of-written =
      written_cases disk number content random room offer ToldPlaced
      (λ free.
      record {
        placed_told = λ ne.
            ap outcome_number (ap (λ (n : ℕ). offer_outcome n state) (good_of_placed ne)
            ∙ outcome_placed state ne);
        told_placed = outcome_told (offer_refusal g offer) state;
      })
      (λ refused. record { placed_told = λ ne. absurd (ne refl); told_placed = λ said. absurd (omega arith) })
    where
      state : HiddenState
      state = (write_run g disk number content random offer).state

-- ---- document 01's write ----

module _ (disk : Bytes) (number : ℕ) (content random : Bytes) (room : ℕ) (offer : HiddenWrite) where
  abbrev one_result : Written
  one_result = written disk number content random room (one offer)

  -- where one is placed it is the one that was brought
  one_brought : one_result.placed ≢ 0 → placed_writes one_result disk (one offer) ≡ offer ∷ []
  unfolding offered_writes
  one_brought ne =
      by (eqb (hidden_write_refusal (geometry_in disk) offer.number offer.content) 0) one_result.placed
      ne (placed_le disk number content random room (one offer))
    where
      by : (isGood : Bool) (count : ℕ) → count ≢ 0 → count ≤ length (cond isGood (offer ∷ []) []) →
          take count (cond isGood (offer ∷ []) []) ≡ offer ∷ []
      by true zero some-placed h = absurd (some-placed refl)
      by true (suc zero) some-placed h = refl
      by true (suc (suc count)) some-placed h = absurd (omega arith)
      by false count some-placed h = absurd (some-placed (omega arith))

  -- and the write is not refused and says so
  says_placed : one_result.placed ≢ 0 → is_placed one_result ≡ true
  says_placed ne =
      let free : one_result.answer ≡ 0 =
      written_cases disk number content random room (one offer)
      (λ (made : Written). made.placed ≢ 0 → made.answer ≡ 0) (λ e some-placed. refl)
      (λ f some-placed. absurd (some-placed refl)) ne in
      let said = (told_of-written disk number content random room (one offer)).placed_told ne in
      and_both (eq-eqb one_result.answer 0 free) (eq-eqb (outcome_number one_result.outcome) 1 said)

  says_unplaced : one_result.placed ≡ 0 → is_placed one_result ≡ false
  says_unplaced e =
      and_false_right (eqb one_result.answer 0)
      (ne_eqb (outcome_number one_result.outcome) 1
      (λ said. (told_of-written disk number content random room (one offer)).told_placed said e))

  pub one_placed :
      (asked : ℕ) (before : Option Bytes) →
      shown_after (placed_writes one_result disk (one offer)) asked before ≡
      cond (is_placed one_result) (cond (eqb offer.number asked) (some offer.content) before) before
  unfolding shown_after
  one_placed asked before =
      ⊎_elim
      (λ e.
      ap (λ (count : ℕ). shown_after (take count (offered_writes (geometry_in disk) (one offer))) asked before) e
      ∙ sym (cond_false _ _ (says_unplaced e)))
      (λ ne.
      ap (λ (writes : List HiddenWrite). shown_after writes asked before) (one_brought ne)
      ∙ sym (cond_true _ _ (says_placed ne)))
      (eq_cases one_result.placed 0)
