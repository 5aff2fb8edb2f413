-- Laws of the outcome: by the refusal of what was carried, then by how many are placed, the damage that was
-- met, and what is left. Assumes nothing.
use mathlib.Core.Path.{◌≡◌, refl, sym, ap, ◌∙◌}
use mathlib.Core.Logic.{◌≢◌}
use mathlib.Core.Bool.{true, false, cond, not}
use mathlib.Core.List.{List, [], ◌∷◌}
use Prim.Native.Nat.{ℕ, zero, suc, ◌≤◌, ◌<◌}
use native.Mathlib.Omega.{arith}
use lib.ListN.{length, drop}
use borrow.Author.Tests.{eq-eqb, ne_eqb}
use Rattle.laws.proofs.Cases.{cond_true, cond_false}
use Rattle.model.specs.HiddenHalf.{HiddenWrite, is_waiting}
use Rattle.model.specs.Calls as model
use Rattle.model.proofs.Laws.Offers.{good_outcome}
use Rattle.model.proofs.Laws.Offers.{offer_outcome_number, offer_outcome_size, offer_outcome_good}
use Rattle.plans.specs.declared.states.State.{State}
use Rattle.mapper.specs.Within.{state_with}

-- one is left where fewer are placed than there were
waits_left : (placed : ℕ) (writes : List HiddenWrite) → placed < length writes →
    is_waiting (drop placed writes) ≡ true
waits_left placed [] h = absurd (omega arith)
waits_left zero (write ∷ writes) h = refl
waits_left (suc placed) (write ∷ writes) h = waits_left placed writes (omega arith)

none_left : (placed : ℕ) (writes : List HiddenWrite) → length writes ≤ placed →
    is_waiting (drop placed writes) ≡ false
none_left zero [] h = refl
none_left (suc placed) [] h = refl
none_left zero (write ∷ writes) h = absurd (omega arith)
none_left (suc placed) (write ∷ writes) h = none_left placed writes (omega arith)

module _ (bad : ℕ) (state : State) (writes : List HiddenWrite) where
  -- the outcome of this refusal and state
  abbrev told : model.Outcome
  told = model.offer_outcome bad (state_with state writes)

  pub outcome_number_lem : bad ≡ 10 → model.bad_number ≡ told
  outcome_number_lem e = sym (offer_outcome_number bad (state_with state writes) e)

  module _ (counted : bad ≢ 10) where
    pub outcome_size : bad ≡ 11 → model.bad_size ≡ told
    outcome_size e = sym (offer_outcome_size bad (state_with state writes) counted e)

    module _ (sized : bad ≢ 11) where
      outcome_good : told ≡ good_outcome (state_with state writes)
      outcome_good = offer_outcome_good bad (state_with state writes) counted sized

      pub outcome_placed : state.placed ≢ 0 → model.placed ≡ told
      outcome_placed some =
          sym (outcome_good ∙ cond_true _ _ (ap not (ne_eqb state.placed 0 some)))

      module _ (none : state.placed ≡ 0) where
        outcome_unplaced :
            told ≡
            cond state.met_damage model.damaged_walk
            (cond (is_waiting (drop state.placed writes)) model.waiting model.no_write)
        outcome_unplaced = outcome_good ∙ cond_false _ _ (ap not (eq-eqb state.placed 0 none))

        pub outcome_damaged : state.met_damage ≡ true → model.damaged_walk ≡ told
        outcome_damaged met = sym (outcome_unplaced ∙ cond_true _ _ met)

        module _ (unmet : state.met_damage ≡ false) (count : ℕ) (whole : length writes ≡ count) where
          pub outcome_waiting : state.placed < count → model.waiting ≡ told
          outcome_waiting some =
              sym
              (outcome_unplaced ∙ cond_false _ _ unmet
              ∙ cond_true _ _ (waits_left state.placed writes (omega arith)))

          pub outcome_none : count ≤ state.placed → model.no_write ≡ told
          outcome_none all =
              sym
              (outcome_unplaced ∙ cond_false _ _ unmet
              ∙ cond_false _ _ (none_left state.placed writes (omega arith)))
