-- Laws of what a write brings along: its refusal, the hidden writes that it brings to the rounds, and what
-- becomes of it. Assumes nothing.
use mathlib.Core.Path.{◌≡◌, refl, ◌∙◌}
use mathlib.Core.Logic.{◌≢◌}
use mathlib.Core.Bool.{cond, not}
use mathlib.Core.List.{List, [], ◌∷◌}
use Prim.Native.Nat.{ℕ}
use lib.Dec.{eqb}
use lib.ListN.{length}
use borrow.Author.Tests.{eq-eqb, ne_eqb}
use Rattle.laws.specs.Checks.{first_of}
use Rattle.laws.proofs.Cases.{cond_true, cond_false}
use Rattle.model.specs.Geometry.{Geometry}
use Rattle.model.specs.Blocks.{Bytes}
use Rattle.model.specs.Layout.{head_in}
use Rattle.model.specs.HiddenHalf.{HiddenWrite, HiddenState, is_waiting}
use Rattle.model.specs.Rounds.{run_from}
use Rattle.model.specs.Refusals.{hidden_checks, hidden_write_refusal}
use Rattle.model.specs.Calls.{Outcome, no_write, placed, waiting, bad_number, bad_size, damaged_walk}
use Rattle.model.specs.Line.{Offer, turns, hidden_writes_of}
use Rattle.model.specs.Calls.{offer_outcome, Offered, nothing, one, in_line, offer_refusal, offered_writes}
use Rattle.model.specs.Calls.{start_state, write_run}

-- ---- its refusal ----

pub offer_refusal_nothing : (g : Geometry) → offer_refusal g nothing ≡ 0
unfolding offer_refusal
offer_refusal_nothing g = refl

pub offer_refusal-in_line :
    (g : Geometry) (blocks : Bytes) (line : List Offer) → offer_refusal g (in_line blocks line) ≡ 0
unfolding offer_refusal
offer_refusal-in_line g blocks line = refl

module _ (g : Geometry) (write : HiddenWrite) where
  pub offer_refusal_one : offer_refusal g (one write) ≡ hidden_write_refusal g write.number write.content
  unfolding offer_refusal
  offer_refusal_one = refl

  -- by 10 and 11
  pub offer_refusal_checks :
      offer_refusal g (one write) ≡ first_of (hidden_checks g write.number (length write.content))
  unfolding offer_refusal hidden_write_refusal
  offer_refusal_checks = refl

-- ---- the hidden writes that it brings ----

pub offered_writes_nothing : (g : Geometry) → offered_writes g nothing ≡ []
unfolding offered_writes
offered_writes_nothing g = refl

pub offered_writes_one :
    (g : Geometry) (write : HiddenWrite) →
    offered_writes g (one write) ≡
    cond (eqb (hidden_write_refusal g write.number write.content) 0) (write ∷ []) []
unfolding offered_writes
offered_writes_one g write = refl

pub offered_writes-in_line :
    (g : Geometry) (blocks : Bytes) (line : List Offer) →
    offered_writes g (in_line blocks line) ≡ hidden_writes_of g blocks (turns g blocks line)
unfolding offered_writes
offered_writes-in_line g blocks line = refl

pub write_run_is :
    (g : Geometry) (disk : Bytes) (number : ℕ) (content random : Bytes) (offer : Offered) →
    write_run g disk number content random offer ≡
    run_from g.slots g number content (head_in disk) random disk (start_state (offered_writes g offer))
unfolding write_run
write_run_is g disk number content random offer = refl

-- ---- what becomes of it ----

-- what a good offer comes to
abbrev pub good_outcome : HiddenState → Outcome
good_outcome state =
    cond (not (eqb state.placed 0)) placed
    (cond state.met_damage damaged_walk (cond (is_waiting state.waiting) waiting no_write))

module _ (refusal : ℕ) (state : HiddenState) where
  pub offer_outcome_number : refusal ≡ 10 → offer_outcome refusal state ≡ bad_number
  unfolding offer_outcome
  offer_outcome_number e = cond_true _ _ (eq-eqb refusal 10 e)

  module _ (counted : refusal ≢ 10) where
    pub offer_outcome_size : refusal ≡ 11 → offer_outcome refusal state ≡ bad_size
    unfolding offer_outcome
    offer_outcome_size e = cond_false _ _ (ne_eqb refusal 10 counted) ∙ cond_true _ _ (eq-eqb refusal 11 e)

    pub offer_outcome_good : refusal ≢ 11 → offer_outcome refusal state ≡ good_outcome state
    unfolding offer_outcome
    offer_outcome_good sized =
        cond_false _ _ (ne_eqb refusal 10 counted) ∙ cond_false _ _ (ne_eqb refusal 11 sized)
