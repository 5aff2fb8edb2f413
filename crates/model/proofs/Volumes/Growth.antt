-- The ghost tree under one round: the round keeps it, and makes progress with the hidden writes that wait.
-- Assumes nothing.
use mathlib.Core.Path.{◌≡◌, sym, ap, ◌∙◌}
use mathlib.Core.Logic.{⊎_elim}
use mathlib.Core.List.{[], ◌∷◌}
use mathlib.Core.Option.{Option}
use Prim.Native.Nat.{suc, ℕ, ◌<◌}
use native.Mathlib.Omega.{arith}
use lib.ListN.{length}
use borrow.Author.Tests.{eq-eqb, ne_eqb}
use Rattle.laws.proofs.Cases.{eq_cases, cond_true, cond_false}
use Rattle.model.specs.Geometry.{Geometry, Fits}
use Rattle.model.specs.Blocks.{Bytes}
use Rattle.model.specs.Table.{PublicChoice}
use Rattle.model.specs.HiddenHalf.{HiddenState, HiddenHalf, hidden_half}
use Rattle.model.proofs.Laws.RoundStores.{after_round}
use Rattle.model.proofs.Laws.Rounds.{parts_round}
use Rattle.model.proofs.Laws.Ready.{Ready, ready_round}
use Rattle.model.proofs.Tree.Ghost.{Tree, Ghost, value_of}
use Rattle.model.proofs.Tree.Stored.{StoredBy, stored_of_parts}
use Rattle.model.proofs.Tree.Turns.{Turn, still, places, Turned, hidden_half-turns}
use Rattle.model.proofs.Volumes.Progress.{Progress, progress_then}
use Rattle.model.specs.Promises.ReadAfterWrite.{shown_after}

-- ---- the tree after rounds ----

-- the ghost tree after rounds, and the progress that they made
pub record Grew (g : Geometry) (disk final : Bytes) (tree : Tree) (state result : HiddenState) : Type 0 where
  pub grown : Tree
  pub ghost : Ghost g final grown
  pub progress : Progress g state result (value_of g disk tree) (value_of g final grown)

pub grew_then :
    (g : Geometry) (disk middle final : Bytes) (tree : Tree) (state between result : HiddenState) →
    (one : Grew g disk middle tree state between) → Grew g middle final one.grown between result →
    Grew g disk final tree state result
grew_then g disk middle final tree state between result one rest =
    record {
      grown = rest.grown;
      ghost = rest.ghost;
      progress =
          progress_then g state between result (value_of g disk tree) (value_of g middle one.grown)
          (value_of g final rest.grown) one.progress rest.progress;
    }

-- one turn as progress
progress_of_turn :
    (g : Geometry) → Fits g → (state result : HiddenState) (old new : ℕ → Option Bytes) →
    Turn g state result old new → Progress g state result old new
unfolding shown_after
progress_of_turn g f state result old new (still e same) =
    record {
      done = [];
      waiting_is = ap (λ (held : HiddenState). held.waiting) (sym e);
      placed_is = rw e (omega arith);
      damage_is = ap (λ (held : HiddenState). held.met_damage) e;
      shows = λ number h. same number (omega (arith, f.hidden_fits));
    }
progress_of_turn g f state result old new (places write later e q now same) =
    record {
      done = write ∷ [];
      waiting_is = e ∙ ap (λ (held : HiddenState). write ∷ held.waiting) (sym q);
      placed_is = ap (λ (held : HiddenState). held.placed) q ∙ omega arith;
      damage_is = ap (λ (held : HiddenState). held.met_damage) q;
      shows = λ number h. ⊎_elim
          (λ z. ap new (sym z) ∙ now ∙ sym (cond_true _ _ (eq-eqb write.number number z)))
          (λ ne.
          same number (omega (arith, f.hidden_fits)) (λ z. ne (sym z))
          ∙ sym (cond_false _ _ (ne_eqb write.number number ne)))
          (eq_cases write.number number);
    }

-- a half's turn is growth
pub grew_of_turned :
    (g : Geometry) → Fits g → (disk final : Bytes) (tree : Tree) (state result : HiddenState) →
    Turned g disk final tree state result → Grew g disk final tree state result
grew_of_turned g f disk final tree state result turned =
    record {
      grown = turned.grown;
      ghost = turned.ghost;
      progress =
          progress_of_turn g f state result (value_of g disk tree) (value_of g final turned.grown)
          turned.turn;
    }

-- ---- one round ----

module _ (g : Geometry) (f : Fits g) (number : ℕ) (counted : number < g.publics) (content : Bytes)
    (sized : length content ≡ g.block_size) (most : ℕ) (disk : Bytes) (slot : ℕ) (random : Bytes)
    (state : HiddenState) (ready : Ready g number (suc most) disk slot random state) where
  abbrev part : HiddenHalf
  part = hidden_half g disk slot random state

  abbrev after : PublicChoice → Bytes
  after choice = after_round choice g disk number slot content part.trace

  stored : (choice : PublicChoice) → StoredBy g slot disk (after choice) part.trace
  stored choice =
      stored_of_parts
      (parts_round (ready_round g f number counted content sized most disk slot random state ready) choice)

  pub round_grew :
      (choice : PublicChoice) (tree : Tree) → Ghost g disk tree →
      Grew g disk (after choice) tree state part.state
  round_grew choice tree ghost =
      grew_of_turned g f disk (after choice) tree state part.state
      (hidden_half-turns g f disk tree ready.whole ghost slot ready.here state random ready.good
      (after choice) (stored choice))
