-- What rounds do to the hidden writes of a call and to what hidden numbers show: the progress of one round
-- after another, and what a whole call's progress says of the numbers. Assumes nothing.
use mathlib.Core.Path.{◌≡◌, refl, sym, ap, ap₂, ◌∙◌}
use mathlib.Core.Bool.{cond}
use mathlib.Core.List.{List, [], ◌∷◌, ◌++◌, append_assoc}
use mathlib.Core.Option.{Option, some}
use Prim.Native.Nat.{ℕ, ◌+◌, ◌<◌}
use native.Mathlib.Omega.{arith}
use lib.Dec.{eqb}
use lib.ListN.{length, take, length-append}
use lib.Seq.{take_at}
use Rattle.model.specs.Geometry.{Geometry}
use Rattle.model.specs.Blocks.{Bytes}
use Rattle.model.specs.HiddenHalf.{HiddenWrite, HiddenState}
use Rattle.model.specs.Calls.{start_state}
use Rattle.model.specs.Promises.ReadAfterWrite.{shown_after}

-- ---- progress ----

-- the first of the waiting writes are placed, without damage, and numbers show them
pub record Progress (g : Geometry) (state result : HiddenState) (old new : ℕ → Option Bytes) : Type 0 where
  pub done : List HiddenWrite
  pub waiting_is : state.waiting ≡ done ++ result.waiting
  pub placed_is : result.placed ≡ state.placed + length done
  pub damage_is : result.met_damage ≡ state.met_damage
  pub shows : (number : ℕ) → number < g.hidden → new number ≡ shown_after done number (old number)

pub shown_after_nil : (number : ℕ) (before : Option Bytes) → shown_after [] number before ≡ before
unfolding shown_after
shown_after_nil number before = refl

shown_after-append :
    (xs ys : List HiddenWrite) (number : ℕ) (before : Option Bytes) →
    shown_after (xs ++ ys) number before ≡ shown_after ys number (shown_after xs number before)
unfolding shown_after
shown_after-append [] ys number before = refl
shown_after-append (next ∷ later) ys number before =
    shown_after-append later ys number (cond (eqb next.number number) (some next.content) before)

pub progress_then :
    (g : Geometry) (state middle result : HiddenState) (old between new : ℕ → Option Bytes) →
    Progress g state middle old between → Progress g middle result between new →
    Progress g state result old new
progress_then g state middle result old between new p q =
    record {
      done = p.done ++ q.done;
      waiting_is =
          p.waiting_is ∙ ap (λ (xs : List HiddenWrite). p.done ++ xs) q.waiting_is
          ∙ sym (append_assoc p.done q.done result.waiting);
      placed_is = omega (arith, p.placed_is, q.placed_is, length-append p.done q.done);
      damage_is = q.damage_is ∙ p.damage_is;
      shows = λ number h.
          q.shows number h ∙ ap (shown_after q.done number) (p.shows number h)
          ∙ sym (shown_after-append p.done q.done number (old number));
    }

-- ---- a whole call ----

-- the hidden writes that a call placed are the first so many of those that it brought, and numbers show them
pub shows_of_progress :
    (g : Geometry) (result : HiddenState) (old new : ℕ → Option Bytes) (number : ℕ) → number < g.hidden →
    (writes : List HiddenWrite) → Progress g (start_state writes) result old new →
    new number ≡ shown_after (take result.placed writes) number (old number)
shows_of_progress g result old new number h writes progress =
    let count : result.placed ≡ length progress.done = omega (arith, progress.placed_is) in
    progress.shows number h
    ∙ ap (λ (done : List HiddenWrite). shown_after done number (old number))
    (sym (ap₂ {C = List HiddenWrite} take count progress.waiting_is
    ∙ take_at progress.done result.waiting (length progress.done) refl))
