-- One round that is cut, as a run that begins with it sees it (document 02, K5): up to the root no hidden
-- number shows anything else, from the root on what the whole half placed; a kept round leaves map and public
-- blocks, a last one enters the new place with the map block; and a cut behind a whole kept round. Assumes
-- nothing.
use mathlib.Core.Path.{◌≡◌, refl, sym, ap, ◌∙◌, subst}
use mathlib.Core.Logic.{◌≢◌, ⊎_elim}
use mathlib.Core.Bool.{true, false}
use Prim.Native.Nat.{ℕ, suc, ◌+◌, ◌*◌, ◌-◌, ◌≤◌, ◌<◌}
use native.Mathlib.Nat.{suc-mul, mul-le-mul_right}
use native.Mathlib.Omega.{arith}
use lib.ListN.{length}
use lib.Seq.{take_all}
use Rattle.laws.proofs.Cases.{true_is_not_false, lt_cases}
use Rattle.model.specs.Geometry.{Geometry, Fits, block_width}
use Rattle.model.specs.Blocks.{Bytes, block_at}
use Rattle.model.specs.Layout.{slot_start, map_entry, is_allocated}
use Rattle.model.specs.Table.{PublicChoice, keep_public, write_public}
use Rattle.model.specs.HiddenHalf.{HiddenState, HiddenHalf, hidden_half}
use Rattle.model.specs.Rounds.{Run, followed_by, round_trace}
use Rattle.model.proofs.Laws.RoundStores.{after_round, Round}
use Rattle.model.proofs.Laws.RoundParts.{block_at_parts_start_other}
use Rattle.model.proofs.Laws.RoundEffects.{map_entry_kept, is_allocated_kept, block_at_kept_start}
use Rattle.model.proofs.Laws.Ready.{Ready, ready_round}
use Rattle.model.proofs.Tree.Ghost.{Tree, Ghost}
use Rattle.model.proofs.Tree.Stored.{StoredBy, stored_of_parts}
use Rattle.model.proofs.Tree.Turns.{still, hidden_half-turns}
use Rattle.model.proofs.Volumes.Growth.{Grew, grew_of_turned, grew_then, round_grew}
use Rattle.recovery_model.proofs.Laws.CutHalves.{length-half}
use Rattle.recovery_model.proofs.Laws.CutRounds.{cut_round, parts_cut_round}
use Rattle.recovery_model.proofs.Laws.CutEffects.{map_entry-cut_before, map_entry-cut_kept}
use Rattle.recovery_model.proofs.Laws.CutEffects.{map_entry-cut_same, map_entry-cut_other}
use Rattle.recovery_model.proofs.Laws.CutEffects.{block_at-cut_kept, block_at-cut_last}
use Rattle.recovery_model.proofs.Tree.Cut.{hidden_half_untouched}
use Rattle.recovery_model.proofs.Volumes.CutLeaves.{NewPlace}

-- what the first so many stores of a run leave, of whose rounds those that have their root stored leave a
-- state of the hidden writes
pub record CutRun (g : Geometry) (number : ℕ) (content : Bytes) (bound : ℕ) (disk cut : Bytes)
    (state : HiddenState) (run : Run) (rooted : HiddenState) : Type 0 where
  pub grew : (tree : Tree) → Ghost g disk tree → Grew g disk cut tree state rooted
  pub placed_le : rooted.placed ≤ run.state.placed
  pub block_kept :
      (other : ℕ) → other < g.slots → is_allocated g disk other ≡ true →
      block_at (block_width g) cut (slot_start g other) ≡ block_at (block_width g) disk (slot_start g other)
  pub map_other :
      (other : ℕ) → other < g.publics → other ≢ number → map_entry g cut other ≡ map_entry g disk other
  pub map_old : bound < run.rounds * (g.height + 3) → map_entry g cut number ≡ map_entry g disk number
  pub new_place : run.rounds * (g.height + 3) ≤ bound → NewPlace g disk cut number content

-- no store made
pub cut_nothing :
    (g : Geometry) → Fits g → (number : ℕ) (content disk : Bytes) (state : HiddenState) (run : Run) →
    1 ≤ run.rounds → state.placed ≤ run.state.placed →
    CutRun g number content 0 disk disk state run state
cut_nothing g f number content disk state run some_rounds placed_le =
    record {
      grew = λ tree ghost.
          grew_of_turned g f disk disk tree state state
          (record { grown = tree; ghost = ghost; turn = still refl (λ other h. refl) });
      placed_le = placed_le;
      block_kept = λ other h marked. refl;
      map_other = λ other h ne. refl;
      map_old = λ h. refl;
      new_place = λ h. absurd (omega (arith, mul-le-mul_right (g.height + 3) some_rounds));
    }

module _ (g : Geometry) (f : Fits g) (number : ℕ) (counted : number < g.publics) (content : Bytes)
    (sized : length content ≡ g.block_size) (most : ℕ) (disk : Bytes) (slot : ℕ) (random : Bytes)
    (state : HiddenState) (ready : Ready g number (suc most) disk slot random state) where
  abbrev part : HiddenHalf
  part = hidden_half g disk slot random state

  abbrev this : Round g disk number slot content part.trace
  this = ready_round g f number counted content sized most disk slot random state ready

  half_stores : length part.trace ≡ suc g.height
  half_stores = length-half g slot part.trace this.hides

  -- ---- the hidden volume ----

  module _ (choice : PublicChoice) (count : ℕ) (tree : Tree) (ghost : Ghost g disk tree) where
    abbrev cut : Bytes
    cut = cut_round this choice count

    -- cut before the root
    pub cut_untouched : count ≤ g.height → Grew g disk cut tree state state
    cut_untouched short =
        grew_of_turned g f disk cut tree state state
        (hidden_half_untouched g f disk tree ready.whole ghost slot ready.here state random ready.good
        this.hides count short cut (stored_of_parts (parts_cut_round this choice count)))

    -- the root stored
    pub cut-turned : g.height < count → Grew g disk cut tree state part.state
    cut-turned long =
        grew_of_turned g f disk cut tree state part.state
        (hidden_half-turns g f disk tree ready.whole ghost slot ready.here state random ready.good cut
        (subst (StoredBy g slot disk cut)
        (take_all count part.trace (omega (arith, half_stores)))
        (stored_of_parts (parts_cut_round this choice count))))

  -- ---- both ----

  module _ (count : ℕ) (run : Run) (rooted : HiddenState)
      (placed_le : rooted.placed ≤ run.state.placed) where
    -- a kept round, which others follow
    pub cut_kept :
        suc count < run.rounds * (g.height + 3) →
        ((tree : Tree) → Ghost g disk tree → Grew g disk (cut_round this keep_public count) tree state rooted) →
        CutRun g number content (suc count) disk (cut_round this keep_public count) state run rooted
    cut_kept early grew =
        record {
          grew = grew;
          placed_le = placed_le;
          block_kept = λ other h marked. block_at-cut_kept this count other;
          map_other = λ other h ne. map_entry-cut_kept this count other h;
          map_old = λ h. map_entry-cut_kept this count number counted;
          new_place = λ h. absurd (omega (arith, early, h));
        }

    -- the last round
    pub cut_last :
        run.rounds ≡ 1 → is_allocated g disk slot ≡ false →
        ((tree : Tree) → Ghost g disk tree →
        Grew g disk (cut_round this write_public count) tree state rooted) →
        CutRun g number content (suc count) disk (cut_round this write_public count) state run rooted
    cut_last one free grew =
        let stores : run.rounds * (g.height + 3) ≡ g.height + 3 =
        ap (λ (n : ℕ). n * (g.height + 3)) one ∙ omega arith in
        record {
          grew = grew;
          placed_le = placed_le;
          block_kept = λ other h marked.
              block_at_parts_start_other (parts_cut_round this write_public count) other
              (λ e. true_is_not_false marked (ap (is_allocated g disk) e ∙ free));
          map_other = λ other h ne. ⊎_elim
              (λ many. map_entry-cut_other this count many other h ne)
              (λ few. map_entry-cut_before this write_public count few other h)
              (lt_cases (length part.trace) count);
          map_old = λ h.
              map_entry-cut_before this write_public count (omega (arith, stores, half_stores)) number counted;
          new_place = λ h.
              record {
                slot = slot;
                inside = ready.here;
                was_free = free;
                entry_is = map_entry-cut_same this count (omega (arith, stores, half_stores));
                block_is = block_at-cut_last this count;
              };
        }

  -- ---- behind the round ----

  module _ (taken : is_allocated g disk slot ≡ true) (bound : ℕ) (long : g.height + 3 ≤ bound) (rest : Run)
      (final : Bytes) (rooted : HiddenState) where
    abbrev kept : Bytes
    kept = after_round keep_public g disk number slot content part.trace

    -- a whole kept round, and a run after it that is cut
    pub cut_then :
        CutRun g number content (bound - (g.height + 3)) kept final part.state rest rooted →
        CutRun g number content bound disk final state
        (followed_by (round_trace keep_public g disk number slot content part.trace) rest) rooted
    cut_then cut-rest =
        let stores = suc-mul rest.rounds (g.height + 3) in
        record {
          grew = λ tree ghost.
              let first = round_grew g f number counted content sized most disk slot random state ready
              keep_public tree ghost in
              grew_then g disk kept final tree state part.state rooted first
              (cut-rest.grew first.grown first.ghost);
          placed_le = cut-rest.placed_le;
          block_kept = λ other h marked.
              cut-rest.block_kept other h (is_allocated_kept this other h ∙ marked)
              ∙ block_at_kept_start this other;
          map_other = λ other h ne. cut-rest.map_other other h ne ∙ map_entry_kept this other h;
          map_old = λ h.
              cut-rest.map_old (omega (arith, stores)) ∙ map_entry_kept this number counted;
          new_place = λ h.
              let place = cut-rest.new_place (omega (arith, stores)) in
              record {
                slot = place.slot;
                inside = place.inside;
                was_free = sym (is_allocated_kept this place.slot place.inside) ∙ place.was_free;
                entry_is = place.entry_is;
                block_is = place.block_is;
              };
        }
