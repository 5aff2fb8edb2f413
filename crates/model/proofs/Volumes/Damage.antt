-- A drive whose hidden volume is sound: every call keeps it so, and none answers or reports damage. Assumes
-- nothing.
use mathlib.Core.Path.{◌≡◌, refl, sym, ◌∙◌}
use mathlib.Core.Logic.{◌≢◌, ⊎_elim}
use mathlib.Core.Bool.{Bool, true, false, cond, not}
use mathlib.Core.List.{List, [], ◌∷◌, ◌++◌}
use mathlib.Core.Option.{Option, none, some}
use Prim.Native.Nat.{ℕ, ◌≤◌, ◌<◌}
use native.Mathlib.Omega.{arith}
use lib.Dec.{eqb}
use lib.ListN.{length}
use borrow.Author.Tests.{le-leb}
use Rattle.laws.proofs.Cases.{lt_cases}
use Rattle.laws.proofs.Checks.{never_append, first_of_never, first_of_stop}
use Rattle.model.specs.Geometry.{Geometry, Fits}
use Rattle.model.specs.Blocks.{Bytes}
use Rattle.model.specs.Layout.{geometry_in}
use Rattle.model.specs.HiddenTree.{walk, is_damaged}
use Rattle.model.specs.HiddenHalf.{HiddenState, is_waiting}
use Rattle.model.specs.Refusals.{drive_checks, place_checks, round_checks, hidden_checks, walk_checks}
use Rattle.model.specs.Refusals.{drive_refusal, public_read_refusal, hidden_read_refusal}
use Rattle.model.specs.Calls.{no_write, placed, waiting, bad_number, bad_size, outcome_number, offer_outcome}
use Rattle.model.specs.Line.{Offer, waiting_for}
use Rattle.model.specs.Calls.{Offered, Written, written, line_read_refusal}
use Rattle.model.specs.Invariants.{HiddenInvariant}
use Rattle.model.specs.Runs.{Call, disk_after, disk_after_all}
use Rattle.model.specs.Promises.ReadAfterWrite.{Sound}
use Rattle.model.specs.Promises.TreeCheck.{NeverDamaged}
use Rattle.model.proofs.Laws.Refusals.{after_drive_pass}
use Rattle.model.proofs.Laws.Calls.{answer_written}
use Rattle.model.proofs.Laws.LineCalls.{line_read_refusal_disk, line_read_refusal_checks}
use Rattle.model.proofs.Refusals.Bounds.{never_drive, never_place, refusal_of_rounds}
use Rattle.model.proofs.Tree.Keys.{lt_tree_capacity}
use Rattle.model.proofs.Tree.Ghost.{Ghost}
use Rattle.model.proofs.Tree.Walks.{is_damaged-walk}
use Rattle.model.proofs.Tree.FromInvariant.{tree_of, ghost_of_hidden_invariant}
use Rattle.model.proofs.Volumes.Writes.{fits_of_accepted, write_cases}
use Rattle.model.proofs.Volumes.Calls.{call_keeps_geometry, call_keeps_accepted, call_keeps_hidden}

-- a drive of a geometry whose hidden volume is sound
pub record HiddenSound (g : Geometry) (disk : Bytes) : Type 0 where
  pub geometry : geometry_in disk ≡ g
  pub accepted : drive_refusal disk ≡ 0
  pub hidden_sound : HiddenInvariant g disk

pub hidden_sound_of_sound : (g : Geometry) (disk : Bytes) → Sound g disk → HiddenSound g disk
hidden_sound_of_sound g disk sound =
    record {
      geometry = sound.geometry;
      accepted = sound.accepted;
      hidden_sound = sound.hidden_sound;
    }

-- ---- what calls keep ----

module _ (g : Geometry) where
  pub calls_keep_hidden_sound : (calls : List Call) (disk : Bytes) → HiddenSound g disk →
      HiddenSound g (disk_after_all disk calls)
  unfolding disk_after_all
  calls_keep_hidden_sound [] disk sound = sound
  calls_keep_hidden_sound (call ∷ calls) disk sound =
      calls_keep_hidden_sound calls (disk_after disk call)
      (record {
        geometry = call_keeps_geometry g disk call sound.geometry sound.accepted;
        accepted = call_keeps_accepted g disk call sound.geometry sound.accepted;
        hidden_sound =
            call_keeps_hidden g disk call sound.geometry sound.accepted sound.hidden_sound;
      })

-- ---- no damage ----

-- without damage no outcome says so
outcome_undamaged : (refusal : ℕ) (state : HiddenState) → state.met_damage ≡ false →
    outcome_number (offer_outcome refusal state) ≢ 12
unfolding offer_outcome
outcome_undamaged refusal state e =
    rw e (by (eqb refusal 10) (eqb refusal 11) (not (eqb state.placed 0)) (is_waiting state.waiting))
  where
    by : (a b c d : Bool) →
        outcome_number (cond a bad_number (cond b bad_size (cond c placed (cond d waiting no_write)))) ≢ 12
    by true b c d = λ e. omega arith
    by false true c d = λ e. omega arith
    by false false true d = λ e. omega arith
    by false false false true = λ e. omega arith
    by false false false false = λ e. omega arith

module _ (disk : Bytes) (sound : HiddenSound (geometry_in disk) disk) where
  abbrev g : Geometry
  g = geometry_in disk

  f : Fits g
  f = fits_of_accepted g disk refl sound.accepted

  ghost : Ghost g disk (tree_of g disk)
  ghost = ghost_of_hidden_invariant g f disk sound.hidden_sound

  undamaged : (number : ℕ) → number < g.hidden → is_damaged (walk g disk number).end ≡ false
  undamaged number h =
      is_damaged-walk g disk (tree_of g disk) ghost.links number (lt_tree_capacity g f number h) f

  public_undamaged : (number : ℕ) (blank : Bytes) → public_read_refusal disk number blank ≢ 12
  unfolding public_read_refusal
  public_undamaged number blank =
      first_of_never 12 (drive_checks disk ++ place_checks g disk number (length blank)) (λ e. omega arith)
      (never_append 12 (drive_checks disk) (place_checks g disk number (length blank))
      (never_drive disk 12 (omega arith)) (never_place g disk number (length blank) 12 (omega arith)))

  hidden_undamaged : (number : ℕ) (blank : Bytes) → hidden_read_refusal disk number blank ≢ 12
  unfolding hidden_read_refusal hidden_checks walk_checks
  hidden_undamaged number blank = ⊎_elim inside past (lt_cases number g.hidden)
    where
      inside : number < g.hidden → hidden_read_refusal disk number blank ≢ 12
      inside h =
          let own = hidden_checks g number (length blank) ++ walk_checks g disk number in
          first_of_never 12 (drive_checks disk ++ own) (λ e. omega arith)
          (never_append 12 (drive_checks disk) own (never_drive disk 12 (omega arith))
          (λ e. absurd (omega arith), ((λ e. absurd (omega arith)), ((λ e. undamaged number h), tt))))

      past : g.hidden ≤ number → hidden_read_refusal disk number blank ≢ 12
      past h e =
          let ten : hidden_read_refusal disk number blank ≡ 10 =
          after_drive_pass disk (hidden_checks g number (length blank) ++ walk_checks g disk number)
          sound.accepted
          ∙ first_of_stop 10 _ (le-leb g.hidden number h) in
          omega (arith, e, ten)

  module _ (number : ℕ) (blank blocks : Bytes) (line : List Offer) where
    waited_undamaged : (block : Bytes) → waiting_for g blocks line number ≡ some block →
        line_read_refusal disk number blank blocks line ≢ 12
    unfolding hidden_checks
    waited_undamaged block waits e =
        let own = hidden_checks g number (length blank) ++ [] in
        first_of_never 12 (drive_checks disk ++ own) (λ z. omega arith)
        (never_append 12 (drive_checks disk) own (never_drive disk 12 (omega arith))
        (λ z. absurd (omega arith), ((λ z. absurd (omega arith)), tt)))
        (sym (line_read_refusal_checks disk number blank blocks line block waits) ∙ e)

    line_undamaged : line_read_refusal disk number blank blocks line ≢ 12
    line_undamaged = by (waiting_for g blocks line number) refl
      where
        by : (waits : Option Bytes) → waiting_for g blocks line number ≡ waits →
            line_read_refusal disk number blank blocks line ≢ 12
        by none e z =
            hidden_undamaged number blank (sym (line_read_refusal_disk disk number blank blocks line e) ∙ z)
        by (some block) e z = waited_undamaged block e z

  module _ (number : ℕ) (content random : Bytes) (room : ℕ) (offer : Offered) where
    answer_undamaged : (written disk number content random room offer).answer ≢ 12
    unfolding round_checks
    answer_undamaged =
        rw (answer_written disk number content random room offer)
        (refusal_of_rounds disk number content (length random) room 12 (omega arith)
        (λ e. absurd (omega arith), ((λ e. absurd (omega arith)), ((λ e. absurd (omega arith)), tt))))

    outcome_sound : outcome_number (written disk number content random room offer).outcome ≢ 12
    outcome_sound =
        write_cases g disk refl sound.accepted number content random room offer
        (λ (made : Written) (final : Bytes). outcome_number made.outcome ≢ 12) (λ ne e. omega arith)
        (λ run leaves.
        outcome_undamaged _ run.state (leaves.grew (tree_of g disk) ghost).progress.damage_is)

  pub never_damaged_of_sound : NeverDamaged disk
  never_damaged_of_sound =
      record {
        public_answer = public_undamaged;
        hidden_answer = hidden_undamaged;
        line_answer_lem = line_undamaged;
        writes = λ number content random room offer.
            record {
              answer = answer_undamaged number content random room offer;
              outcome = outcome_sound number content random room offer;
            };
      }
