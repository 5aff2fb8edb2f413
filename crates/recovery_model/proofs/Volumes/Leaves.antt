-- What a write that is cut after so many stores leaves, refused or not (document 02, K5): a refused one makes
-- no store; any other leaves what the first stores of its run leave, on a drive of the same geometry. Assumes
-- nothing.
use mathlib.Core.Path.{◌≡◌, refl, sym, ap, ◌∙◌, subst}
use mathlib.Core.Logic.{◌≢◌, ◌⊎◌, inl, inr, ⊎_elim}
use mathlib.Core.Bool.{true}
use mathlib.Core.Option.{Option, none}
use mathlib.Core.List.{List}
use Prim.Native.Nat.{ℕ, ◌+◌, ◌*◌, ◌≤◌, ◌<◌}
use native.Mathlib.Omega.{arith}
use lib.ListN.{length, take}
use lib.Seq.{take-nil}
use borrow.Author.Tests.{eq-eqb, ne_eqb}
use Rattle.laws.proofs.Cases.{eq_cases, cond_true, cond_false}
use Rattle.model.specs.Geometry.{Geometry, Fits, block_width}
use Rattle.model.specs.Blocks.{Bytes}
use Rattle.model.specs.Layout.{geometry_in, head_in, slot_start, map_entry, is_allocated}
use Rattle.model.specs.Stores.{Trace, apply}
use Rattle.model.specs.HiddenHalf.{HiddenState, HiddenWrite}
use Rattle.model.specs.Rounds.{Run}
use Rattle.model.specs.Refusals.{drive_refusal}
use Rattle.model.specs.Calls.{hidden_read, or_else, Offered, offer_refusal, offered_writes, start_state, Written}
use Rattle.model.specs.Calls.{refused_write, done_write}
use Rattle.model.specs.Invariants.{HiddenInvariant}
use Rattle.model.specs.Promises.ReadAfterWrite.{shown_after}
use Rattle.model.specs.Promises.Waiting.{PublicHalf, half_refusal, half_written, first_rounds}
use Rattle.model.proofs.Laws.Stores.{apply_nil}
use Rattle.model.proofs.Laws.Refusals.{accepted_of_refusal}
use Rattle.model.proofs.Laws.Accepted.{AcceptedNumber, accepted_of_write}
use Rattle.model.proofs.Laws.HeaderStores.{DriveOf}
use Rattle.model.proofs.Laws.Offers.{write_run_is}
use Rattle.model.proofs.Laws.WriteRuns.{ready_of_write}
use Rattle.model.proofs.Laws.Calls.{written_done, written_refused}
use Rattle.model.proofs.Tree.Ghost.{Tree, Ghost, value_of}
use Rattle.model.proofs.Tree.Invariant.{hidden_invariant_of_ghost}
use Rattle.model.proofs.Tree.FromInvariant.{tree_of, ghost_of_hidden_invariant}
use Rattle.model.proofs.Volumes.Growth.{Grew}
use Rattle.model.proofs.Volumes.Progress.{shows_of_progress, shown_after_nil}
use Rattle.model.proofs.Volumes.Reads.{hidden_read_shows}
use Rattle.model.proofs.Volumes.Shown.{carries_placed}
use Rattle.model.proofs.Theorems.TreeCheck.{accepted_of_pass, sound_of_pass}
use Rattle.recovery_model.specs.Cuts.{cut_disk, rooted_rounds, placed_within}
use Rattle.recovery_model.specs.Promises.Recovery.{Recoverable}
use Rattle.recovery_model.proofs.Laws.Cuts.{drive_of-cut_disk}
use Rattle.recovery_model.proofs.Volumes.CutLeaves.{CutLeaves}
use Rattle.recovery_model.proofs.Volumes.Cuts.{CutRun}
use Rattle.recovery_model.proofs.Volumes.CutRuns.{run_from-cut}

module _ (disk : Bytes) (half : PublicHalf) (offer : Offered) (bound : ℕ) (drive : drive_refusal disk ≡ 0)
    (hidden : HiddenInvariant (geometry_in disk) disk) where
  abbrev g : Geometry
  g = geometry_in disk

  f : Fits (geometry_in disk)
  f = (accepted_of_refusal disk drive).sized.fits

  abbrev result : Written
  result = half_written half disk offer

  abbrev writes : List HiddenWrite
  writes = offered_writes g offer

  -- ---- refused ----

  module _ (refused : half_refusal half disk ≢ 0) where
    refused_is : result ≡ refused_write (half_refusal half disk)
    refused_is =
        written_refused disk half.number half.content half.random half.room offer refused

    none_placed : placed_within bound half disk offer ≡ 0
    none_placed = cond_false _ _ (ne_eqb (half_refusal half disk) 0 refused)

    disk_same : disk ≡ cut_disk bound result disk
    disk_same =
        sym (ap (λ (made : Written). cut_disk bound made disk) refused_is
        ∙ ap (λ (trace : Trace). apply (block_width g) trace disk) (take-nil bound)
        ∙ apply_nil (block_width g) disk)

    refused_leaves : CutLeaves g disk half offer bound (cut_disk bound result disk)
    refused_leaves =
        subst (CutLeaves g disk half offer bound) disk_same
        (record {
          geometry = refl;
          accepted = drive;
          hidden_sound = hidden;
          placed_le = omega (arith, none_placed);
          hidden_shown_lem = λ other blank h sized.
              sym (ap (λ (count : ℕ). or_else (shown_after (take count writes) other none)
              (hidden_read disk other blank)) none_placed
              ∙ ap (λ (shown : Option Bytes). or_else shown (hidden_read disk other blank))
              (shown_after_nil other none));
          block_kept = λ other slot h k e. refl;
          other_entry = λ other h ne. refl;
          old_entry = λ why h. refl;
          new_place = λ done late.
              absurd (refused (sym (ap (λ (made : Written). made.answer) refused_is) ∙ done));
        })

  -- ---- not refused ----

  module _ (free : half_refusal half disk ≡ 0)
      (mapped_marked : (number slot : ℕ) → number < g.publics → slot < g.slots →
      map_entry g disk number ≡ slot_start g slot → is_allocated g disk slot ≡ true) where
    abbrev run : Run
    run = first_rounds g.slots half disk offer

    abbrev rooted : HiddenState
    rooted = (first_rounds (rooted_rounds g bound) half disk offer).state

    abbrev cut : Bytes
    cut = apply (block_width g) (take bound run.trace) disk

    good : AcceptedNumber g disk half.number (length half.content)
    good =
        (accepted_of_write disk half.number half.content (length half.random) half.room free
        ).accepted

    cut_run : CutRun g half.number half.content bound disk cut (start_state writes) run rooted
    cut_run =
        run_from-cut g f half.number good.number_inside half.content good.block_sized g.slots
        bound disk (head_in disk) half.random (start_state writes)
        (ready_of_write disk half.number half.content half.random half.room offer free)

    done_is : result ≡ done_write (offer_refusal g offer) run
    done_is =
        written_done disk half.number half.content half.random half.room offer free
        ∙ ap (done_write (offer_refusal g offer))
        (write_run_is g disk half.number half.content half.random offer)

    rounds_are : result.rounds ≡ run.rounds
    rounds_are = ap (λ (made : Written). made.rounds) done_is

    placed_is : placed_within bound half disk offer ≡ rooted.placed
    placed_is = cond_true _ _ (eq-eqb (half_refusal half disk) 0 free)

    drive_cut : DriveOf g cut
    drive_cut =
        subst (λ (made : Written). DriveOf g (cut_disk bound made disk)) done_is
        (drive_of-cut_disk disk drive half.number half.content half.random half.room offer bound)

    abbrev tree : Tree
    tree = tree_of g disk

    ghost : Ghost g disk (tree_of g disk)
    ghost = ghost_of_hidden_invariant g f disk hidden

    grew : Grew g disk cut (tree_of g disk) (start_state writes) rooted
    grew = cut_run.grew tree ghost

    hidden_shown_lem :
        (other : ℕ) (blank : Bytes) → other < g.hidden → length blank ≡ g.block_size →
        hidden_read cut other blank ≡
        or_else (shown_after (take (placed_within bound half disk offer) writes) other none)
        (hidden_read disk other blank)
    hidden_shown_lem other blank h sized =
        hidden_read_shows g cut drive_cut.geometry drive_cut.accepted other blank sized f grew.grown
        grew.ghost h
        ∙ ap (λ (value : Option Bytes). or_else value blank)
        (shows_of_progress g rooted (value_of g disk tree) (value_of g cut grew.grown) other h writes
        grew.progress)
        ∙ carries_placed (take rooted.placed writes) other (value_of g disk tree other) none blank
        (hidden_read disk other blank)
        (sym (hidden_read_shows g disk refl drive other blank sized f tree ghost h))
        ∙ ap (λ (count : ℕ). or_else (shown_after (take count writes) other none) (hidden_read disk other blank))
        (sym placed_is)

    done_leaves : CutLeaves g disk half offer bound (cut_disk bound result disk)
    done_leaves =
        subst (CutLeaves g disk half offer bound)
        (sym (ap (λ (made : Written). cut_disk bound made disk) done_is))
        (record {
          geometry = drive_cut.geometry;
          accepted = drive_cut.accepted;
          hidden_sound = hidden_invariant_of_ghost g f cut grew.grown grew.ghost;
          placed_le =
              omega (
                arith,
                placed_is,
                cut_run.placed_le,
                ap (λ (made : Written). made.placed) done_is,
              );
          hidden_shown_lem = hidden_shown_lem;
          block_kept = λ other slot h k e. cut_run.block_kept slot k (mapped_marked other slot h k e);
          other_entry = cut_run.map_other;
          old_entry = λ why h. by why;
          new_place = λ done late.
              cut_run.new_place
              (subst (λ (rounds : ℕ). rounds * (g.height + 3) ≤ bound) rounds_are late);
        })
      where
        by :
            (result.answer ≢ 0) ⊎ (bound < result.rounds * (g.height + 3)) →
            map_entry g cut half.number ≡ map_entry g disk half.number
        by (inl ne) = absurd (ne (ap (λ (made : Written). made.answer) done_is))
        by (inr h) =
            cut_run.map_old (subst (λ (rounds : ℕ). bound < rounds * (g.height + 3)) rounds_are h)

-- ---- refused or not ----

pub cut_leaves :
    (g : Geometry) (disk : Bytes) (half : PublicHalf) (offer : Offered) (bound : ℕ) → Recoverable g disk →
    CutLeaves g disk half offer bound (cut_disk bound (half_written half disk offer) disk)
cut_leaves g disk half offer bound recoverable =
    subst (λ (stated : Geometry).
    ((number slot : ℕ) → number < stated.publics → slot < stated.slots →
    map_entry stated disk number ≡ slot_start stated slot → is_allocated stated disk slot ≡ true) →
    CutLeaves stated disk half offer bound (cut_disk bound (half_written half disk offer) disk))
    recoverable.geometry
    (λ mapped_marked.
    let drive = accepted_of_pass disk recoverable.passes in
    let hidden = sound_of_pass disk recoverable.passes in
    ⊎_elim (λ free. done_leaves disk half offer bound drive hidden free mapped_marked)
    (refused_leaves disk half offer bound drive hidden) (eq_cases (half_refusal half disk) 0))
    recoverable.mapped_marked
