-- One write side by side on two drives that show the same: with the same public part they are refused alike,
-- their stores are side by side, and the two drives that they leave show the same, whatever is offered and
-- whatever the random bytes are. Assumes nothing.
use mathlib.Core.Path.{◌≡◌, sym, ap₂, ◌∙◌, subst}
use mathlib.Core.Logic.{⊎_elim}
use mathlib.Core.List.{List}
use Prim.Native.Nat.{ℕ}
use native.Mathlib.Omega.{arith}
use lib.ListN.{length}
use Rattle.laws.proofs.Cases.{eq_cases}
use Rattle.model.specs.Geometry.{Geometry, block_count, block_width}
use Rattle.model.specs.Blocks.{Bytes, DiskAddress}
use Rattle.model.specs.Layout.{geometry_in, head_in}
use Rattle.model.specs.Stores.{apply}
use Rattle.model.specs.Rounds.{Run, run_from}
use Rattle.model.specs.Refusals.{write_refusal}
use Rattle.model.specs.Calls.{Offered, offered_writes, start_state, write_run, written, written_disk}
use Rattle.model.specs.View.{shown_of}
use Rattle.model.specs.Simulator.{Simulator, simulated_answer}
use Rattle.model.proofs.Laws.Refusals.{Accepted, accepted_of_refusal}
use Rattle.model.proofs.Laws.Accepted.{AcceptedWrite, accepted_of_write}
use Rattle.model.proofs.Laws.Ready.{Ready}
use Rattle.model.proofs.Laws.WriteRuns.{ready_of_write}
use Rattle.model.proofs.Laws.Calls.{written_done, written_refused}
use Rattle.model.proofs.Views.Agreement.{none, agree_apply}
use Rattle.model.proofs.Views.Shown.{ShowSame, TraceSame}
use Rattle.model.proofs.Views.Answers.{write_lengths, simulated_answer_write}
use Rattle.model.proofs.Views.Follows.{written_follows}
use Rattle.model.proofs.Views.Sides.{entry_at_alike}
use Rattle.model.proofs.Views.SideRuns.{run_from_alike}
use Rattle.model.proofs.Views.Drives.{Twins, geometry_in_twins, tracker_of_twins}

module _ (disk other : Bytes) (twins : Twins disk other) (number : ℕ) (content random others : Bytes)
    (same-random : length random ≡ length others) (room : ℕ) where
  pub write_refusal_twins :
      write_refusal disk number content (length random) room ≡
      write_refusal other number content (length others) room
  write_refusal_twins =
      sym (simulated_answer_write disk twins.accepted number content (length random) room)
      ∙ ap₂ (λ (sim : Simulator) (n : ℕ). simulated_answer sim (write_lengths number (length content) n room))
      (tracker_of_twins disk other twins) same-random
      ∙ simulated_answer_write other twins.other_accepted number content (length others) room

  module _ (offer offerOther : Offered)
      (free : write_refusal disk number content (length random) room ≡ 0) where
    abbrev g : Geometry
    g = geometry_in disk

    -- the two runs
    abbrev run : Run
    run = write_run (geometry_in disk) disk number content random offer

    abbrev run_other : Run
    run_other = write_run (geometry_in other) other number content others offerOther

    good : AcceptedWrite g disk number (length content) (length random) room
    good = accepted_of_write disk number content (length random) room free

    sound : Accepted disk
    sound = accepted_of_refusal disk twins.accepted

    -- the other drive's head is this one's
    heads : head_in disk ≡ head_in other
    heads = entry_at_alike g sound.sized.fits disk other twins.show_same 5 (omega arith)

    -- what the other run needs, over the first drive's geometry and from its head
    ready_other :
        Ready g number g.slots other (head_in disk) others (start_state (offered_writes g offerOther))
    ready_other =
        subst (λ (h : Geometry). Ready h number h.slots other (head_in disk) others
        (start_state (offered_writes h offerOther))) (sym (geometry_in_twins disk other twins))
        (rw heads (ready_of_write other number content others room offerOther
        (sym write_refusal_twins ∙ free)))

    -- the other run, over the first drive's geometry and from its head
    run_other_is :
        run_from g.slots g number content (head_in disk) others other
        (start_state (offered_writes g offerOther)) ≡
        run_other
    unfolding write_run
    run_other_is =
        ap₂ (λ (h : Geometry) (head : ℕ). run_from h.slots h number content head others other
        (start_state (offered_writes h offerOther)))
        (geometry_in_twins disk other twins) heads

    trace_alike : TraceSame g run.trace run_other.trace
    unfolding write_run
    trace_alike =
        subst (λ (r : Run). TraceSame g run.trace r.trace) run_other_is
        (run_from_alike g sound.sized.fits number content good.accepted.number_inside
        good.accepted.block_sized
        g.slots disk other
        (head_in disk) random others (start_state (offered_writes g offer))
        (start_state (offered_writes g offerOther)) twins.show_same
        (ready_of_write disk number content random room offer free) ready_other)

  -- the stores of the two writes, refused or not, are side by side
  pub written_twins :
      (offer offerOther : Offered) →
      TraceSame (geometry_in disk) (written disk number content random room offer).trace
      (written other number content others room offerOther).trace
  written_twins offer offerOther =
      ⊎_elim
      (λ e.
      rw (
        written_done disk number content random room offer e,
        written_done other number content others room offerOther (sym write_refusal_twins ∙ e),
      )
      (trace_alike offer offerOther e))
      (λ ne.
      rw (
        written_refused disk number content random room offer ne,
        written_refused other number content others room offerOther (λ e. ne (write_refusal_twins ∙ e)),
      )
      none)
      (eq_cases (write_refusal disk number content (length random) room) 0)

module _ (disk other : Bytes) (twins : Twins disk other) (number : ℕ) (content random others : Bytes)
    (same-random : length random ≡ length others) (list lists : List DiskAddress)
    (same-room : length list ≡ length lists) (offer offerOther : Offered) where
  -- the drives that the two writes leave, the second of them with a list of this length lent
  abbrev after : Bytes
  after = written_disk (written disk number content random (length list) offer) disk

  abbrev after_other : (room : ℕ) → Bytes
  after_other room = written_disk (written other number content others room offerOther) other

  pub written_disk_twins : Twins after (after_other (length lists))
  written_disk_twins =
      let here = written_follows disk twins.accepted number content random list offer in
      let there = written_follows other twins.other_accepted number content others lists offerOther in
      record {
        accepted = here.accepted_after;
        other_accepted = there.accepted_after;
        show_same =
            subst (λ (g : Geometry). ShowSame g after (after_other (length lists)))
            (sym here.geometry_after)
            (subst (λ (room : ℕ). ShowSame (geometry_in disk) after (after_other room)) same-room same_after);
      }
    where
      same_after : ShowSame (geometry_in disk) after (after_other (length list))
      same_after =
          let g = geometry_in disk in
          subst (λ (h : Geometry). ShowSame g after (apply (block_width h)
          (written other number content others (length list) offerOther).trace other))
          (geometry_in_twins disk other twins)
          (agree_apply (shown_of g) g.block_size (block_count g)
          (written_twins disk other twins number content random others same-random (length list) offer
          offerOther)
          twins.show_same)
