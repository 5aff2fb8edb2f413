-- The simulator follows every write on an accepted drive: refused or done, it tells the write's answer,
-- rounds and stores, and its next state tracks the drive that the write leaves. Assumes nothing.
use mathlib.Core.Path.{◌≡◌, refl, sym, ap, ◌∙◌}
use mathlib.Core.Logic.{◌≢◌}
use mathlib.Core.Bool.{true, false}
use mathlib.Core.List.{List, []}
use Prim.Native.Nat.{◌<◌, ℕ, suc, ◌-◌, ◌≤◌}
use native.Mathlib.Omega.{arith}
use lib.ListN.{length, take}
use borrow.Author.Tests.{eq-eqb, ne_eqb}
use Rattle.laws.specs.Lists.{over}
use Rattle.laws.proofs.Cases.{cond_true, cond_false}
use Rattle.laws.proofs.Lists.{take_over}
use Rattle.model.specs.Geometry.{block_width}
use Rattle.model.specs.Blocks.{Bytes, DiskAddress}
use Rattle.model.specs.Layout.{geometry_in, head_in}
use Rattle.model.specs.Stores.{addresses}
use Rattle.model.specs.Refusals.{drive_refusal, round_count, write_refusal}
use Rattle.model.specs.Calls.{Offered, write_run, Written, refused_write, written, written_disk}
use Rattle.model.specs.Runs.{seen_of_write}
use Rattle.model.specs.Simulator.{Simulator, CallLengths, simulated_rounds, simulated_stores}
use Rattle.model.specs.Simulator.{simulated_answer, Told, told_stores, is_done, told_of, simulated_write}
use Rattle.model.specs.Simulator.{simulator_after, report_of}
use Rattle.model.proofs.Laws.Stores.{apply_nil, length-addresses}
use Rattle.model.proofs.Laws.Accepted.{AcceptedWrite, accepted_of_write}
use Rattle.model.proofs.Laws.Wrote.{drive_refusal_wrote, geometry_in_wrote}
use Rattle.model.proofs.Laws.Runs.{Ran, length_ran}
use Rattle.model.proofs.Laws.WriteRuns.{write_run_ran}
use Rattle.model.proofs.Laws.Calls.{done_with, written_cases}
use Rattle.model.proofs.Views.Tracking.{tracker_of}
use Rattle.model.proofs.Views.Answers.{write_lengths, simulated_answer_write}
use Rattle.model.proofs.Views.Writes.{simulated_rounds_suc, simulated_stores_is, tracker_of_final}

-- ---- the two ways of the simulator ----

module _ (sim : Simulator) (call : CallLengths) where
  told_of_done :
      is_done sim call ≡ true →
      told_of sim call ≡ told_stores 0 (simulated_rounds sim) (simulated_stores sim call.number)
  unfolding told_of
  told_of_done e = cond_true _ _ e

  pub told_of_refused : is_done sim call ≡ false → told_of sim call ≡ told_stores (simulated_answer sim call) 0 []
  unfolding told_of
  told_of_refused e = cond_false _ _ e

  simulator_after_done : is_done sim call ≡ true → simulator_after sim call ≡ simulated_write sim call.number
  unfolding simulator_after
  simulator_after_done e = cond_true _ _ e

  pub simulator_after_refused : is_done sim call ≡ false → simulator_after sim call ≡ sim
  unfolding simulator_after
  simulator_after_refused e = cond_false _ _ e

pub told_ext :
    {told other : Told} → told.answer ≡ other.answer → told.rounds ≡ other.rounds →
    told.stores ≡ other.stores →
    told.entries ≡ other.entries → told ≡ other
told_ext p q r s = λ i. record { answer = p i; rounds = q i; stores = r i; entries = s i }

-- ---- one step ----

-- what a write does and what the simulator says of it
pub record Follows (disk : Bytes) (list : List DiskAddress) (call : CallLengths) (result : Written) :
    Type 0 where
  pub told_same : report_of (seen_of_write result disk list) ≡ told_of (tracker_of disk) call
  pub accepted_after : drive_refusal (written_disk result disk) ≡ 0
  pub geometry_after : geometry_in (written_disk result disk) ≡ geometry_in disk
  pub tracker_after : tracker_of (written_disk result disk) ≡ simulator_after (tracker_of disk) call

module _ (disk : Bytes) (accepted : drive_refusal disk ≡ 0) (number : ℕ) (content random : Bytes)
    (list : List DiskAddress)
    (offer : Offered) where
  abbrev call : CallLengths
  call = write_lengths number (length content) (length random) (length list)

  abbrev refusal : ℕ
  refusal = write_refusal disk number content (length random) (length list)

  answer_is : simulated_answer (tracker_of disk) call ≡ refusal
  answer_is = simulated_answer_write disk accepted number content (length random) (length list)

  refused_follows : refusal ≢ 0 → Follows disk list call (refused_write refusal)
  refused_follows ne =
      let no : is_done (tracker_of disk) call ≡ false =
      ne_eqb (simulated_answer (tracker_of disk) call) 0 (λ e. ne (sym answer_is ∙ e)) in
      let same = apply_nil (block_width (geometry_in disk)) disk in
      record {
        told_same = told_ext (sym answer_is) refl refl refl ∙ sym (told_of_refused (tracker_of disk) call no);
        accepted_after = ap drive_refusal same ∙ accepted;
        geometry_after = ap geometry_in same;
        tracker_after = ap tracker_of same ∙ sym (simulator_after_refused (tracker_of disk) call no);
      }

  module _ (free : write_refusal disk number content (length random) (length list) ≡ 0) where
    good : AcceptedWrite (geometry_in disk) disk number (length content) (length random) (length list)
    good = accepted_of_write disk number content (length random) (length list) free

    known : number < (geometry_in disk).publics
    known = good.accepted.number_inside

    abbrev earlier : ℕ
    earlier = round_count (geometry_in disk) disk - 1

    rounds : round_count (geometry_in disk) disk ≡ suc earlier
    rounds = omega (arith, good.some_rounds)

    ran :
        Ran (geometry_in disk) number content (head_in disk) earlier disk
        (write_run (geometry_in disk) disk number content random offer)
    ran = write_run_ran disk number content random (length list) offer free

    done_follows : Follows disk list call (done_with disk number content random (length list) offer)
    done_follows =
        let yes : is_done (tracker_of disk) call ≡ true =
        eq-eqb (simulated_answer (tracker_of disk) call) 0 (answer_is ∙ free) in
        let run = write_run (geometry_in disk) disk number content random offer in
        let stores : addresses run.trace ≡ simulated_stores (tracker_of disk) number =
        ran.listed ∙ sym (simulated_stores_is disk accepted number known earlier rounds) in
        let count : length run.trace ≡ length (addresses run.trace) =
        sym (length-addresses run.trace) in
        let counted =
        length_ran (geometry_in disk) number content (head_in disk) _ good.some_rounds disk run ran in
        let fits : length (addresses run.trace) ≤ length list = omega (arith, good.enough_room) in
        record {
          told_same =
              told_ext refl
              (ran.counted ∙ sym (simulated_rounds_suc disk accepted number known earlier rounds))
              (count ∙ ap length stores)
              (ap (λ (n : ℕ). take n (over 0 (addresses run.trace) list)) count
              ∙ take_over (addresses run.trace) list fits ∙ stores)
              ∙ sym (told_of_done (tracker_of disk) call yes);
          accepted_after = drive_refusal_wrote disk accepted _ ran.wrote;
          geometry_after = geometry_in_wrote disk accepted _ ran.wrote;
          tracker_after =
              tracker_of_final disk accepted number known earlier rounds _ ran.wrote
              good.accepted.in_place
              ∙ sym (simulator_after_done (tracker_of disk) call yes);
        }

  pub written_follows :
      Follows disk list (write_lengths number (length content) (length random) (length list))
      (written disk number content random (length list) offer)
  written_follows =
      written_cases disk number content random (length list) offer (Follows disk list call) done_follows
      refused_follows
