-- A write on a drive of a geometry: a refused one leaves it as it was; any other leaves a drive of that
-- geometry, with the effect of a run on the public volume and the ghost tree kept. Assumes nothing.
use mathlib.Core.Path.{◌≡◌, sym, subst}
use mathlib.Core.Logic.{◌≢◌}
use Prim.Native.Nat.{ℕ, ◌-◌, ◌<◌}
use lib.ListN.{length}
use Rattle.model.specs.Geometry.{Geometry, Fits, block_width}
use Rattle.model.specs.Blocks.{Bytes}
use Rattle.model.specs.Layout.{geometry_in, head_in}
use Rattle.model.specs.Stores.{apply}
use Rattle.model.specs.Rounds.{Run}
use Rattle.model.specs.Refusals.{round_count, drive_refusal, write_refusal}
use Rattle.model.specs.Calls.{Offered, offer_refusal, offered_writes, start_state, write_run, Written}
use Rattle.model.specs.Calls.{refused_write, done_write, written, written_disk}
use Rattle.model.proofs.Laws.Slots.{slot_after}
use Rattle.model.proofs.Laws.Refusals.{accepted_of_refusal}
use Rattle.model.proofs.Laws.Accepted.{accepted_of_write, AcceptedNumber, drive_refusal_of_write}
use Rattle.model.proofs.Laws.Wrote.{Wrote, drive_refusal_wrote, geometry_in_wrote}
use Rattle.model.proofs.Laws.WriteRuns.{write_run_ran, ready_of_write}
use Rattle.model.proofs.Laws.Calls.{written_cases}
use Rattle.model.proofs.Tree.Ghost.{Tree, Ghost}
use Rattle.model.proofs.Volumes.Growth.{Grew}
use Rattle.model.proofs.Volumes.Hidden.{run_from_grows}

-- the disk after a run
abbrev pub final_disk : Geometry → (disk : Bytes) → Run → Bytes
final_disk g disk run = apply (block_width g) run.trace disk

-- what the run of a write that is not refused leaves
pub record Leaves (g : Geometry) (disk : Bytes) (number : ℕ) (content : Bytes) (offer : Offered)
    (run : Run) : Type 0 where
  pub counted : number < g.publics
  pub last : ℕ
  pub wrote : Wrote g number content last disk (final_disk g disk run)
  pub geometry : geometry_in (final_disk g disk run) ≡ g
  pub accepted : drive_refusal (final_disk g disk run) ≡ 0
  pub grew :
      (tree : Tree) → Ghost g disk tree →
      Grew g disk (final_disk g disk run) tree (start_state (offered_writes g offer)) run.state

-- ---- not refused ----

module _ (disk : Bytes) (number : ℕ) (content random : Bytes) (room : ℕ) (offer : Offered)
    (free : write_refusal disk number content (length random) room ≡ 0) where
  abbrev g : Geometry
  g = geometry_in disk

  abbrev run : Run
  run = write_run g disk number content random offer

  drive : drive_refusal disk ≡ 0
  drive = drive_refusal_of_write disk number content (length random) room free

  good : AcceptedNumber g disk number (length content)
  good = (accepted_of_write disk number content (length random) room free).accepted

  wrote :
      Wrote g number content (slot_after g (head_in disk) (round_count g disk - 1)) disk (final_disk g disk run)
  wrote = (write_run_ran disk number content random room offer free).wrote

  run_leaves : Leaves g disk number content offer run
  unfolding write_run
  run_leaves =
      record {
        counted = good.number_inside;
        last = slot_after g (head_in disk) (round_count g disk - 1);
        wrote = wrote;
        geometry = geometry_in_wrote disk drive (final_disk g disk run) wrote;
        accepted = drive_refusal_wrote disk drive (final_disk g disk run) wrote;
        grew =
            run_from_grows g (accepted_of_refusal disk drive).sized.fits number good.number_inside content
            good.block_sized g.slots disk (head_in disk) random (start_state (offered_writes g offer))
            (ready_of_write disk number content random room offer free);
      }

-- ---- refused or not ----

module _ (g : Geometry) (disk : Bytes) (states : geometry_in disk ≡ g) (accepted : drive_refusal disk ≡ 0) where
  pub fits_of_accepted : Fits g
  fits_of_accepted = subst Fits states (accepted_of_refusal disk accepted).sized.fits

  module _ (number : ℕ) (content random : Bytes) (room : ℕ) (offer : Offered) where
    abbrev refusal : ℕ
    refusal = write_refusal disk number content (length random) room

    abbrev result : Written
    result = written disk number content random room offer

    -- what holds of a refused write and of any that is not holds of the write
    pub write_cases :
        (P : Written → Bytes → Type 0) → (refusal ≢ 0 → P (refused_write refusal) disk) →
        ((run : Run) → Leaves g disk number content offer run →
        P (done_write (offer_refusal g offer) run) (final_disk g disk run)) →
        P result (written_disk result disk)
    unfolding apply
    write_cases P refused done =
        written_cases disk number content random room offer
        (λ (made : Written). P made (written_disk made disk))
        (λ e.
        subst (λ (stated : Geometry). (made : Run) → Leaves stated disk number content offer made →
        P (done_write (offer_refusal stated offer) made) (final_disk stated disk made)) (sym states) done _
        (run_leaves disk number content random room offer e))
        refused
