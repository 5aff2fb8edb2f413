-- The run of a write that is not refused: it has what a run needs, its rounds are those that the bitmap says,
-- and its stores and its effect those of so many rounds from the head on. Assumes nothing.
use mathlib.Core.Path.{◌≡◌}
use Prim.Native.Nat.{ℕ, ◌-◌}
use native.Mathlib.Nat.{mul_assoc}
use lib.ListN.{length}
use Rattle.model.specs.Geometry.{Geometry}
use Rattle.model.specs.Blocks.{Bytes}
use Rattle.model.specs.Layout.{geometry_in, head_in}
use Rattle.model.specs.Refusals.{round_count, write_refusal}
use Rattle.model.specs.Calls.{Offered, offered_writes, start_state, write_run}
use Rattle.model.proofs.Laws.Refusals.{accepted_of_refusal, Accepted}
use Rattle.model.proofs.Laws.Accepted.{accepted_of_write, drive_refusal_of_write, offered_writes_good}
use Rattle.model.proofs.Laws.Accepted.{AcceptedWrite}
use Rattle.model.proofs.Laws.Ready.{Ready}
use Rattle.model.proofs.Laws.Runs.{Ran, run_from_ran}

module _ (disk : Bytes) (number : ℕ) (content random : Bytes) (room : ℕ) (offer : Offered)
    (free : write_refusal disk number content (length random) room ≡ 0) where
  abbrev g : Geometry
  g = geometry_in disk

  drive : Accepted disk
  drive = accepted_of_refusal disk (drive_refusal_of_write disk number content (length random) room free)

  good : AcceptedWrite g disk number (length content) (length random) room
  good = accepted_of_write disk number content (length random) room free

  pub ready_of_write : Ready g number g.slots disk (head_in disk) random
      (start_state (offered_writes g offer))
  ready_of_write =
      record {
        whole = drive.sized.whole;
        here = drive.head_inside;
        placed = good.accepted.in_place;
        some_rounds = good.some_rounds;
        enough = rw (mul_assoc (round_count g disk) g.height g.block_size) at good.enough_random;
        good = offered_writes_good g offer;
      }

  pub write_run_ran :
      Ran g number content (head_in disk) (round_count g disk - 1) disk
      (write_run g disk number content random offer)
  unfolding write_run
  write_run_ran =
      run_from_ran g drive.sized.fits number good.accepted.number_inside content
      good.accepted.block_sized g.slots disk (head_in disk) random (start_state (offered_writes g offer))
      ready_of_write
