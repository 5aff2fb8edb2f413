-- The rounds and stores of a write that is not refused: whatever is offered, they are those that header, map
-- and bitmap give, and the lent list holds them. Assumes nothing.
use mathlib.Core.Path.{◌≡◌}
use mathlib.Core.List.{◌++◌}
use Prim.Native.Nat.{ℕ, ◌-◌, ◌≤◌}
use native.Mathlib.Omega.{arith}
use lib.ListN.{length}
use Rattle.model.specs.Blocks.{Bytes}
use Rattle.model.specs.Layout.{geometry_in, head_in, map_entry}
use Rattle.model.specs.Stores.{addresses}
use Rattle.model.specs.Refusals.{round_count, write_refusal}
use Rattle.model.specs.Calls.{Offered, write_run, Written, written}
use Rattle.model.specs.Simulator.{kept_rounds, last_round}
use Rattle.model.proofs.Laws.Slots.{slot_after}
use Rattle.model.proofs.Laws.Accepted.{AcceptedWrite, accepted_of_write}
use Rattle.model.proofs.Laws.Runs.{Ran, rounds_ran, length_ran}
use Rattle.model.proofs.Laws.WriteRuns.{write_run_ran}
use Rattle.model.proofs.Laws.Calls.{done_with, written_cases}

module _ (disk : Bytes) (number : ℕ) (content random : Bytes) (room : ℕ) (offer : Offered) where
  module _ (e : write_refusal disk number content (length random) room ≡ 0) where
    allowed : AcceptedWrite (geometry_in disk) disk number (length content) (length random) room
    allowed = accepted_of_write disk number content (length random) room e

    ran :
        Ran (geometry_in disk) number content (head_in disk) (round_count (geometry_in disk) disk - 1) disk
        (write_run (geometry_in disk) disk number content random offer)
    ran = write_run_ran disk number content random room offer e

    pub rounds_done :
        (done_with disk number content random room offer).rounds ≡ round_count (geometry_in disk) disk
    rounds_done =
        rounds_ran (geometry_in disk) number content (head_in disk) (round_count (geometry_in disk) disk)
        allowed.some_rounds disk _ ran

    pub stores_done :
        addresses (done_with disk number content random room offer).trace ≡
        kept_rounds (round_count (geometry_in disk) disk - 1) (geometry_in disk) (head_in disk) ++
        last_round (geometry_in disk) number (map_entry (geometry_in disk) disk number)
        (slot_after (geometry_in disk) (head_in disk) (round_count (geometry_in disk) disk - 1))
    stores_done = ran.listed

    stores_done_le : length (done_with disk number content random room offer).trace ≤ room
    stores_done_le =
        omega (
          arith,
          length_ran (geometry_in disk) number content (head_in disk) (round_count (geometry_in disk) disk)
              allowed.some_rounds disk (write_run (geometry_in disk) disk number content random offer)
              ran,
          allowed.enough_room,
        )

  -- the list has room for the stores, none of which a refused write has
  pub stores_written_le : length (written disk number content random room offer).trace ≤ room
  stores_written_le =
      written_cases disk number content random room offer (λ (w : Written). length w.trace ≤ room)
      (λ e. stores_done_le e) (λ f. omega arith)
