-- `checks::counts::write_store_count` meets its contract: the entry and the head are read, and the last slot
-- is one of the drive's. Assumes nothing.
use Prim.Native.Nat.{◌≤◌}
use native.Mathlib.Omega.{arith}
use Rattle.model.specs.Layout.{head_in}
use Rattle.model.proofs.Refusals.Circle.{round_count_le}
use Rattle.model.proofs.Laws.RoundSearch.{head_rounds_small}
use Rattle.layout.specs.Geometries.{geometry_of}
use Rattle.checks.proofs.counts.write_store_count.Goals.{Start}
use Rattle.checks.proofs.counts.write_store_count.Goals as goal

few : (c : Start) → c.args.rounds ≤ c.args.g.slots
few c = rw c.requires.rounds_are (round_count_le (geometry_of c.args.g) c.args.disk.now)

pub overflow_add-last : goal.overflow_add-last
overflow_add-last c =
    let writable = c.requires.writable in
    omega (
      arith,
      c.head_in.ensures,
      head_rounds_small (geometry_of c.args.g) writable.drive.fits (head_in c.args.disk.now) c.args.rounds
          writable.head_inside (few (goal.at.overflow_add-last c).Start),
    )

pub store_count-requires-clause-rounds_le_slots : goal.store_count-requires-clause-rounds_le_slots
store_count-requires-clause-rounds_le_slots c =
    few (goal.at.store_count-requires-clause-rounds_le_slots c).Start
