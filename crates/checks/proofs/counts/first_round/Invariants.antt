-- What the loop keeps: its slot is one of the drive's, and the slots passed are taken by any account of them
-- that the test gives. Assumes nothing.
use mathlib.Core.Bool.{Bool}
use Prim.Native.Nat.{ℕ, ◌<◌}
use Rattle.model.proofs.Laws.RoundSearch.{Looked}
use Rattle.layout.specs.Geometries.{geometry_of}
use Rattle.checks.specs.Counts.{Tells}
use Rattle.checks.proofs.counts.first_round.Given as goal

abbrev pub invariant-loop-done : goal.invariant-loop-done
invariant-loop-done g l =
    (l.slot < l.g.slots)
    × ((taken : ℕ → Bool) → Tells l.g.slots (goal.F-post g l.is_taken) taken →
    Looked taken (geometry_of l.g) l.head l.done l.slot)
