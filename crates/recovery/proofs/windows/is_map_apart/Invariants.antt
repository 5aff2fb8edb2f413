-- What the loop keeps, and its measure. Assumes nothing.
use Prim.Native.Nat.{◌-◌}
use Rattle.layout.specs.Geometries.{geometry_of}
use Rattle.recovery.proofs.Laws.Maps.{Swept}
use Rattle.recovery.proofs.windows.is_map_apart.Given as goal

abbrev pub invariant-loop-first : goal.invariant-loop-first
invariant-loop-first l = Swept (geometry_of l.g) l.disk l.first

abbrev pub decreases-loop-first : goal.decreases-loop-first
decreases-loop-first l = l.first-end - l.first
