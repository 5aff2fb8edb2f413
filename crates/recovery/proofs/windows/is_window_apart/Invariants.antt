-- What the loop keeps. Assumes nothing.
use Rattle.layout.specs.Geometries.{geometry_of}
use Rattle.recovery.proofs.Laws.Scans.{Scanning}
use Rattle.recovery.proofs.windows.is_window_apart.Given as goal

abbrev pub invariant-loop-number : goal.invariant-loop-number
invariant-loop-number l = Scanning (geometry_of l.g) l.disk l.first l.number l.seen
