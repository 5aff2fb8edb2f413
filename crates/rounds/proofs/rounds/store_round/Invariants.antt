-- What the loop keeps. Assumes nothing.
use Rattle.layout.specs.Geometries.{geometry_of}
use Rattle.round_stores.specs.Planned.{planned_trace}
use Rattle.rounds.proofs.Laws.Stores.{Storing}
use Rattle.rounds.proofs.rounds.store_round.Given as goal

abbrev pub invariant-loop-place : goal.invariant-loop-place
invariant-loop-place l =
    let g = geometry_of l.g in
    Storing g (planned_trace l.round g l.initial.disk l.content l.blocks l.random) l.initial.disk
    l.initial.list l.first l.initial.buffer l.disk l.list l.buffer l.place l.next
