-- What the loop keeps. Assumes nothing.
use Rattle.layout.specs.Geometries.{geometry_of}
use Rattle.line.specs.Offers.{offers_of}
use Rattle.rounds.specs.Runs.{turns_run}
use Rattle.rounds.proofs.Laws.Going.{Looping}
use Rattle.rounds.proofs.runs.do_rounds.Given as goal

abbrev pub invariant-loop-done : goal.invariant-loop-done
invariant-loop-done l =
    let g = geometry_of l.g in
    let turns = offers_of l.turns in
    Looping g l.number.0 l.content l.random turns l.blocks
    (turns_run g l.initial.disk l.number.0 l.head l.content l.random turns l.blocks) l.initial.disk
    l.initial.list l.first l.bound l.initial.buffer l.disk l.list l.buffer l.slot l.next l.reached l.done
