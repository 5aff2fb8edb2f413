-- `check_rounds` meets its contract: each answer is a way through the chain of 7 to 9. Assumes nothing.
use mathlib.Core.Path.{ap, ◌∙◌}
use mathlib.Core.Logic.{◌≢◌}
use Rattle.model.specs.Refusals.{round_count}
use Rattle.model.proofs.Laws.CallChecks.{rounds_none, rounds_random_short, rounds_room_short, rounds_good}
use Rattle.layout.specs.Geometries.{geometry_of}
use Rattle.layout.specs.Refusals.{refusal_number, answer_number}
use Rattle.layout.proofs.Laws.Refusals.{handed_on}
use Rattle.checks.proofs.Laws.Counts.{FoundAs, round_is_found, no_round_found}
use Rattle.checks.proofs.counts.check_rounds.Goals.{In_ok-rounds}
use Rattle.checks.proofs.counts.check_rounds.Goals as goal

found_in :
    (c : In_ok-rounds) → FoundAs (round_count (geometry_of c.args.g) c.args.disk.now) c.in_ok-rounds.rounds
found_in c = round_is_found c.round_count.ensures _ c.ok_or.ensures.value c.in_ok-rounds.was

some_in : (c : In_ok-rounds) → round_count (geometry_of c.args.g) c.args.disk.now ≢ 0
some_in c = λ e. let found = found_in c in found.some_rounds (found.counted ∙ e)

pub returns-in_err-rounds : goal.returns-in_err-rounds
returns-in_err-rounds c =
    let a = c.args in
    let none = no_round_found c.round_count.ensures _ c.ok_or.ensures.value c.in_err-rounds.was in
    ap answer_number (handed_on c.from_residual.ensures.1) ∙ ap refusal_number none.1
    ∙ rounds_none (geometry_of a.g) a.disk.now a.number.0 a.random a.room none.0

pub returns-then-random-rounds : goal.returns-then-random-rounds
returns-then-random-rounds c =
    let a = c.args in
    let at = (goal.at.returns-then-random-rounds c).In_ok-rounds in
    rounds_random_short (geometry_of a.g) a.disk.now a.number.0 a.random a.room (some_in at)
    (rw (← (found_in at).counted) c.if-random-rounds.true)

pub returns-then-room-write_store_count : goal.returns-then-room-write_store_count
returns-then-room-write_store_count c =
    let a = c.args in
    let at = (goal.at.returns-then-room-write_store_count c).In_ok-rounds in
    rounds_room_short (geometry_of a.g) a.disk.now a.number.0 a.random a.room (some_in at)
    (rw (← (found_in at).counted) c.if-random-rounds.false)
    (rw (← c.write_store_count.ensures) c.if-room-write_store_count.true)

pub returns : goal.returns
returns c =
    let a = c.args in
    let at = (goal.at.returns c).In_ok-rounds in
    rounds_good (geometry_of a.g) a.disk.now a.number.0 a.random a.room (some_in at)
    (rw (← (found_in at).counted) c.if-random-rounds.false)
    (rw (← c.write_store_count.ensures) c.if-room-write_store_count.false)
