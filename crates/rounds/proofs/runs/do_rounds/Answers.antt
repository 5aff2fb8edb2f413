-- `do_rounds` meets its contract. Invariant: the rounds done and the rest of the run from here are the whole
-- run, no round was cut, and the buffer is as long as it was. Assumes nothing.
use mathlib.Core.Path.{◌≡◌, refl, sym, subst, ◌∙◌}
use Prim.Native.Nat.{◌+◌, ◌*◌, ◌≤◌}
use native.Mathlib.Omega.{arith}
use lib.ListN.{length, drop}
use borrow.Author.Tests.{not-true, not-false}
use Rattle.laws.proofs.Lists.{take-drop}
use Rattle.model.specs.Blocks.{Bytes}
use Rattle.layout.specs.Geometries.{geometry_of}
use Rattle.line.specs.Offers.{offers_of}
use Rattle.plans.specs.States.{state_of}
use Rattle.rounds.specs.Rounds.{RoundReady, RoundLent, RoundDone}
use Rattle.rounds.proofs.Laws.Waiting.{behind}
use Rattle.rounds.proofs.Laws.Going.{going_none}
use Rattle.rounds.proofs.Laws.Loops.{going_over, random_from, round_waits, round_lent}
use Rattle.rounds.proofs.Laws.Loops.{round_ready, run_ends, made_round, next_bounded, going_next}
use Rattle.rounds.proofs.Laws.Cuts.{run_done, run_cut}
use Rattle.rounds.proofs.runs.do_rounds.Goals as goal
use Rattle.rounds.proofs.runs.do_rounds.Goals.{After-first_of-waiting, After-do_round-step}

pub loop-done-init : goal.loop-done-init
loop-done-init c =
    let s = c.args in
    record {
      going =
          going_none (geometry_of s.g) s.number.0 s.content.now s.random.now
          (offers_of s.turns.now) s.blocks.now s.disk.now s.head
          s.list.now s.first c.requires.runnable;
      bounded = c.requires.run_lent.bounded;
      disk_kept = refl;
      buffer_kept = refl;
    }

-- ---- a round ----

-- the random bytes reach over the round
random-inside : (c : After-first_of-waiting) → let width = c.args.g.height * c.args.g.block_size in
    c.loop-done.done * width + width ≤ length c.args.random.now
random-inside c = random_from c.requires.runnable c.loop-done.invariant.going c.loop-done-test.true

pub slice_bounds-do_round-count : goal.slice_bounds-do_round-count
slice_bounds-do_round-count c =
    omega (arith, random-inside (goal.at.slice_bounds-do_round-count c).After-first_of-waiting)

pub slice_bounds-do_round-start : goal.slice_bounds-do_round-start
slice_bounds-do_round-start c =
    omega (arith, random-inside (goal.at.slice_bounds-do_round-start c).After-first_of-waiting)

pub do_round-step-requires : goal.do_round-step-requires
do_round-step-requires c =
    let a = c.args in
    let g = geometry_of a.g in
    let l = c.loop-done in
    let first = c.first_of-waiting in
    let e = sym (take-drop (l.done * (g.height * g.block_size)) a.random.now) in
    record {
      round_lent = subst (λ (bytes : Bytes).
          RoundLent g l.disk l.buffer l.list l.next a.bound a.number.0 l.slot a.content.now bytes first.result
          a.blocks.now) e
          (round_lent c.requires.runnable l.invariant.going c.loop-done-test.true first.ensures
          (l.invariant.buffer_kept ∙ c.requires.run_lent.whole) l.invariant.bounded);
      round_ready = subst (λ (bytes : Bytes).
          RoundReady g l.disk a.number.0 l.slot a.content.now bytes first.result a.blocks.now) e
          (round_ready c.requires.runnable l.invariant.going c.loop-done-test.true first.ensures);
    }

-- what the round has done
stepped : (c : After-do_round-step) → let a = c.args in
    let g = geometry_of a.g in
    let l = c.loop-done in
    let turns = offers_of a.turns.now in
    RoundDone g l.disk l.list l.next a.bound a.number.0 l.slot a.content.now
    (drop (l.done * (g.height * g.block_size)) a.random.now) (behind g a.blocks.now turns l.reached.placed)
    (state_of g l.reached turns a.blocks.now) c.do_round-step.new.disk c.do_round-step.new.list
    c.do_round-step.result
stepped c =
    let a = c.args in
    let g = geometry_of a.g in
    let l = c.loop-done in
    let turns = offers_of a.turns.now in
    let later = behind g a.blocks.now turns l.reached.placed in
    let state = state_of g l.reached turns a.blocks.now in
    let waits =
    round_waits c.requires.runnable l.invariant.going c.loop-done-test.true c.first_of-waiting.ensures in
    subst (λ (bytes : Bytes).
    RoundDone g l.disk l.list l.next a.bound a.number.0 l.slot a.content.now bytes later state
    c.do_round-step.new.disk c.do_round-step.new.list c.do_round-step.result)
    (take-drop (l.done * (g.height * g.block_size)) a.random.now)
    (c.do_round-step.ensures later state waits)

pub returns-then-step : goal.returns-then-step
returns-then-step c =
    let inv = c.loop-done.invariant in
    run_cut c.requires.runnable inv.going c.loop-done-test.true inv.bounded
    (stepped (goal.at.returns-then-step c).After-do_round-step) c.if-step.true

-- ---- the last round ----

pub returns-then-not-step : goal.returns-then-not-step
returns-then-not-step c =
    let done = stepped (goal.at.returns-then-not-step c).After-do_round-step in
    let ready = c.requires.runnable in
    let going = c.loop-done.invariant.going in
    let more = c.loop-done-test.true in
    let uncut = c.if-step.false in
    let moved = c.state_after-reached.ensures in
    run_done (run_ends ready going more done uncut moved (not-true _ c.if-not-step.true))
    (made_round ready going more done uncut moved)
    (next_bounded ready going more done uncut moved)

-- ---- another round ----

pub loop-done-preserved : goal.loop-done-preserved
loop-done-preserved c =
    let done = stepped (goal.at.loop-done-preserved c).After-do_round-step in
    let kept = c.do_round-step.auto in
    let inv = c.loop-done.invariant in
    let ready = c.requires.runnable in
    let more = c.loop-done-test.true in
    let uncut = c.if-step.false in
    let moved = c.state_after-reached.ensures in
    record {
      going = going_next ready inv.going more done uncut moved (not-false _ c.if-not-step.false);
      bounded = next_bounded ready inv.going more done uncut moved;
      disk_kept = omega (arith, kept.disk, inv.disk_kept);
      buffer_kept = omega (arith, kept.buffer, inv.buffer_kept);
    }

pub returns : goal.returns
returns c =
    let inv = c.loop-done.invariant in
    let all : c.loop-done.done ≡ c.args.g.slots = omega arith in
    run_done (going_over c.requires.runnable inv.going all) inv.going.made inv.bounded
