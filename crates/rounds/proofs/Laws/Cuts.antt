-- Laws of what a run up to a bound answers: of one that its last round or the last slot ended, and of one
-- that is cut in a round, of which the stores before the bound are made. Assumes nothing.
use mathlib.Core.Path.{◌≡◌, refl, sym, ap, ◌∙◌}
use mathlib.Core.Bool.{true, false}
use mathlib.Core.List.{List, ◌++◌}
use Prim.Native.Nat.{ℕ, ◌+◌, ◌*◌, ◌-◌, ◌≤◌, ◌<◌}
use native.Mathlib.Omega.{arith}
use lib.ListN.{length, take, drop, length-append, length-take}
use borrow.Author.Tests.{ltb-true, lt-ltb}
use Rattle.model.specs.Geometry.{Geometry, block_width}
use Rattle.model.specs.Blocks.{Bytes, DiskAddress}
use Rattle.model.specs.Stores.{Trace}
use Rattle.model.specs.Line.{Offer}
use Rattle.model.specs.Rounds.{Run}
use Rattle.stores.specs.Made.{Made}
use Rattle.stores.proofs.Laws.Made.{next_after, made_then}
use Rattle.plans.specs.declared.states.State.{State}
use Rattle.plans.specs.States.{state_of}
use Rattle.rounds.specs.declared.rounds.Step.{Step}
use Rattle.rounds.specs.Rounds.{RoundDone}
use Rattle.rounds.specs.Runs.{Runnable, RunMade}
use Rattle.rounds.proofs.Laws.Bounds.{made_bounded, cut_none, take_middle}
use Rattle.rounds.proofs.Laws.Going.{Going}
use Rattle.rounds.proofs.Laws.Loops.{round_now, rest_now, run_round, round_room}
use Rattle.rounds.proofs.Laws.Waiting.{behind}

-- ---- a run that is done ----

pub run_done :
    {g : Geometry} {turns : List Offer} {blocks : Bytes} {run : Run} {disk : Bytes} {list : List DiskAddress}
    {first bound : ℕ} {trace : Trace} {rounds : ℕ} {state : State} →
    run ≡ record { trace = trace; rounds = rounds; state = state_of g state turns blocks } →
    {after : Bytes} {entered : List DiskAddress} {last : ℕ} →
    Made (block_width g) trace disk list first after entered last → last ≤ bound →
    RunMade g disk list first bound run turns blocks after entered
    (record { next = last; rounds = rounds; state = state; is_cut = false })
run_done ended made inside =
    rw ended
    (record {
      made = made_bounded made inside;
      cut_is = cut_none made inside;
      rounds_are = refl;
      state_is = refl;
    })

-- ---- a run that is cut ----

module _ {g : Geometry} {number head : ℕ} {content random : Bytes} {turns : List Offer} {blocks : Bytes}
    {run : Run} {disk : Bytes} {list : List DiskAddress} {first : ℕ}
    (ready : Runnable g disk number head content random turns blocks run first (length list))
    {diskNow : Bytes} {listNow : List DiskAddress} {slot next : ℕ} {state : State} {done : ℕ}
    (going : Going g number content random turns blocks run disk list first diskNow listNow slot next state
    done) (more : done < g.slots) {bound : ℕ} (bounded : next ≤ bound) {disk_after : Bytes}
    {listAfter : List DiskAddress} {step : Step}
    (stepped : RoundDone g diskNow listNow next bound number slot content
    (drop (done * (g.height * g.block_size)) random) (behind g blocks turns state.placed)
    (state_of g state turns blocks) disk_after listAfter step) (cut : step.is_cut ≡ true) where
  abbrev this : Trace
  this = round_now ready going

  abbrev later : Trace
  later = (rest_now ready going).trace

  run_trace : run.trace ≡ (going.front ++ this) ++ later
  run_trace = ap (λ (r : Run). r.trace) (run_round ready going more)

  outside : bound < next + length this
  outside = ltb-true bound (next + length this) (sym stepped.cut_is ∙ cut)

  trace_cut : take (bound - first) run.trace ≡ going.front ++ take (bound - next) this
  trace_cut =
      let front = next_after going.made in
      let e : bound - first - length going.front ≡ bound - next = omega (arith, front) in
      ap (take (bound - first)) run_trace
      ∙ take_middle going.front this later (bound - first) (omega (arith, front, bounded))
      (omega (arith, front, outside))
      ∙ ap (λ (n : ℕ). going.front ++ take n this) e

  made_cut : Made (block_width g) (take (bound - first) run.trace) disk list first disk_after listAfter
      step.next
  made_cut =
      let front = next_after going.made in
      rw trace_cut
      (made_then going.front (take (bound - next) this)
      (omega (
        arith,
        front,
        length-take (bound - next) this,
        round_room ready going more,
        going.list_kept,
      ))
      going.made stepped.made)

  pub run_cut :
      RunMade g disk list first bound run turns blocks disk_after listAfter
      (record {
        next = step.next;
        rounds = 0;
        state = record { placed = 0; met_damage = false };
        is_cut = true;
      })
  run_cut =
      let front = next_after going.made in
      let longer : bound < first + length run.trace =
      omega (
        arith,
        front,
        outside,
        ap length run_trace,
        length-append (going.front ++ this) later,
        length-append going.front this,
      ) in
      record {
        made = made_cut;
        cut_is = sym (lt-ltb bound (first + length run.trace) longer);
        rounds_are = refl;
        state_is = refl;
      }
