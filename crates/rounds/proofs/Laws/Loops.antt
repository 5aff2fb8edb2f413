-- Laws of the loop over the rounds of a write: that a round keeps what holds whenever its test is reached,
-- and that the run is all done where it ends. Assumes nothing.
use mathlib.Core.Path.{◌≡◌, sym, ap, ap₂, subst, ◌∙◌}
use mathlib.Core.Bool.{true, false}
use mathlib.Core.List.{List, ◌++◌}
use Prim.Native.Nat.{ℕ, suc, ◌+◌, ◌*◌, ◌-◌, ◌≤◌, ◌<◌}
use native.Mathlib.Nat.{mul-le-mul_right, add-mul}
use native.Mathlib.Omega.{arith}
use lib.ListN.{length, drop, length-append, length-drop}
use lib.Seq.{drop-drop}
use borrow.Author.Tests.{ltb-false}
use Rattle.laws.proofs.Cases.{cond_true, cond_false}
use Rattle.std.specs.Prelude.{Option}
use Rattle.model.specs.Geometry.{Geometry, block_width}
use Rattle.model.specs.Blocks.{Bytes, DiskAddress}
use Rattle.model.specs.Layout.{next_slot}
use Rattle.model.specs.Stores.{Trace, apply}
use Rattle.model.specs.Table.{PublicChoice}
use Rattle.model.specs.HiddenHalf.{HiddenState, hidden_half}
use Rattle.model.specs.Line.{Offer}
use Rattle.model.specs.Rounds.{Run, choice_goes_on, round_trace, run_from}
use Rattle.model.proofs.Laws.HiddenHalf.{WholeWrite, hidden_half_hides}
use Rattle.model.proofs.Laws.Paths.{Hides}
use Rattle.model.proofs.Laws.Places.{Placed}
use Rattle.model.proofs.Laws.RoundStores.{Round, round_stored}
use Rattle.model.proofs.Laws.RunSteps.{after, after_round_lem, after_stopped, rest_by}
use Rattle.model.proofs.Laws.RunSteps.{run_from_suc, run_from-zero, keep_of_goes_on}
use Rattle.model.proofs.Laws.Slots.{next_slot_lt}
use Rattle.model.proofs.Laws.Wrote.{placed_kept}
use Rattle.layout.proofs.Laws.PublicMap.{entry_of_placed}
use Rattle.stores.specs.Made.{Made}
use Rattle.stores.proofs.Laws.Made.{disk_after_lem, next_after, made_then, drive_made}
use Rattle.stores.proofs.Laws.Made.{length_made_list}
use Rattle.line.specs.declared.offers.Offer as declared
use Rattle.line.specs.Turns.{first_at}
use Rattle.plans.specs.declared.states.State.{State}
use Rattle.rounds.specs.declared.rounds.Step.{Step}
use Rattle.plans.specs.States.{waiting_by, state_after, state_of}
use Rattle.rounds.specs.Rounds.{choice_at, round_at, RoundReady, RoundLent, RoundDone}
use Rattle.rounds.specs.Runs.{Runnable}
use Rattle.rounds.proofs.Laws.Bounds.{made_whole}
use Rattle.rounds.proofs.Laws.Going.{Going}
use Rattle.rounds.proofs.Laws.Waiting.{behind, waiting_first, first_lent, waiting_whole, turned_is}
use Rattle.rounds.proofs.Laws.Waiting.{placed_after}

module _ {g : Geometry} {number head : ℕ} {content random : Bytes} {turns : List Offer} {blocks : Bytes}
    {run : Run} {disk : Bytes} {list : List DiskAddress} {first : ℕ}
    (ready : Runnable g disk number head content random turns blocks run first (length list))
    {diskNow : Bytes} {listNow : List DiskAddress} {slot next : ℕ} {state : State} {done : ℕ}
    (going : Going g number content random turns blocks run disk list first diskNow listNow slot next state
    done)
  where
    abbrev state_now : HiddenState
    state_now = state_of g state turns blocks

    abbrev random_now : Bytes
    random_now = drop (done * (g.height * g.block_size)) random

    abbrev pub round_now : Trace
    round_now = round_at g diskNow number slot content random_now state_now

    abbrev pub rest_now : Run
    rest_now =
        rest_by (choice_at g diskNow slot state_now) (g.slots - (done + 1)) g number content
        (next_slot g slot) (drop (g.height * g.block_size) random_now)
        (apply (block_width g) round_now diskNow)
        (hidden_half g diskNow slot random_now state_now).state

    pub going_over :
        done ≡ g.slots → run ≡ record { trace = going.front; rounds = g.slots; state = state_now }
    going_over h =
        let e : g.slots - done ≡ 0 = omega arith in
        going.run_is
        ∙ ap (λ (n : ℕ). after going.front done (run_from n g number content slot random_now diskNow
        state_now)) e
        ∙ ap (after going.front done) (run_from-zero g number content slot random_now diskNow state_now)
        ∙ after_stopped going.front done state_now
        ∙ ap (λ (n : ℕ). record { trace = going.front; rounds = n; state = state_now }) h

    module _ (more : done < g.slots) where
      pub run_round : run ≡ after (going.front ++ round_now) (done + 1) rest_now
      run_round =
          let e : g.slots - done ≡ suc (g.slots - (done + 1)) = omega arith in
          going.run_is
          ∙ ap (λ (n : ℕ). after going.front done (run_from n g number content slot random_now diskNow
          state_now)) e
          ∙ ap (after going.front done)
          (run_from_suc (g.slots - (done + 1)) g number content slot random_now diskNow state_now)
          ∙ after_round_lem going.front done round_now rest_now

      pub random_from : done * (g.height * g.block_size) + g.height * g.block_size ≤ length random
      random_from =
          let counts : run.rounds ≡ done + 1 + rest_now.rounds = ap (λ (r : Run). r.rounds) run_round in
          let few : done + 1 ≤ run.rounds = omega arith in
          omega (
            arith,
            mul-le-mul_right (g.height * g.block_size) few,
            add-mul done 1 (g.height * g.block_size),
            ready.random_enough,
          )

      pub round_room : next + length round_now ≤ length listNow
      round_room =
          let longs : length run.trace ≡ length ((going.front ++ round_now) ++ rest_now.trace) =
          ap (λ (r : Run). length r.trace) run_round in
          omega (
            arith,
            longs,
            length-append (going.front ++ round_now) rest_now.trace,
            length-append going.front round_now,
            next_after going.made,
            going.list_kept,
            ready.room_enough,
          )

      random_here : g.height * g.block_size ≤ length random_now
      random_here = simp length-drop (omega (arith, random_from))

      -- the turn that is first now
      module _ {waiting : Option declared.Offer} (taken : waiting ≡ first_at turns state.placed) where
        pub round_waits :
            state_now.waiting ≡ waiting_by g blocks waiting (behind g blocks turns state.placed)
        round_waits = rw taken (waiting_first g blocks turns state.placed)

        pub round_lent : {buffer : Bytes} {bound : ℕ} → length buffer ≡ g.block_size → next ≤ bound →
            RoundLent g diskNow buffer listNow next bound number slot content random_now waiting blocks
        round_lent whole bounded =
            record {
              state = state_now;
              later = behind g blocks turns state.placed;
              waits = round_waits;
              lent = record { drive = going.drive; whole = whole; room = round_room };
              bounded = bounded;
            }

        pub round_ready : RoundReady g diskNow number slot content random_now waiting blocks
        round_ready =
            record {
              number_inside = ready.number_inside;
              slot_inside = going.inside;
              content_whole = ready.content_whole;
              first_lent = rw taken (first_lent g blocks turns state.placed ready.turns_lent);
              random_enough = random_here;
              old_entry = entry_of_placed g diskNow number going.placed;
            }

      hides : Hides g slot (hidden_half g diskNow slot random_now state_now).trace
      hides =
          (hidden_half_hides g going.drive.fits diskNow going.drive.whole slot going.inside random_now
          random_here (WholeWrite g) (λ write h. h) state_now
          (waiting_whole g blocks turns state.placed ready.turns_lent)).hides

      this_round : Round g diskNow number slot content (hidden_half g diskNow slot random_now state_now).trace
      this_round =
          record {
            fits = going.drive.fits;
            whole = going.drive.whole;
            counted = ready.number_inside;
            inside = going.inside;
            sized = ready.content_whole;
            placed = going.placed;
            hides = hides;
          }

      -- a round that is not cut
      module _ {bound : ℕ} {disk_after : Bytes} {listAfter : List DiskAddress} {step : Step}
          (stepped : RoundDone g diskNow listNow next bound number slot content random_now
          (behind g blocks turns state.placed) state_now disk_after listAfter step)
          (uncut : step.is_cut ≡ false) {reached : State}
          (moved : reached ≡ state_after state step.turn) where
        inside : next + length round_now ≤ bound
        inside = ltb-false bound (next + length round_now) (sym stepped.cut_is ∙ uncut)

        whole_round : Made (block_width g) round_now diskNow listNow next disk_after listAfter step.next
        whole_round = made_whole stepped.made inside

        pub next_bounded : step.next ≤ bound
        next_bounded = omega (arith, next_after whole_round, inside)

        pub made_round : Made (block_width g) (going.front ++ round_now) disk list first disk_after listAfter
            step.next
        made_round =
            made_then going.front round_now
            (omega (arith, round_room, next_after going.made, going.list_kept)) going.made
            whole_round

        state_done : state_of g reached turns blocks ≡ (hidden_half g diskNow slot random_now state_now).state
        state_done =
            ap (λ (s : State). state_of g s turns blocks) moved
            ∙ sym (turned_is g blocks turns state step.turn)
            ∙ stepped.state_is

        -- no other round follows: all of the run is done
        pub run_ends :
            step.goes_on ≡ false →
            run ≡ record {
              trace = going.front ++ round_now;
              rounds = done + 1;
              state = state_of g reached turns blocks;
            }
        run_ends e =
            run_round
            ∙ ap (after (going.front ++ round_now) (done + 1)) (cond_false _ _ (sym stepped.goes_on ∙ e))
            ∙ after_stopped (going.front ++ round_now) (done + 1) _
            ∙ ap (λ (s : HiddenState).
            record { trace = going.front ++ round_now; rounds = done + 1; state = s }) (sym state_done)

        -- another round follows
        pub going_next :
            step.goes_on ≡ true →
            Going g number content random turns blocks run disk list first disk_after listAfter
            (next_slot g slot) step.next reached (done + 1)
        going_next e =
            let on : choice_goes_on (choice_at g diskNow slot state_now) ≡ true = sym stepped.goes_on ∙ e in
            let kept = keep_of_goes_on (choice_at g diskNow slot state_now) on in
            record {
              front = going.front ++ round_now;
              made = made_round;
              drive =
                  drive_made g whole_round going.drive
                  (round_stored this_round (choice_at g diskNow slot state_now));
              inside = next_slot_lt g slot going.drive.fits;
              placed =
                  subst (λ (d : Bytes). Placed g d number) (sym (disk_after_lem whole_round))
                  (subst (λ (choice : PublicChoice).
                  Placed g (apply (block_width g) (round_trace choice g diskNow number slot content
                  (hidden_half g diskNow slot random_now state_now).trace) diskNow) number) (sym kept)
                  (placed_kept this_round));
              few = rw moved (omega (arith, placed_after state step.turn, going.few));
              list_kept = length_made_list whole_round round_room ∙ going.list_kept;
              run_is =
                  run_round
                  ∙ ap (after (going.front ++ round_now) (done + 1)) (cond_true _ _ on ∙ rest_same);
            }
          where
            rest_same :
                run_from (g.slots - (done + 1)) g number content (next_slot g slot)
                (drop (g.height * g.block_size) random_now) (apply (block_width g) round_now diskNow)
                (hidden_half g diskNow slot random_now state_now).state ≡
                run_from (g.slots - (done + 1)) g number content (next_slot g slot)
                (drop ((done + 1) * (g.height * g.block_size)) random) disk_after
                (state_of g reached turns blocks)
            rest_same =
                let width : ℕ = g.height * g.block_size in
                let moved_on : done * (g.height * g.block_size) + g.height * g.block_size ≡
                (done + 1) * (g.height * g.block_size) =
                omega (arith, add-mul done 1 (g.height * g.block_size)) in
                let dropped : drop (g.height * g.block_size) random_now ≡
                drop ((done + 1) * (g.height * g.block_size)) random =
                drop-drop (g.height * g.block_size) (done * (g.height * g.block_size)) random
                ∙ ap (λ (n : ℕ). drop n random) moved_on in
                ap₂ (λ (xs ds : Bytes).
                run_from (g.slots - (done + 1)) g number content (next_slot g slot) xs ds
                (hidden_half g diskNow slot random_now state_now).state) dropped
                (sym (disk_after_lem whole_round))
                ∙ ap (run_from (g.slots - (done + 1)) g number content (next_slot g slot)
                (drop ((done + 1) * (g.height * g.block_size)) random) disk_after) (sym state_done)
