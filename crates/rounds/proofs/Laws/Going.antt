-- What holds whenever the test of the loop over the rounds of a write is reached, and that it holds before
-- the first round. Assumes nothing.
use mathlib.Core.Path.{◌≡◌, refl, ap₂, ◌∙◌}
use mathlib.Core.Bool.{false}
use mathlib.Core.List.{List, []}
use Prim.Native.Nat.{ℕ, ◌*◌, ◌-◌, ◌≤◌, ◌<◌}
use native.Mathlib.Omega.{arith}
use lib.ListN.{length, drop}
use Rattle.model.specs.Geometry.{Geometry, block_width}
use Rattle.model.specs.Blocks.{Bytes, DiskAddress}
use Rattle.model.specs.Layout.{Drive}
use Rattle.model.specs.Stores.{Trace}
use Rattle.model.specs.Line.{Offer}
use Rattle.model.specs.Rounds.{Run, run_from}
use Rattle.model.proofs.Laws.Places.{Placed}
use Rattle.model.proofs.Laws.RunSteps.{after, after_nothing}
use Rattle.stores.specs.Made.{Made}
use Rattle.stores.proofs.Laws.Made.{made_nothing}
use Rattle.plans.specs.declared.states.State.{State}
use Rattle.plans.specs.States.{state_of}
use Rattle.rounds.specs.Runs.{turns_run, Runnable}

-- what holds whenever the loop's test is reached
pub record Going (g : Geometry) (number : ℕ) (content random : Bytes) (turns : List Offer) (blocks : Bytes)
    (run : Run) (disk : Bytes) (list : List DiskAddress) (first : ℕ) (diskNow : Bytes)
    (listNow : List DiskAddress) (slot next : ℕ) (state : State) (done : ℕ) : Type 0 where
  pub front : Trace
  pub made : Made (block_width g) front disk list first diskNow listNow next
  pub drive : Drive g diskNow
  pub inside : slot < g.slots
  pub placed : Placed g diskNow number
  pub few : state.placed ≤ done
  pub list_kept : length listNow ≡ length list
  pub run_is :
      run ≡ after front done (run_from (g.slots - done) g number content slot
      (drop (done * (g.height * g.block_size)) random) diskNow (state_of g state turns blocks))

module _ (g : Geometry) (number : ℕ) (content random : Bytes) (turns : List Offer) (blocks disk : Bytes)
    (head : ℕ) (list : List DiskAddress) (first : ℕ) where
  abbrev the_run : Run
  the_run = turns_run g disk number head content random turns blocks

  -- nothing is placed, and no round met damage
  abbrev none_yet : State
  none_yet = record { placed = 0; met_damage = false }

  pub going_none :
      Runnable g disk number head content random turns blocks the_run first (length list) →
      Going g number content random turns blocks the_run disk list first disk list head first none_yet 0
  going_none r =
      let e : g.slots ≡ g.slots - 0 = omega arith in
      let z : 0 ≡ 0 * (g.height * g.block_size) = omega arith in
      record {
        front = [];
        made = made_nothing (block_width g) disk list first (omega (arith, r.room_enough));
        drive = r.drive;
        inside = r.head_inside;
        placed = r.old_place;
        few = omega arith;
        list_kept = refl;
        run_is =
            after_nothing the_run
            ∙ ap₂ (λ (n m : ℕ).
            after [] 0 (run_from n g number content head (drop m random) disk
            (state_of g none_yet turns blocks))) e z;
      }

-- the loop's invariant: that, a bound that the list has not passed, and a buffer as long as it was
pub record Looping (g : Geometry) (number : ℕ) (content random : Bytes) (turns : List Offer) (blocks : Bytes)
    (run : Run) (disk : Bytes) (list : List DiskAddress) (first bound : ℕ) (buffer diskNow : Bytes)
    (listNow : List DiskAddress) (bufferNow : Bytes) (slot next : ℕ) (state : State) (done : ℕ) : Type 0
  where
    pub going :
        Going g number content random turns blocks run disk list first diskNow listNow slot next state done
    pub bounded : next ≤ bound
    pub disk_kept : length diskNow ≡ length disk
    pub buffer_kept : length bufferNow ≡ length buffer
