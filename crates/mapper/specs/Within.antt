-- What the write with a bound answers and leaves (document 02, K5), by the first so many stores of the
-- model's `written`. Assumes nothing.
use Rattle.std.specs.Prelude.{◌≡◌, Bool, false, cond, List, ℕ, ◌^◌, ◌≤◌, ◌<◌, length, take, drop}
use Rattle.std.specs.Prelude.{Result, Ok, Err}
use Rattle.model.specs.Blocks.{Bytes, DiskAddress}
use Rattle.model.specs.HiddenHalf.{HiddenWrite, HiddenState}
use Rattle.model.specs.Line.{Offer, left_after}
use Rattle.model.specs.Calls as model
use Rattle.recovery_model.specs.Cuts.{cut_trace, is_cut, cut_disk, cut_list}
use Rattle.layout.specs.declared.refusals.Refusal.{Refusal}
use Rattle.layout.specs.Refusals.{refusal_number}
use Rattle.line.specs.declared.offers.Line.{Line}
use Rattle.line.specs.Offers.{line_of}
use Rattle.plans.specs.declared.states.State.{State}
use Rattle.rounds.specs.declared.runs.Ran.{Ran}
use Rattle.mapper.specs.declared.within.Bounded.{Bounded}
use Rattle.mapper.specs.declared.within.LineBounded.{LineBounded}
use Rattle.mapper.specs.Writes.{outcome_of, WriteTold, made_told, refused_told}

-- the state of these hidden writes that a declared one says
abbrev pub state_with : State → (writes : List HiddenWrite) → HiddenState
state_with state writes =
    record {
      waiting = drop state.placed writes;
      placed = state.placed;
      met_damage = state.met_damage;
    }

-- what a run with so many turns came to, with the refusal of the one that is offered
pub record DoneAnswered (bad : ℕ) (ran : Ran) (count : ℕ) (answer : Bounded) : Type 0 where
  pub rounds_are : answer.written.rounds ≡ ran.rounds
  pub stores_are : answer.written.stores ≡ ran.next
  pub outcome_is :
      (writes : List HiddenWrite) → length writes ≡ count →
      outcome_of answer.written.outcome ≡
      cond ran.is_cut model.not_tried (model.offer_outcome bad (state_with ran.state writes))
  pub cut_is : answer.is_cut ≡ ran.is_cut

-- what a write with a bound tells; a refused one is not cut
pub record BoundedTold : Type 0 where
  pub told : WriteTold
  pub is_cut : Bool

abbrev pub bounded_made : Bounded → BoundedTold
bounded_made made = record { told = made_told made.written; is_cut = made.is_cut }

abbrev pub bounded_refused : (refusal : ℕ) → BoundedTold
bounded_refused refusal = record { told = refused_told refusal; is_cut = false }

abbrev pub bounded_of : Result Bounded Refusal → BoundedTold
bounded_of (Ok made) = bounded_made made
bounded_of (Err refused) = bounded_refused (refusal_number refused)

-- the answer of the model's write, the first so many of its stores, and the disk and the list that these
-- leave; rounds and outcome where no store is left out, else no round, and not tried
pub record BoundedAnswered (result : model.Written) (bound : ℕ) (disk : Bytes) (list : List DiskAddress)
    (disk_after : Bytes) (listAfter : List DiskAddress) (answer : BoundedTold) : Type 0 where
  pub answered : answer.told.answer ≡ result.answer
  pub rounds_are : answer.told.rounds ≡ cond (is_cut bound result) 0 result.rounds
  pub stores_are : answer.told.stores ≡ length (cut_trace bound result)
  pub outcome_is : answer.told.outcome ≡ cond (is_cut bound result) model.not_tried result.outcome
  pub cut_is : answer.is_cut ≡ is_cut bound result
  pub stored : disk_after ≡ cut_disk bound result disk
  pub listed : listAfter ≡ cut_list bound result list

-- ---- with a line ----

-- no more are placed than had a turn, and the stores are few
pub record LineFits (ran : Ran) (turns : Line) : Type 0 where
  pub placed_most : ran.state.placed ≤ length (line_of turns)
  pub stores_few : ran.next < 2 ^ 32

-- what a write without a line would come to
abbrev pub without_line : LineBounded → Bounded
without_line made = record { written = made.written.written; is_cut = made.is_cut }

-- what a run came to, and the line without what it placed
pub record LineDone (ran : Ran) (turns : Line) (line : Line) (answer : LineBounded) : Type 0 where
  pub told : DoneAnswered 0 ran (length (line_of turns)) (without_line answer)
  pub placed_are : answer.written.placed ≡ ran.state.placed
  pub line_left_lem :
      line_of answer.written.line ≡ left_after (take ran.state.placed (line_of turns)) (line_of line)

-- what a write with a line and a bound tells; the line of a refused one is as it was lent
pub record LineBoundedTold : Type 0 where
  pub bounded : BoundedTold
  pub placed : ℕ
  pub line : Line

abbrev pub line_bounded_of : (lent : Line) → Result LineBounded Refusal → LineBoundedTold
line_bounded_of lent (Ok made) =
    record {
      bounded = bounded_made (without_line made);
      placed = made.written.placed;
      line = made.written.line;
    }
line_bounded_of lent (Err refused) =
    record { bounded = bounded_refused (refusal_number refused); placed = 0; line = lent }

-- the line that is handed back: where no store is left out without what was placed, else the line as it was
abbrev pub line_within :
    (bound : ℕ) → model.Written → (disk blocks : Bytes) → (line : List Offer) → List Offer
line_within bound result disk blocks line =
    cond (is_cut bound result) line (model.line_left result disk blocks line)

-- and how many it placed, where no store is left out, else none, and the line
pub record LineBoundedAnswered (result : model.Written) (bound : ℕ) (disk : Bytes) (list : List DiskAddress)
    (blocks : Bytes) (line : Line) (disk_after : Bytes) (listAfter : List DiskAddress)
    (answer : LineBoundedTold) : Type 0 where
  pub told : BoundedAnswered result bound disk list disk_after listAfter answer.bounded
  pub placed_are : answer.placed ≡ cond (is_cut bound result) 0 result.placed
  pub line_left_lem : line_of answer.line ≡ line_within bound result disk blocks (line_of line)
