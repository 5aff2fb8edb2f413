-- What a round needs and does: the table's choice, its stores, and what it answers. Assumes nothing.
use Rattle.std.specs.Prelude.{◌≡◌, ℕ, ◌+◌, ◌*◌, ◌-◌, ◌≤◌, ◌<◌, List, ltb, length, take, Option}
use Rattle.model.specs.Geometry.{Geometry, block_width}
use Rattle.model.specs.Blocks.{Bytes, DiskAddress}
use Rattle.model.specs.Layout.{map_entry}
use Rattle.model.specs.Stores.{Trace}
use Rattle.model.specs.Table.{PublicChoice}
use Rattle.model.specs.HiddenHalf.{HiddenWrite, HiddenState, hidden_half, row_of}
use Rattle.model.specs.Rounds.{choice_goes_on, round_trace}
use Rattle.layout.specs.PublicMap.{OldEntry}
use Rattle.stores.specs.Made.{LentFor, Made}
use Rattle.line.specs.declared.offers.Offer.{Offer}
use Rattle.plans.specs.HiddenPlans.{BlockLent}
use Rattle.plans.specs.States.{first_place, waiting_by, turned}
use Rattle.round_stores.specs.declared.planned.PlannedRound.{PlannedRound}
use Rattle.round_stores.specs.Planned.{planned_trace, planned_count, Storable}
use Rattle.rounds.specs.declared.rounds.Step.{Step}

-- what the table says of a slot's public block
abbrev pub choice_at : Geometry → (disk : Bytes) → (slot : ℕ) → HiddenState → PublicChoice
choice_at g disk slot state = (row_of g disk slot state.waiting).public

-- the stores of a round
abbrev pub round_at :
    Geometry → (disk : Bytes) → (number slot : ℕ) → (content random : Bytes) → HiddenState → Trace
round_at g disk number slot content random state =
    round_trace (choice_at g disk slot state) g disk number slot content
    (hidden_half g disk slot random state).trace

-- a planned round that can be stored, what is lent for all its stores, and a number of them
pub record StoresReady (g : Geometry) (disk buffer : Bytes) (list : List DiskAddress) (first : ℕ)
    (round : PlannedRound) (count : ℕ) (content blocks random : Bytes) : Type 0 where
  pub lent : LentFor g disk buffer list first (length (planned_trace round g disk content blocks random))
  pub storable : Storable g round content blocks random
  pub count_most : count ≤ planned_count g round

-- a public number with a place or none, a slot, a whole block of data, the first one's block lent whole, and
-- random bytes for one round
pub record RoundReady (g : Geometry) (disk : Bytes) (number slot : ℕ) (content random : Bytes)
    (first : Option Offer) (blocks : Bytes) : Type 0 where
  pub number_inside : number < g.publics
  pub slot_inside : slot < g.slots
  pub content_whole : length content ≡ g.block_size
  pub first_lent : BlockLent g blocks (first_place first)
  pub random_enough : g.height * g.block_size ≤ length random
  pub old_entry : OldEntry g (map_entry g disk number)

-- what is lent for all stores of a round, by some state in which this one is first, and a bound that the list
-- has not passed
pub record RoundLent (g : Geometry) (disk buffer : Bytes) (list : List DiskAddress)
    (next bound number slot : ℕ) (content random : Bytes) (first : Option Offer) (blocks : Bytes) :
    Type 0 where
  pub state : HiddenState
  pub later : List HiddenWrite
  pub waits : state.waiting ≡ waiting_by g blocks first later
  pub lent : LentFor g disk buffer list next (length (round_at g disk number slot content random state))
  pub bounded : next ≤ bound

-- the round of a state in which others wait behind the first one: its stores are made up to the bound, and it
-- answers whether some are left out, what becomes of the state and whether another round follows
pub record RoundDone (g : Geometry) (disk : Bytes) (list : List DiskAddress) (next bound number slot : ℕ)
    (content random : Bytes) (later : List HiddenWrite) (state : HiddenState) (disk_after : Bytes)
    (listAfter : List DiskAddress) (step : Step) : Type 0 where
  pub made :
      Made (block_width g) (take (bound - next) (round_at g disk number slot content random state)) disk list
      next disk_after listAfter step.next
  pub cut_is :
      step.is_cut ≡ ltb bound (next + length (round_at g disk number slot content random state))
  pub state_is : turned step.turn later state ≡ (hidden_half g disk slot random state).state
  pub goes_on : step.goes_on ≡ choice_goes_on (choice_at g disk slot state)
