-- What the rounds of a write need and do. Assumes nothing.
use Rattle.std.specs.Prelude.{◌≡◌, true, cond, ◌⊎◌, List, [], ◌∷◌, ℕ, ◌+◌, ◌*◌, ◌-◌, ◌≤◌, ◌<◌, ltb}
use Rattle.std.specs.Prelude.{length, take}
use Rattle.model.specs.Geometry.{Geometry, block_width}
use Rattle.model.specs.Blocks.{Bytes, DiskAddress}
use Rattle.model.specs.Layout.{Drive, map_entry, is_place}
use Rattle.model.specs.Rounds.{Run, run_from}
use Rattle.model.specs.Line.{Offer, hidden_writes_of}
use Rattle.model.specs.Calls.{start_state}
use Rattle.stores.specs.Made.{Made}
use Rattle.plans.specs.States.{state_of}
use Rattle.rounds.specs.declared.runs.Ran.{Ran}

-- rounds from a head on, with these turns, of which none is placed yet
abbrev pub turns_run :
    Geometry → (disk : Bytes) → (number head : ℕ) → (content random : Bytes) → (turns : List Offer) →
    (blocks : Bytes) → Run
turns_run g disk number head content random turns blocks =
    run_from g.slots g number content head random disk (start_state (hidden_writes_of g blocks turns))

-- the block of each turn is lent whole
abbrev pub TurnsLent : Geometry → (blocks : Bytes) → (turns : List Offer) → Type 0
TurnsLent g blocks [] = Unit {0}
TurnsLent g blocks (offer ∷ later) =
    (offer.place * g.block_size + g.block_size ≤ length blocks) × TurnsLent g blocks later

-- a whole drive, a public number with a place or none, a head, a whole block of data, the turns' blocks, and
-- random bytes and a list for the run
pub record Runnable (g : Geometry) (disk : Bytes) (number head : ℕ) (content random : Bytes)
    (turns : List Offer) (blocks : Bytes) (run : Run) (next room : ℕ) : Type 0 where
  pub drive : Drive g disk
  pub number_inside : number < g.publics
  pub head_inside : head < g.slots
  pub content_whole : length content ≡ g.block_size
  pub turns_lent : TurnsLent g blocks turns
  pub old_place : (map_entry g disk number ≡ 0) ⊎ (is_place g disk (map_entry g disk number) ≡ true)
  pub random_enough : run.rounds * (g.height * g.block_size) ≤ length random
  pub room_enough : next + length run.trace ≤ room

-- a buffer of one block, and a bound that the list has not passed
pub record RunLent (g : Geometry) (buffer : Bytes) (next bound : ℕ) : Type 0 where
  pub whole : length buffer ≡ g.block_size
  pub bounded : next ≤ bound

-- the run's stores are made up to the bound, and it answers whether some are left out; its rounds and how far
-- its turns came, where none are, else no round and no turn
pub record RunMade (g : Geometry) (disk : Bytes) (list : List DiskAddress) (next bound : ℕ) (run : Run)
    (turns : List Offer) (blocks : Bytes) (disk_after : Bytes) (listAfter : List DiskAddress) (ran : Ran) :
    Type 0 where
  pub made :
      Made (block_width g) (take (bound - next) run.trace) disk list next disk_after listAfter ran.next
  pub cut_is : ran.is_cut ≡ ltb bound (next + length run.trace)
  pub rounds_are : ran.rounds ≡ cond ran.is_cut 0 run.rounds
  pub state_is :
      state_of g ran.state turns blocks ≡
      cond ran.is_cut (start_state (hidden_writes_of g blocks turns)) run.state
