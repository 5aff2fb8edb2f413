-- The hidden half of a round (document 01, "A round", "Hidden"): whose slot it is, what damage stops, and
-- what the table's choice stores. All of it is read from the disk as it is before the slot is stored. Assumes
-- nothing.
use Rattle.std.specs.Prelude.{Bool, true, false, cond, not, ◌&&◌, ◌||◌, List, [], ◌∷◌, ℕ, suc, ltb}
use Rattle.model.specs.Geometry.{Geometry, block_width}
use Rattle.model.specs.Blocks.{Bytes, block_at}
use Rattle.model.specs.Layout.{level_address, is_allocated}
use Rattle.model.specs.HiddenTree.{owner_of, walk, is_damaged, is_found_at}
use Rattle.model.specs.Stores.{Trace}
use Rattle.model.specs.Paths.{current_path, written_back, dummy_stores}
use Rattle.model.specs.Table.{Row, row_at, HiddenChoice, keep_hidden, place_hidden, fill_hidden}

-- a block to be placed under a hidden number (document 01: an offer)
pub record HiddenWrite : Type 0 where
  pub number : ℕ
  pub content : Bytes

-- what has become of the hidden writes of a call: those still waiting, how many are placed, and whether a
-- round was written back for damage
pub record HiddenState : Type 0 where
  pub waiting : List HiddenWrite
  pub placed : ℕ
  pub met_damage : Bool

abbrev pub is_waiting : List HiddenWrite → Bool
is_waiting [] = false
is_waiting (write ∷ writes) = true

-- ---- whose slot ----

-- whether the slot holds its owner's current block
unfoldable pub is_live : Geometry → (disk : Bytes) → (slot : ℕ) → Bool
is_live g disk slot =
    ltb (owner_of g disk slot) g.hidden &&
    is_found_at (level_address g slot 0) (walk g disk (owner_of g disk slot)).end

unfoldable pub is_owner_damaged : Geometry → (disk : Bytes) → (slot : ℕ) → Bool
is_owner_damaged g disk slot =
    ltb (owner_of g disk slot) g.hidden && is_damaged (walk g disk (owner_of g disk slot)).end

-- whether the hidden write that is next has a damaged walk
unfoldable pub is_next_damaged : Geometry → (disk : Bytes) → List HiddenWrite → Bool
is_next_damaged g disk [] = false
is_next_damaged g disk (next ∷ later) = is_damaged (walk g disk next.number).end

-- whether damage makes the round write the slot's hidden blocks and the root back
abbrev pub is_blocked : Geometry → (disk : Bytes) → (slot : ℕ) → List HiddenWrite → Bool
is_blocked g disk slot waiting =
    is_owner_damaged g disk slot || not (is_live g disk slot) && is_next_damaged g disk waiting

-- ---- the half ----

pub record HiddenHalf : Type 0 where
  pub trace : Trace
  pub state : HiddenState

abbrev pub half : Trace → HiddenState → HiddenHalf
half trace state = record { trace = trace; state = state }

abbrev pub blocked_state : HiddenState → HiddenState
blocked_state state = record { waiting = state.waiting; placed = state.placed; met_damage = true }

abbrev pub placed_state : HiddenState → (later : List HiddenWrite) → HiddenState
placed_state state later =
    record { waiting = later; placed = suc state.placed; met_damage = state.met_damage }

-- what is stored by the table's choice, and what becomes of the hidden writes
unfoldable pub hidden_by :
    HiddenChoice → Geometry → (disk : Bytes) → (slot : ℕ) → (random : Bytes) → HiddenState →
    List HiddenWrite → HiddenHalf
hidden_by keep_hidden g disk slot random state waiting =
    half
    (current_path g disk (owner_of g disk slot) slot (block_at (block_width g) disk (level_address g slot 0)))
    state
hidden_by place_hidden g disk slot random state [] = half (dummy_stores g disk slot random) state
hidden_by place_hidden g disk slot random state (next ∷ later) =
    half (current_path g disk next.number slot next.content) (placed_state state later)
hidden_by fill_hidden g disk slot random state waiting = half (dummy_stores g disk slot random) state

-- the table's row of a slot
abbrev pub row_of : Geometry → (disk : Bytes) → (slot : ℕ) → List HiddenWrite → Row
row_of g disk slot waiting = row_at (is_waiting waiting) (is_allocated g disk slot) (is_live g disk slot)

unfoldable pub hidden_half : Geometry → (disk : Bytes) → (slot : ℕ) → (random : Bytes) → HiddenState →
    HiddenHalf
hidden_half g disk slot random state =
    cond (is_blocked g disk slot state.waiting) (half (written_back g disk slot) (blocked_state state))
    (hidden_by (row_of g disk slot state.waiting).hidden g disk slot random state state.waiting)
