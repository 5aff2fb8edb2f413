-- A round and the rounds of a write (document 01, "A round"): the public half, the stores in their order, and
-- the run that goes on until a round takes the call's data. Assumes nothing.
use Rattle.std.specs.Prelude.{Bool, true, false, cond, [], ◌∷◌, ◌++◌, ℕ, zero, suc, ◌*◌, ◌%◌, eqb, drop}
use Rattle.model.specs.Geometry.{Geometry, fanout, block_width}
use Rattle.model.specs.Blocks.{Bytes, DiskAddress, block_at, set_entry}
use Rattle.model.specs.Layout.{slot_start, slot_of, next_slot, bit_address, bitmap_with, map_address}
use Rattle.model.specs.Layout.{is_shared, map_entry}
use Rattle.model.specs.Stores.{Store, Trace, store, apply}
use Rattle.model.specs.Table.{PublicChoice, keep_public, write_public}
use Rattle.model.specs.Paths.{kept_block}
use Rattle.model.specs.HiddenHalf.{HiddenState, hidden_half, row_of}

-- ---- the public half ----

-- the slot's public block: kept, or the call's data
unfoldable pub public_store : PublicChoice → Geometry → (disk : Bytes) → (slot : ℕ) → (content : Bytes) → Store
public_store keep_public g disk slot content = kept_block g disk (slot_start g slot)
public_store write_public g disk slot content = store (slot_start g slot) content

-- the map block with the number's new entry
abbrev pub map_store : Geometry → (disk : Bytes) → (number slot : ℕ) → Store
map_store g disk number slot =
    store (map_address g number)
    (set_entry (number % fanout g) (slot_start g slot) (block_at (block_width g) disk (map_address g number)))

-- a slot's bitmap block with its bit 1 or 0 as asked
abbrev pub bit_store : Geometry → (disk : Bytes) → (slot : ℕ) → (is_set : Bool) → Store
bit_store g disk slot is_set = store (bit_address g slot) (bitmap_with g disk slot is_set)

-- the bits of a number that moves: the new bit's block, then the old bit's, cleared on top of the new bit;
-- where both lie in one block, it is stored once, with both (document 02, K2)
unfoldable pub moved_stores : Geometry → (disk : Bytes) → (slot old : ℕ) → Trace
moved_stores g disk slot old =
    let new = bit_store g disk slot true in
    let cleared = bit_store g (apply (block_width g) (new ∷ []) disk) old false in
    cond (is_shared g slot old) (cleared ∷ []) (new ∷ cleared ∷ [])

-- the bitmap's stores: of a number that had no place the new bit's block alone, else of one that moves
unfoldable pub bit_stores : Geometry → (disk : Bytes) → (entry : DiskAddress) → (slot : ℕ) → Trace
bit_stores g disk entry slot =
    cond (eqb entry 0) (bit_store g disk slot true ∷ []) (moved_stores g disk slot (slot_of g entry))

-- the header with the head at the next slot, its other bytes kept
abbrev pub header_store : Geometry → (disk : Bytes) → (slot : ℕ) → Store
header_store g disk slot = store 0 (set_entry 5 (next_slot g slot) (block_at (block_width g) disk 0))

-- what only a round that takes the call's data stores, before its header
unfoldable pub map_stores : PublicChoice → Geometry → (disk : Bytes) → (number slot : ℕ) → Trace
map_stores keep_public g disk number slot = []
map_stores write_public g disk number slot =
    map_store g disk number slot ∷ bit_stores g disk (map_entry g disk number) slot

-- ---- a round ----

-- all stores of a round, in order
unfoldable pub round_trace :
    PublicChoice → Geometry → (disk : Bytes) → (number slot : ℕ) → (content : Bytes) → (hidden : Trace) →
    Trace
round_trace choice g disk number slot content hidden =
    public_store choice g disk slot content ∷
    (hidden ++ (map_stores choice g disk number slot ++ (header_store g disk slot ∷ [])))

-- ---- the rounds of a write ----

-- the stores of all rounds in order, how many rounds there were, and what became of the hidden writes
pub record Run : Type 0 where
  pub trace : Trace
  pub rounds : ℕ
  pub state : HiddenState

abbrev pub stopped : HiddenState → Run
stopped state = record { trace = []; rounds = 0; state = state }

abbrev pub followed_by : (round : Trace) → Run → Run
followed_by round rest =
    record { trace = round ++ rest.trace; rounds = suc rest.rounds; state = rest.state }

-- whether a round is followed by another
abbrev pub choice_goes_on : PublicChoice → Bool
choice_goes_on keep_public = true
choice_goes_on write_public = false

-- rounds from a slot on, at most so many, until one takes the call's data; each has its own k × B random
-- bytes
unfoldable pub run_from :
    (most : ℕ) → Geometry → (number : ℕ) → (content : Bytes) → (slot : ℕ) → (random disk : Bytes) →
    HiddenState → Run
run_from zero g number content slot random disk state = stopped state
run_from (suc most) g number content slot random disk state =
    let choice = (row_of g disk slot state.waiting).public in
    let hidden = hidden_half g disk slot random state in
    let round = round_trace choice g disk number slot content hidden.trace in
    followed_by round
    (cond (choice_goes_on choice)
    (run_from most g number content (next_slot g slot) (drop (g.height * g.block_size) random)
    (apply (block_width g) round disk) hidden.state)
    (stopped hidden.state))
