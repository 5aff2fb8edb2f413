-- The simulator of noninterference (document 01, "What demand 3 compares": the book): a run without a single
-- hidden write, worked out from the starting view and the lengths of each public call. It counts its own
-- rounds and writes out its own stores; with the mapper it shares only the arithmetic of addresses. Assumes
-- nothing.
use Rattle.std.specs.Prelude.{Bool, true, false, cond, not, ◌&&◌, ◌||◌, List, [], ◌∷◌, ◌++◌, ℕ, zero, suc, ◌*◌, ◌-◌, ltb, leb, eqb, length, get_or, set}
use Rattle.laws.specs.Checks.{Check, check, first_of}
use Rattle.model.specs.Geometry.{Geometry, root_address}
use Rattle.model.specs.Blocks.{Bytes, DiskAddress}
use Rattle.model.specs.Layout.{geometry_in, head_in, slot_start, slot_of, next_slot, bit_address, map_address}
use Rattle.model.specs.Layout.{round_slot, map_entry, is_allocated, is_slot_block}
use Rattle.model.specs.Runs.{PublicCall, Seen}

-- what it is fed of a public call: the number and lengths
pub record CallLengths : Type 0 where
  pub is_write : Bool
  pub number : ℕ
  pub content : ℕ
  pub random : ℕ
  pub room : ℕ

abbrev pub lengths_of : PublicCall → CallLengths
lengths_of call =
    record {
      is_write = call.is_write;
      number = call.number;
      content = length call.content;
      random = call.random;
      room = call.room;
    }

unfoldable pub lengths_of_all : List PublicCall → List CallLengths
lengths_of_all [] = []
lengths_of_all (call ∷ calls) = lengths_of call ∷ lengths_of_all calls

-- ---- what it keeps ----

-- the geometry, the head h, the P map entries, and for each slot whether it is allocated
pub record Simulator : Type 0 where
  pub geometry : Geometry
  pub head : ℕ
  pub entries : List DiskAddress
  pub allocated : List Bool

unfoldable pub entries_from : Geometry → (view : Bytes) → (number count : ℕ) → List DiskAddress
entries_from g view number zero = []
entries_from g view number (suc count) = map_entry g view number ∷ entries_from g view (suc number) count

unfoldable pub allocated_from : Geometry → (view : Bytes) → (slot count : ℕ) → List Bool
allocated_from g view slot zero = []
allocated_from g view slot (suc count) = is_allocated g view slot ∷ allocated_from g view (suc slot) count

-- taken once from the starting view, at whose front header, map and bitmap stand as they do on the disk
unfoldable pub simulator_of : (view : Bytes) → Simulator
simulator_of view =
    let g = geometry_in view in
    record {
      geometry = g;
      head = head_in view;
      entries = entries_from g view 0 g.publics;
      allocated = allocated_from g view 0 g.slots;
    }

abbrev pub entry_for : Simulator → (number : ℕ) → DiskAddress
entry_for sim number = get_or sim.entries number 0

abbrev pub is_taken : Simulator → (slot : ℕ) → Bool
is_taken sim slot = get_or sim.allocated slot false

-- ---- rounds and stores ----

-- the least number from a first one on that passes a test, at most so many are tried; 0 where none of these
-- does
unfoldable pub least_from : (most : ℕ) → (test : ℕ → Bool) → (first : ℕ) → ℕ
least_from zero test first = 0
least_from (suc most) test first = cond (test first) first (least_from most test (suc first))

-- the slot of the g-th round: (h + g − 1) mod M
abbrev pub slot_of_round : Simulator → (round : ℕ) → ℕ
slot_of_round sim round = round_slot sim.geometry sim.head round

-- g, the least from 1 on whose slot is free
abbrev pub simulated_rounds : Simulator → ℕ
simulated_rounds sim = least_from sim.geometry.slots (λ round. not (is_taken sim (slot_of_round sim round))) 1

-- so many addresses from one on
unfoldable pub addresses_from : DiskAddress → (count : ℕ) → List DiskAddress
addresses_from address zero = []
addresses_from address (suc count) = address ∷ addresses_from (suc address) count

-- A to A + k, and the root
abbrev pub slot_addresses : Geometry → (slot : ℕ) → List DiskAddress
slot_addresses g slot = addresses_from (slot_start g slot) (suc g.height) ++ (root_address g ∷ [])

-- so many rounds that keep their public block, from a slot on
unfoldable pub kept_rounds : (count : ℕ) → Geometry → (slot : ℕ) → List DiskAddress
kept_rounds zero g slot = []
kept_rounds (suc count) g slot = slot_addresses g slot ++ (0 ∷ kept_rounds count g (next_slot g slot))

-- the last round: map block, new bit's block, old bit's block where the number had a place and that is
-- another block (document 02, K2), header
abbrev pub last_round : Geometry → (number : ℕ) → (entry : DiskAddress) → (slot : ℕ) → List DiskAddress
last_round g number entry slot =
    let new = bit_address g slot in
    let old = bit_address g (slot_of g entry) in
    slot_addresses g slot ++
    (map_address g number ∷ new ∷ cond (eqb entry 0 || eqb new old) (0 ∷ []) (old ∷ 0 ∷ []))

unfoldable pub simulated_stores : Simulator → (number : ℕ) → List DiskAddress
simulated_stores sim number =
    let rounds = simulated_rounds sim in
    kept_rounds (rounds - 1) sim.geometry sim.head ++
    last_round sim.geometry number (entry_for sim number) (slot_of_round sim rounds)

-- ---- answers ----

-- 4 to 6
abbrev pub simulated_place_checks : Simulator → CallLengths → List Check
simulated_place_checks sim call =
    let g = sim.geometry in
    let entry = entry_for sim call.number in
    check (leb g.publics call.number) 4 ∷ check (not (eqb call.content g.block_size)) 5 ∷
    check (not (eqb entry 0 || is_slot_block g 0 entry && is_taken sim (slot_of g entry))) 6 ∷ []

-- 7 to 9
abbrev pub simulated_round_checks : Simulator → CallLengths → List Check
simulated_round_checks sim call =
    let g = sim.geometry in
    let rounds = simulated_rounds sim in
    check (eqb rounds 0) 7 ∷ check (ltb call.random (rounds * g.height * g.block_size)) 8 ∷
    check (ltb call.room (length (simulated_stores sim call.number))) 9 ∷ []

unfoldable pub simulated_answer : Simulator → CallLengths → ℕ
simulated_answer sim call =
    first_of (simulated_place_checks sim call ++ cond call.is_write (simulated_round_checks sim call) [])

-- ---- a call ----

-- what it says of a public call: answer, rounds, the stores' count and their addresses in order
pub record Told : Type 0 where
  pub answer : ℕ
  pub rounds : ℕ
  pub stores : ℕ
  pub entries : List DiskAddress

abbrev pub told_stores : (answer rounds : ℕ) → (entries : List DiskAddress) → Told
told_stores answer rounds entries =
    record { answer = answer; rounds = rounds; stores = length entries; entries = entries }

abbrev pub is_done : Simulator → CallLengths → Bool
is_done sim call = call.is_write && eqb (simulated_answer sim call) 0

unfoldable pub told_of : Simulator → CallLengths → Told
told_of sim call =
    cond (is_done sim call) (told_stores 0 (simulated_rounds sim) (simulated_stores sim call.number))
    (told_stores (simulated_answer sim call) 0 [])

-- the old slot, if any, is freed
abbrev pub freed_old : Simulator → (number : ℕ) → List Bool
freed_old sim number =
    let entry = entry_for sim number in
    cond (eqb entry 0) sim.allocated (set sim.allocated (slot_of sim.geometry entry) false)

-- after a write: the g-th slot is allocated, the entry its block A, the head the slot after it
abbrev pub simulated_write : Simulator → (number : ℕ) → Simulator
simulated_write sim number =
    let last = slot_of_round sim (simulated_rounds sim) in
    record {
      geometry = sim.geometry;
      head = next_slot sim.geometry last;
      entries = set sim.entries number (slot_start sim.geometry last);
      allocated = set (freed_old sim number) last true;
    }

unfoldable pub simulator_after : Simulator → CallLengths → Simulator
simulator_after sim call = cond (is_done sim call) (simulated_write sim call.number) sim

unfoldable pub told : Simulator → List CallLengths → List Told
told sim [] = []
told sim (call ∷ calls) = told_of sim call ∷ told (simulator_after sim call) calls

-- what of all that is seen the simulator has to tell
abbrev pub report_of : Seen → Told
report_of seen =
    record { answer = seen.answer; rounds = seen.rounds; stores = seen.stores; entries = seen.entries }

unfoldable pub reports_of : List Seen → List Told
reports_of [] = []
reports_of (seen ∷ later) = report_of seen ∷ reports_of later
