-- The check of the whole hidden tree (document 02, K1): the entries that are met, in the order of the check,
-- the tests of one entry, and the refusal. Assumes nothing.
use Rattle.std.specs.Prelude.{Bool, cond, not, ◌&&◌, List, [], ◌∷◌, ◌++◌, ℕ, zero, suc, ◌+◌, ◌*◌, ltb, leb, eqb}
use Rattle.laws.specs.Checks.{Check, check, first_of}
use Rattle.model.specs.Geometry.{Geometry, root_address, block_width}
use Rattle.model.specs.Blocks.{Bytes, DiskAddress, block_at, entry_at}
use Rattle.model.specs.Layout.{geometry_in, slot_of, level_address, is_well_formed}
use Rattle.model.specs.HiddenTree.{owner_of, span, walk, is_found_at}
use Rattle.model.specs.Refusals.{drive_checks}
use Rattle.model.specs.Invariants.{entries_in}

-- an entry that is met and is not 0: its level, the first of the numbers below it, the address that it holds
pub record MetEntry : Type 0 where
  pub level : ℕ
  pub first : ℕ
  pub entry : DiskAddress

abbrev pub met_entry : (level first : ℕ) → (entry : DiskAddress) → MetEntry
met_entry level first entry = record { level = level; first = first; entry = entry }

-- ---- the order of the check ----

-- what is met at so many places from one on, place by place
unfoldable pub met_in_turn : (met_at : ℕ → List MetEntry) → (count place : ℕ) → List MetEntry
met_in_turn met_at zero place = []
met_in_turn met_at (suc count) place = met_at place ++ met_in_turn met_at count (suc place)

-- an entry, then what is met below it: a 0 is passed over, an ill-formed entry leads nowhere
unfoldable pub met_with : Geometry → MetEntry → (below : List MetEntry) → List MetEntry
met_with g met below =
    cond (eqb met.entry 0) [] (met ∷ cond (is_well_formed g met.level met.entry) below [])

-- the entry at a place of a node whose numbers begin with this one
abbrev pub entry_in : Geometry → (level first : ℕ) → (node : Bytes) → (place : ℕ) → MetEntry
entry_in g level first node place = met_entry level (first + place * span g level) (entry_at place node)

-- what is met at that place: its entry, then what is met below it, told for any block there
abbrev pub met_at_with :
    Geometry → (disk : Bytes) → (met_below : (first : ℕ) → (block : Bytes) → List MetEntry) →
    (level first : ℕ) → (node : Bytes) → (place : ℕ) → List MetEntry
met_at_with g disk met_below level first node place =
    let met = entry_in g level first node place in
    met_with g met (met_below met.first (block_at (block_width g) disk met.entry))

-- what is met below a block of a level whose numbers begin with this one: nothing below hidden data; in a
-- node place by place, a leaf's last entry left out
unfoldable pub met_below : Geometry → (disk : Bytes) → (level first : ℕ) → (block : Bytes) → List MetEntry
met_below g disk zero first block = []
met_below g disk (suc level) first node =
    met_in_turn (met_at_with g disk (met_below g disk level) level first node) (entries_in g level) 0

-- what is met from the first root entry on
abbrev pub met_entries : Geometry → (disk : Bytes) → List MetEntry
met_entries g disk = met_below g disk g.height 0 (block_at (block_width g) disk (root_address g))

-- what is met in a node at a place
abbrev pub met_at : Geometry → (disk : Bytes) → (level first : ℕ) → (node : Bytes) → (place : ℕ) →
    List MetEntry
met_at g disk level first node place = met_at_with g disk (met_below g disk level) level first node place

-- ---- the tests of one entry ----

-- whether a number is one of those below an entry of a level whose numbers begin with this one
abbrev pub is_below : Geometry → (level first number : ℕ) → Bool
is_below g level first number = leb first number && ltb number (first + span g level)

-- whether the slot that an entry leads to is that of its owner: the owner is below the entry, and its walk
-- ends at the slot's last block
unfoldable pub is_owned : Geometry → (disk : Bytes) → MetEntry → Bool
is_owned g disk met =
    let slot = slot_of g met.entry in
    let owner = owner_of g disk slot in
    is_below g met.level met.first owner &&
    is_found_at (level_address g slot 0) (walk g disk owner).end

-- 13, an ill-formed entry; 14, all numbers below it are H or more; 15, the slot is not that of its owner
unfoldable pub entry_checks : Geometry → (disk : Bytes) → MetEntry → List Check
entry_checks g disk met =
    check (not (is_well_formed g met.level met.entry)) 13 ∷ check (leb g.hidden met.first) 14 ∷
    check (not (is_owned g disk met)) 15 ∷ []

-- ---- the call ----

-- the tests of one entry after another
unfoldable pub met_checks : Geometry → (disk : Bytes) → List MetEntry → List Check
met_checks g disk [] = []
met_checks g disk (met ∷ later) = entry_checks g disk met ++ met_checks g disk later

-- the first fault of entries that are met, 0 where there is none
abbrev pub first_fault : Geometry → (disk : Bytes) → List MetEntry → ℕ
first_fault g disk mets = first_of (met_checks g disk mets)

-- 13 to 15: of every entry that is met
abbrev pub tree_checks : Geometry → (disk : Bytes) → List Check
tree_checks g disk = met_checks g disk (met_entries g disk)

-- 1 to 3, then the first fault in the order of the check
unfoldable pub tree_refusal : (disk : Bytes) → ℕ
tree_refusal disk = first_of (drive_checks disk ++ tree_checks (geometry_in disk) disk)
