-- Refusals 1 to 12 as chains of checks (document 01, "Public numbers and hidden outcomes"). Each call's
-- refusal is the number of its first check that holds, 0 where none does. Assumes nothing.
use Rattle.std.specs.Prelude.{Bool, cond, not, ◌||◌, List, [], ◌∷◌, ◌++◌, ℕ, zero, suc, ◌+◌, ◌*◌, ltb, leb, eqb, length}
use Rattle.laws.specs.Checks.{Check, check, first_of}
use Rattle.model.specs.Geometry.{Geometry, drive_size, is_geometry}
use Rattle.model.specs.Blocks.{Bytes, DiskAddress}
use Rattle.model.specs.Layout.{geometry_in, head_in, next_slot, round_slot, is_one_block, is_allocated}
use Rattle.model.specs.Layout.{map_entry, is_place}
use Rattle.model.specs.HiddenTree.{walk, is_damaged}

-- ---- the drive, 1 to 3 ----

-- 1 and 2 of a disk's length, for a geometry
unfoldable pub size_checks : (bytes : ℕ) → Geometry → List Check
size_checks bytes g =
    check (ltb bytes 24 || not (is_geometry g)) 1 ∷ check (not (eqb bytes (drive_size g))) 2 ∷ []

-- the refusal of so many bytes for a geometry
unfoldable pub size_refusal : (bytes : ℕ) → Geometry → ℕ
size_refusal bytes g = first_of (size_checks bytes g)

unfoldable pub drive_checks : (disk : Bytes) → List Check
drive_checks disk =
    size_checks (length disk) (geometry_in disk) ++ (check (leb (geometry_in disk).slots (head_in disk)) 3 ∷ [])

-- ---- public calls, 4 to 9 ----

-- 4 to 6 of a public number and its data or blank
unfoldable pub place_checks : Geometry → (disk : Bytes) → (number size : ℕ) → List Check
place_checks g disk number size =
    check (leb g.publics number) 4 ∷ check (not (eqb size g.block_size)) 5 ∷
    check (not (eqb (map_entry g disk number) 0 || is_place g disk (map_entry g disk number))) 6 ∷ []

-- one round more, where there are any
abbrev pub one_more_than : ℕ → ℕ
one_more_than zero = zero
one_more_than (suc rounds) = suc (suc rounds)

-- rounds from a slot on up to the first free one, at most so many are looked at; 0 where none of these is
-- free
unfoldable pub rounds_to : (most : ℕ) → (is_taken : ℕ → Bool) → Geometry → (slot : ℕ) → ℕ
rounds_to zero is_taken g slot = 0
rounds_to (suc most) is_taken g slot =
    cond (is_taken slot) (one_more_than (rounds_to most is_taken g (next_slot g slot))) 1

-- the rounds that a write takes now, 0 where no slot is free
abbrev pub round_count : Geometry → (disk : Bytes) → ℕ
round_count g disk = rounds_to g.slots (is_allocated g disk) g (head_in disk)

-- stores of so many rounds: k + 3 each, the last, which is in this slot, two more, or three for two bitmap
-- blocks (document 02, K2)
abbrev pub store_count : Geometry → (rounds : ℕ) → (entry : DiskAddress) → (slot : ℕ) → ℕ
store_count g rounds entry slot = rounds * (g.height + 3) + cond (is_one_block g entry slot) 2 3

-- the stores that a write takes now
abbrev pub write_store_count : Geometry → (disk : Bytes) → (number : ℕ) → ℕ
write_store_count g disk number =
    let rounds = round_count g disk in
    store_count g rounds (map_entry g disk number) (round_slot g (head_in disk) rounds)

-- 7 to 9 of a write, for lent random bytes and a list of these lengths
unfoldable pub round_checks : Geometry → (disk : Bytes) → (number random room : ℕ) → List Check
round_checks g disk number random room =
    check (eqb (round_count g disk) 0) 7 ∷
    check (ltb random (round_count g disk * g.height * g.block_size)) 8 ∷
    check (ltb room (write_store_count g disk number)) 9 ∷ []

-- ---- hidden calls, 10 to 12 ----

-- 10 and 11 of a hidden number and its data or blank
unfoldable pub hidden_checks : Geometry → (number size : ℕ) → List Check
hidden_checks g number size = check (leb g.hidden number) 10 ∷ check (not (eqb size g.block_size)) 11 ∷ []

unfoldable pub walk_checks : Geometry → (disk : Bytes) → (number : ℕ) → List Check
walk_checks g disk number = check (is_damaged (walk g disk number).end) 12 ∷ []

-- ---- the calls ----

abbrev pub format_refusal : (disk : Bytes) → Geometry → ℕ
format_refusal disk g = size_refusal (length disk) g

unfoldable pub drive_refusal : (disk : Bytes) → ℕ
drive_refusal disk = first_of (drive_checks disk)

unfoldable pub public_read_refusal : (disk : Bytes) → (number : ℕ) → (blank : Bytes) → ℕ
public_read_refusal disk number blank =
    first_of (drive_checks disk ++ place_checks (geometry_in disk) disk number (length blank))

unfoldable pub write_refusal : (disk : Bytes) → (number : ℕ) → (content : Bytes) → (random room : ℕ) → ℕ
write_refusal disk number content random room =
    let g = geometry_in disk in
    first_of
    (drive_checks disk ++
    (place_checks g disk number (length content) ++ round_checks g disk number random room))

unfoldable pub hidden_read_refusal : (disk : Bytes) → (number : ℕ) → (blank : Bytes) → ℕ
hidden_read_refusal disk number blank =
    let g = geometry_in disk in
    first_of (drive_checks disk ++ (hidden_checks g number (length blank) ++ walk_checks g disk number))

-- 10 or 11 of a hidden write that is offered, 0 for a good one
unfoldable pub hidden_write_refusal : Geometry → (number : ℕ) → (content : Bytes) → ℕ
hidden_write_refusal g number content = first_of (hidden_checks g number (length content))
