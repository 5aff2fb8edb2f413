-- The hidden volume's map, a tree (document 01, "The disk"): which entry a hidden number takes at each level,
-- whose slot it is, and the walk from the root down. An entry of level j stands in a node of level j + 1 and
-- leads to a block of level j. Assumes nothing.
use Rattle.std.specs.Prelude.{Bool, true, false, cond, List, ◌∷◌, ℕ, zero, suc, ◌+◌, ◌*◌, ◌-◌, ◌/◌, ◌%◌, ◌^◌, eqb, replicate}
use Rattle.model.specs.Geometry.{Geometry, fanout, root_address, block_width}
use Rattle.model.specs.Blocks.{Bytes, DiskAddress, block_at, entry_at, zero_block}
use Rattle.model.specs.Layout.{slot_start, is_well_formed}

-- the leaf that a hidden number stands in, counted from 0
abbrev pub leaf_of : Geometry → (number : ℕ) → ℕ
leaf_of g number = number / (fanout g - 1)

-- the index of a number's entry of a level in its node: in the leaf its place there, above the leaf's digits
-- in base F
unfoldable pub branch_at : Geometry → (number level : ℕ) → ℕ
branch_at g number zero = number % (fanout g - 1)
branch_at g number (suc level) = leaf_of g number / fanout g ^ level % fanout g

-- how many numbers stand below one entry of a level: 1, F − 1, (F − 1)F, (F − 1)F²
unfoldable pub span : Geometry → (level : ℕ) → ℕ
span g zero = 1
span g (suc level) = (fanout g - 1) * fanout g ^ level

-- the reverse number, the last entry of the slot's leaf (document 01: r)
unfoldable pub owner_of : Geometry → (disk : Bytes) → (slot : ℕ) → ℕ
owner_of g disk slot = entry_at (fanout g - 1) (block_at (block_width g) disk (slot_start g slot + 1))

-- where a walk ends
pub data End : Type 0 where
  found : (address : DiskAddress) → End
  unmapped : End
  damaged : End

abbrev pub is_damaged : End → Bool
is_damaged (found address) = false
is_damaged unmapped = false
is_damaged damaged = true

abbrev pub is_found_at : DiskAddress → End → Bool
is_found_at address (found reached) = eqb reached address
is_found_at address unmapped = false
is_found_at address damaged = false

-- a walk: its nodes from the root down, zeros for those that it did not reach, and where it ends
pub record Walk : Type 0 where
  pub nodes : List Bytes
  pub end : End

abbrev pub ended : Geometry → (node : Bytes) → (level : ℕ) → End → Walk
ended g node level end = record { nodes = node ∷ replicate level (zero_block g.block_size); end = end }

abbrev pub passing : (node : Bytes) → Walk → Walk
passing node rest = record { nodes = node ∷ rest.nodes; end = rest.end }

-- the walk for a number from a node down, by the level of the entry that it takes there
unfoldable pub walk_from : Geometry → (disk : Bytes) → (number level : ℕ) → (node : Bytes) → Walk
walk_from g disk number zero node =
    let entry = entry_at (branch_at g number 0) node in
    ended g node 0 (cond (eqb entry 0) unmapped (cond (is_well_formed g 0 entry) (found entry) damaged))
walk_from g disk number (suc level) node =
    let entry = entry_at (branch_at g number (suc level)) node in
    cond (eqb entry 0) (ended g node (suc level) unmapped)
    (cond (is_well_formed g (suc level) entry)
    (passing node (walk_from g disk number level (block_at (block_width g) disk entry)))
    (ended g node (suc level) damaged))

-- the walk for a number from the root
abbrev pub walk : Geometry → (disk : Bytes) → (number : ℕ) → Walk
walk g disk number = walk_from g disk number (g.height - 1) (block_at (block_width g) disk (root_address g))
