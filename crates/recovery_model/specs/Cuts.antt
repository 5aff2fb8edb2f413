-- A write that is cut after so many stores (document 02, K5): it makes its first stores and no others, and
-- leaves disk and list as these do. Assumes nothing.
use Rattle.std.specs.Prelude.{Bool, cond, List, ℕ, ◌+◌, ◌/◌, ltb, eqb, length, take}
use Rattle.laws.specs.Lists.{over}
use Rattle.model.specs.Geometry.{Geometry, block_width}
use Rattle.model.specs.Blocks.{Bytes, DiskAddress}
use Rattle.model.specs.Layout.{geometry_in}
use Rattle.model.specs.Stores.{Trace, apply, addresses}
use Rattle.model.specs.Calls.{Offered, Written}
use Rattle.model.specs.Promises.Waiting.{PublicHalf, half_refusal, first_rounds}

-- ---- what is made ----

-- the stores that are made: the first so many
abbrev pub cut_trace : (bound : ℕ) → Written → Trace
cut_trace bound result = take bound result.trace

-- whether some are left out
abbrev pub is_cut : (bound : ℕ) → Written → Bool
is_cut bound result = ltb bound (length result.trace)

-- the disk that they leave
abbrev pub cut_disk : (bound : ℕ) → Written → (disk : Bytes) → Bytes
cut_disk bound result disk = apply (block_width (geometry_in disk)) (cut_trace bound result) disk

-- the lent list that they leave: their addresses in front, the rest as it was
abbrev pub cut_list : (bound : ℕ) → Written → (list : List DiskAddress) → List DiskAddress
cut_list bound result list = over 0 (addresses (cut_trace bound result)) list

-- ---- what is placed ----

-- the rounds whose root is stored: it is store k + 2 of a round, and a round that another follows has k + 3
abbrev pub rooted_rounds : Geometry → (bound : ℕ) → ℕ
rooted_rounds g bound = (bound + 1) / (g.height + 3)

-- how many hidden writes these rounds placed; of a refused write none
abbrev pub placed_within : (bound : ℕ) → PublicHalf → (disk : Bytes) → Offered → ℕ
placed_within bound half disk offer =
    cond (eqb (half_refusal half disk) 0)
    (first_rounds (rooted_rounds (geometry_in disk) bound) half disk offer).state.placed 0
