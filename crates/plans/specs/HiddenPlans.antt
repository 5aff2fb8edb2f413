-- What a plan stores as the hidden half of a round, which of the lent blocks it takes, and where its nodes
-- stand. Assumes nothing.
use Rattle.std.proofs.Math.Option.{Option, none, some}
use Rattle.std.specs.Prelude.{ℕ, ◌+◌, ◌*◌, ◌≤◌, length}
use Rattle.model.specs.Geometry.{Geometry, block_width}
use Rattle.model.specs.Blocks.{Bytes, block_at}
use Rattle.model.specs.Layout.{level_address}
use Rattle.model.specs.Stores.{Trace}
use Rattle.model.specs.Paths.{path_stores, written_back, dummy_stores}
use Rattle.hidden_map.specs.Nodes.{address_at, path_blocks, StandsByLevel}
use Rattle.plans.specs.declared.hidden_plans.Data.{Data}
use Rattle.plans.specs.declared.hidden_plans.Data.TheVariants.{Own, Offered}
use Rattle.plans.specs.declared.hidden_plans.HiddenPlan.{HiddenPlan}
use Rattle.plans.specs.declared.hidden_plans.HiddenPlan.TheVariants.{Back, Path, Fill}

-- the data that a path is stored with
abbrev pub data_of : Data → Geometry → (disk : Bytes) → (slot : ℕ) → (blocks : Bytes) → Bytes
data_of Own g disk slot blocks = block_at (block_width g) disk (level_address g slot 0)
data_of (Offered place) g disk slot blocks = block_at (block_width g) blocks place

-- what a plan stores
abbrev pub hidden_trace :
    HiddenPlan → Geometry → (disk : Bytes) → (slot : ℕ) → (blocks random : Bytes) → Trace
hidden_trace Back g disk slot blocks random = written_back g disk slot
hidden_trace (Path number nodes which) g disk slot blocks random =
    path_stores g number.0 slot (data_of which g disk slot blocks) (path_blocks g disk (address_at nodes))
hidden_trace Fill g disk slot blocks random = dummy_stores g disk slot random

-- the place among the lent blocks that a path's data is taken from
abbrev pub offered_in : Data → Option ℕ
offered_in Own = none
offered_in (Offered place) = some place

-- the place that a plan takes from
abbrev pub offered_by : HiddenPlan → Option ℕ
offered_by Back = none
offered_by (Path number nodes which) = offered_in which
offered_by Fill = none

-- where there is a place, its block is lent whole
abbrev pub BlockLent : Geometry → (blocks : Bytes) → Option ℕ → Type 0
BlockLent g blocks none = Unit {0}
BlockLent g blocks (some place) = place * g.block_size + g.block_size ≤ length blocks

-- the nodes of a path that is planned stand where nodes of their levels can
abbrev pub PathPlaced : Geometry → HiddenPlan → Type 0
PathPlaced g Back = Unit {0}
PathPlaced g (Path number nodes which) = StandsByLevel g (address_at nodes)
PathPlaced g Fill = Unit {0}
