-- Laws of what a walk is given: where a drive's slots stand, and its tree. Assumes nothing.
use mathlib.Core.Path.{◌≡◌, refl, ap₂, ◌∙◌}
use Prim.Native.Nat.{ℕ, ◌+◌, ◌*◌}
use Rattle.model.specs.Geometry.{Geometry, slot_width, area_start}
use Rattle.model.specs.Blocks.{Bytes}
use Rattle.model.specs.Layout.{Drive}
use Rattle.hidden_map.specs.declared.branches.Area.{Area}
use Rattle.hidden_map.specs.Trees.{AreaOf, TreeOf}

-- the slots begin where the data area does, and the drive ends behind them
pub area_of_start :
    (g : Geometry) (area : Area) → area.height ≡ g.height → area.start.0 ≡ area_start g →
    (width : ℕ) → width ≡ slot_width g → area.count ≡ area.start.0 + g.slots * width → AreaOf g area
area_of_start g area h s width w c =
    record { height_is = h; start_is = s; count_is = c ∙ ap₂ (λ (n m : ℕ). n + g.slots * m) s w }

pub tree_of_drive :
    (g : Geometry) (disk : Bytes) → Drive g disk → (area : Area) → AreaOf g area →
    TreeOf g disk (record { size = g.block_size; area = area })
tree_of_drive g disk d area a = record { drive = d; size_is = refl; area = a }
