-- The geometry that a declared one says, and what the areas of any such geometry are counted under. Assumes
-- nothing.
use Rattle.std.specs.Prelude.{◌≡◌, true, ◌≤◌}
use Rattle.model.specs.Geometry as model
use Rattle.layout.specs.declared.geometry.Geometry as declared

-- the five numbers
abbrev pub geometry_of : declared.Geometry → model.Geometry
geometry_of g =
    record {
      block_size = g.block_size;
      height = g.height;
      publics = g.publics;
      hidden = g.hidden;
      slots = g.slots;
    }

-- block size and height have passed their tests, the other numbers are free
pub record Shaped (g : model.Geometry) : Type 0 where
  pub size_good : model.is_one_of g.block_size model.block_sizes ≡ true
  pub height_low : 2 ≤ g.height
  pub height_high : g.height ≤ 4

-- block size and height within their limits, the other numbers free
pub record Bounded (g : model.Geometry) : Type 0 where
  pub size_low : 32 ≤ g.block_size
  pub size_high : g.block_size ≤ 4096
  pub height_low : 2 ≤ g.height
  pub height_high : g.height ≤ 4
