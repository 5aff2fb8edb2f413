-- The geometry that a caller names by its five numbers. Assumes nothing.
use Rattle.std.specs.Prelude.{ℕ}
use Rattle.model.specs.Geometry.{Geometry}

-- B, k, P, H and M
abbrev pub geometry_for : (block_size height publics hidden slots : ℕ) → Geometry
geometry_for block_size height publics hidden slots =
    record { block_size = block_size; height = height; publics = publics; hidden = hidden; slots = slots }
