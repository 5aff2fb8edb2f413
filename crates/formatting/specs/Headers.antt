-- The entries of a fresh header, in the order in which they stand. Assumes nothing.
use Rattle.std.specs.Prelude.{List, [], ◌∷◌, ℕ}
use Rattle.model.specs.Geometry.{Geometry}

-- B, k, P, H, M and the head 0
abbrev pub header_entries : Geometry → List ℕ
header_entries g = g.block_size ∷ g.height ∷ g.publics ∷ g.hidden ∷ g.slots ∷ 0 ∷ []
