-- How many pieces of one size hold a whole. Assumes nothing.
use Rattle.std.specs.Prelude.{ℕ, ◌+◌, ◌-◌, ◌/◌}

-- the whole divided by the piece, rounded up
abbrev pub ceil_div : (whole piece : ℕ) → ℕ
ceil_div whole piece = (whole + piece - 1) / piece
