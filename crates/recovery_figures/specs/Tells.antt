-- What a disk shows, in the numbers of a row. Assumes nothing.
use Rattle.std.specs.Prelude.{Bool, ◌&&◌, ℕ, eqb, get_or}
use Rattle.model.specs.Blocks.{Bytes}
use Rattle.model.specs.Calls.{public_read, hidden_read}
use Rattle.model.specs.Promises.Figures.{filled}

-- the first byte that a read shows, 256 where there is none
abbrev pub public_first : (number : ℕ) → (disk : Bytes) → ℕ
public_first number disk = get_or (public_read disk number (filled 0)) 0 256

abbrev pub hidden_first : (number : ℕ) → (disk : Bytes) → ℕ
hidden_first number disk = get_or (hidden_read disk number (filled 0)) 0 256

-- the first two bytes of the bitmap, which is block 2
abbrev pub bits_told : (first second : ℕ) → (disk : Bytes) → Bool
bits_told first second disk = eqb first (get_or disk 64 256) && eqb second (get_or disk 65 256)
