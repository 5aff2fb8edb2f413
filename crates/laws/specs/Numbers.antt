-- Numbers as bytes, least byte first. Assumes nothing.
use Rattle.std.specs.Prelude.{List, [], ◌∷◌, ℕ, zero, suc, ◌+◌, ◌*◌, ◌/◌, ◌%◌}

-- the number that bytes spell, least byte first
unfoldable pub number_of : (bytes : List ℕ) → ℕ
number_of [] = 0
number_of (byte ∷ bytes) = byte + 256 * number_of bytes

-- so many bytes of a number, least byte first
unfoldable pub little_endian : (size value : ℕ) → List ℕ
little_endian zero value = []
little_endian (suc size) value = value % 256 ∷ little_endian size (value / 256)
