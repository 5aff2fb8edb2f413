-- One bit of a byte and of a list of bytes, low bit first: read, set, cleared. Assumes nothing.
use Rattle.std.specs.Prelude.{Bool, cond, List, ℕ, ◌+◌, ◌-◌, ◌/◌, ◌%◌, ◌^◌, eqb, get_or, set}

-- whether a byte's bit is 1
unfoldable pub bit_of : (place byte : ℕ) → Bool
bit_of place byte = eqb (byte / 2 ^ place % 2) 1

-- the byte with that bit 1 or 0 as asked, its other bits kept
unfoldable pub with_bit : (place : ℕ) → (is_set : Bool) → (byte : ℕ) → ℕ
with_bit place is_set byte =
    cond is_set (cond (bit_of place byte) byte (byte + 2 ^ place))
    (cond (bit_of place byte) (byte - 2 ^ place) byte)

-- whether a bit of a list of bytes is 1
unfoldable pub bit_at : (place : ℕ) → (bytes : List ℕ) → Bool
bit_at place bytes = bit_of (place % 8) (get_or bytes (place / 8) 0)

-- the bytes with that bit 1 or 0 as asked, all other bits kept
unfoldable pub set_bit : (place : ℕ) → (is_set : Bool) → (bytes : List ℕ) → List ℕ
set_bit place is_set bytes = set bytes (place / 8) (with_bit (place % 8) is_set (get_or bytes (place / 8) 0))
