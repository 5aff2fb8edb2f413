-- Text as bytes: the characters that the listing knows, numbers in decimal, and a text put into a buffer.
-- Assumes nothing.
use Rattle.std.specs.Prelude.{◌≡◌, Bool, true, cond, ◌&&◌, List, [], ◌∷◌, ◌++◌, ℕ, zero, suc, ◌+◌, ◌*◌, ◌-◌}
use Rattle.std.specs.Prelude.{◌/◌, ◌%◌, ltb, leb, length}
use Rattle.laws.specs.Lists.{over}

abbrev pub Text : Type 0
Text = List ℕ

-- ---- characters ----

abbrev pub newline : ℕ
newline = 10

abbrev pub space : ℕ
space = 32

abbrev pub comma : ℕ
comma = 44

abbrev pub dash : ℕ
dash = 45

-- the character of a digit below 10
abbrev pub digit_byte : (value : ℕ) → ℕ
digit_byte value = 48 + value

-- ---- numbers ----

abbrev pub is_digit : (byte : ℕ) → Bool
is_digit byte = leb (digit_byte 0) byte && leb byte (digit_byte 9)

unfoldable pub is_digits : Text → Bool
is_digits [] = true
is_digits (byte ∷ bytes) = is_digit byte && is_digits bytes

-- the number that digits spell after others that spell `before`
unfoldable pub value_after : (before : ℕ) → Text → ℕ
value_after before [] = before
value_after before (byte ∷ bytes) = value_after (before * 10 + (byte - digit_byte 0)) bytes

-- the number that digits spell, highest first
abbrev pub value_of_digits : Text → ℕ
value_of_digits bytes = value_after 0 bytes

-- a number's digits, highest first, none but the last a leading zero; at most so many of them
unfoldable pub decimal_within : (most value : ℕ) → Text
decimal_within zero value = []
decimal_within (suc most) value =
    cond (ltb value 10) (digit_byte value ∷ [])
    (decimal_within most (value / 10) ++ (digit_byte (value % 10) ∷ []))

-- a number in decimal: a number n has at most n + 1 digits
unfoldable pub decimal : (value : ℕ) → Text
decimal value = decimal_within (suc value) value

-- ---- a buffer ----

-- a text stands in a buffer from a place on, and the place after it; the buffer's other bytes are as before
pub record Put (text : Text) (out : Text) (at : ℕ) (outAfter : Text) (next : ℕ) : Type 0 where
  pub placed : outAfter ≡ over at text out
  pub ended : next ≡ at + length text
