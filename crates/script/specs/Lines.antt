-- What a line of the listing's input means (document 01, "Figures to hold against"): public number, one
-- space, and offered number or `-`, each number 1 to 9 digits. Assumes nothing.
use Rattle.std.specs.Prelude.{◌≡◌, ◌≢◌, Bool, false, cond, ◌&&◌, [], ◌∷◌, ℕ, ◌<◌, eqb, ltb, leb, length}
use Rattle.std.specs.Prelude.{slice_index, Option as Maybe, Some, None}
use Rattle.std.proofs.Math.Option.{Option, none, some}
use Rattle.script.specs.Texts.{Text, space, dash, is_digits, value_of_digits}
use Rattle.layout.specs.declared.numbers.HiddenNumber.{HiddenNumber}
use Rattle.script.specs.declared.lines.Field as declaredField
use Rattle.script.specs.declared.lines.Line as declaredLine

-- ---- fields ----

-- the bytes before the first space, all where there is none
unfoldable pub before_space : Text → Text
before_space [] = []
before_space (byte ∷ bytes) = cond (eqb byte space) [] (byte ∷ before_space bytes)

-- the bytes after the first space, none where there is none
unfoldable pub after_space : Text → Text
after_space [] = []
after_space (byte ∷ bytes) = cond (eqb byte space) bytes (after_space bytes)

-- none of so many bytes at the front is a space
abbrev pub NoSpace : (bytes : Text) → (count : ℕ) → Type 0
NoSpace bytes count = (index : ℕ) → index < count → slice_index bytes index ≢ space

-- the first space stands here
abbrev pub FirstSpace : (bytes : Text) → (at : ℕ) → Type 0
FirstSpace bytes at = (at < length bytes) × (slice_index bytes at ≡ space) × NoSpace bytes at

-- 1 to 9 digits
abbrev pub is_number : Text → Bool
is_number bytes = ltb 0 (length bytes) && leb (length bytes) 9 && is_digits bytes

-- `-` alone
unfoldable pub is_dash : Text → Bool
is_dash [] = false
is_dash (byte ∷ []) = eqb byte dash
is_dash (byte ∷ next ∷ bytes) = false

-- a number, `-`, or anything else
pub data Field : Type 0 where
  number : (value : ℕ) → Field
  absent : Field
  other : Field

-- what the bytes before or after the first space say
unfoldable pub field_in : Text → Field
field_in bytes = cond (is_dash bytes) absent (cond (is_number bytes) (number (value_of_digits bytes)) other)

-- ---- lines ----

-- a public number and the offered number, if any; or a line of another form
pub data Line : Type 0 where
  good : (number : ℕ) → (offer : Option ℕ) → Line
  bad : Line

-- what two fields make of a line
abbrev pub line_from : (first second : Field) → Line
line_from (number value) (number offer) = good value (some offer)
line_from (number value) absent = good value none
line_from (number value) other = bad
line_from absent second = bad
line_from other second = bad

-- what the bytes of a line, without its newline, mean
unfoldable pub line_in : Text → Line
line_in bytes = line_from (field_in (before_space bytes)) (field_in (after_space bytes))

-- ---- what the code's answers say ----

abbrev pub field_of : declaredField.Field → Field
field_of (declaredField.TheVariants.Number value) = number value
field_of declaredField.TheVariants.Dash = absent
field_of declaredField.TheVariants.Other = other

-- an offered number as a plain number
abbrev pub plain_offer : Maybe HiddenNumber → Option ℕ
plain_offer None = none
plain_offer (Some offer) = some offer.0

abbrev pub meaning_of : Maybe declaredLine.Line → Line
meaning_of None = bad
meaning_of (Some line) = good line.number.0 (plain_offer line.offer)
