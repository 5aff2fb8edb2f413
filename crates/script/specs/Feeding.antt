-- Input read byte by byte (document 01, "Figures to hold against"): a line of names, passed over, then lines
-- of values; a line ends at its newline, the last one at the end of the input too. Of a line so many bytes
-- are held that a longer one is still of no good form. Assumes nothing.
use Rattle.std.specs.Prelude.{cond, List, [], ◌∷◌, ◌++◌, ℕ, eqb, take}
use Rattle.script.specs.Texts.{Text, newline}
use Rattle.script.specs.declared.feeding.Feed.{Feed}
use Rattle.script.specs.declared.feeding.Feed.TheVariants.{NoLine, Inside, Ended}

-- ---- the input as a whole ----

-- all after the line of names
unfoldable pub after_names : (input : Text) → Text
after_names [] = []
after_names (byte ∷ bytes) = cond (eqb byte newline) bytes (after_names bytes)

-- a last line without its newline, if there is any
abbrev pub last_line : (line : Text) → List Text
last_line [] = []
last_line (byte ∷ line) = (byte ∷ line) ∷ []

-- the lines of bytes that go on after `line`
unfoldable pub lines_after : (line : Text) → Text → List Text
lines_after line [] = last_line line
lines_after line (byte ∷ bytes) =
    cond (eqb byte newline) (line ∷ lines_after [] bytes) (lines_after (line ++ (byte ∷ [])) bytes)

-- the lines of values, each without its newline
abbrev pub value_lines : (input : Text) → List Text
value_lines input = lines_after [] (after_names input)

-- ---- byte by byte ----

-- where the bytes so far end: in no line of values, so in the line of names or past the end of the input; in
-- a line of values; or with one just ended
pub data Reading : Type 0 where
  no_line : Reading
  in_line : (line : Text) → Reading
  at_end : (line : Text) → Reading

-- where one more byte leads in a line
abbrev pub step_in : (line : Text) → (byte : ℕ) → Reading
step_in line byte = cond (eqb byte newline) (at_end line) (in_line (line ++ (byte ∷ [])))

-- where one more byte leads
abbrev pub step : Reading → (byte : ℕ) → Reading
step no_line byte = cond (eqb byte newline) (in_line []) no_line
step (in_line line) byte = step_in line byte
step (at_end line) byte = step_in [] byte

-- where the end of the input leads: a line without its newline ends there
abbrev pub finish : Reading → Reading
finish no_line = no_line
finish (in_line []) = no_line
finish (in_line (byte ∷ line)) = at_end (byte ∷ line)
finish (at_end line) = no_line

-- ---- lines as they are held ----

-- one byte more than the longest line of a good form has
abbrev pub line_room : ℕ
line_room = 20

abbrev pub cut : Reading → Reading
cut no_line = no_line
cut (in_line line) = in_line (take line_room line)
cut (at_end line) = at_end (take line_room line)

-- what a declared state and a buffer say
abbrev pub reading_in : Feed → (buffer : Text) → Reading
reading_in NoLine buffer = no_line
reading_in (Inside held) buffer = in_line (take held buffer)
reading_in (Ended held) buffer = at_end (take held buffer)

-- the line that has just ended, if any
abbrev pub ended_line : Reading → List Text
ended_line no_line = []
ended_line (in_line line) = []
ended_line (at_end line) = line ∷ []

-- the lines that end, as they are held, when bytes and then the end of the input are read
unfoldable pub held_lines : Reading → Text → List Text
held_lines reading [] = ended_line (finish reading)
held_lines reading (byte ∷ bytes) =
    ended_line (cut (step reading byte)) ++ held_lines (cut (step reading byte)) bytes
