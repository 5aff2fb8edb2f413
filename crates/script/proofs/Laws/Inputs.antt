-- The lines of a whole input: read byte by byte and held by their fronts, they mean what they mean whole.
-- Assumes nothing.
use mathlib.Core.Path.{◌≡◌, refl, sym, ap, ap₂, ◌∙◌}
use mathlib.Core.Logic.{◌⊎◌, inl, inr, ⊎_elim}
use mathlib.Core.Bool.{true, false}
use mathlib.Core.List.{List, [], ◌∷◌, ◌++◌, map}
use Prim.Native.Nat.{ℕ, ◌≤◌, ◌<◌}
use native.Mathlib.Omega.{arith}
use lib.Dec.{eqb}
use lib.ListN.{length, take}
use lib.Seq.{take_all, take-append-le, length-take-le, take-take}
use Rattle.laws.proofs.Cases.{bool_cases, lt_cases}
use Rattle.script.specs.Texts.{Text, newline}
use Rattle.script.specs.Lines.{Line, line_in}
use Rattle.script.specs.Feeding.{after_names, lines_after, value_lines, Reading, no_line, in_line, at_end}
use Rattle.script.specs.Feeding.{line_room, cut, held_lines, ended_line, finish, step}
use Rattle.script.proofs.Laws.Feeding.{line_in-take}

-- ---- lines as they are held ----

pub held_lines_nil : (reading : Reading) → held_lines reading [] ≡ ended_line (finish reading)
unfolding held_lines
held_lines_nil reading = refl

pub held_lines-cons :
    (reading : Reading) (byte : ℕ) (bytes : Text) →
    held_lines reading (byte ∷ bytes) ≡
    ended_line (cut (step reading byte)) ++ held_lines (cut (step reading byte)) bytes
unfolding held_lines
held_lines-cons reading byte bytes = refl

-- ---- they mean what the lines mean ----

-- a front is taken before or after a list is joined on
take-take-append : (n : ℕ) (xs ys : Text) → take n (take n xs ++ ys) ≡ take n (xs ++ ys)
take-take-append n xs ys = ⊎_elim long short (lt_cases n (length xs))
  where
    long : n < length xs → take n (take n xs ++ ys) ≡ take n (xs ++ ys)
    long h =
        let l : length (take n xs) ≡ n = length-take-le n xs (omega arith) in
        take-append-le n (take n xs) ys (omega arith) ∙ take-take n n xs (omega arith)
        ∙ sym (take-append-le n xs ys (omega arith))

    short : length xs ≤ n → take n (take n xs ++ ys) ≡ take n (xs ++ ys)
    short h = ap (λ (zs : Text). take n (zs ++ ys)) (take_all n xs h)

-- the lines that are still to come
lines_on : Reading → Text → List Text
lines_on no_line bytes = lines_after [] (after_names bytes)
lines_on (in_line line) bytes = lines_after line bytes
lines_on (at_end line) bytes = lines_after [] bytes

meanings : List Text → List Line
meanings = map line_in

-- one more byte of a line
line_on :
    (line : Text) (byte : ℕ) (bytes : Text) →
    meanings (held_lines (at_end (take line_room (take line_room line))) bytes) ≡
    meanings (lines_after [] bytes) →
    meanings (held_lines (in_line (take line_room (line ++ (byte ∷ [])))) bytes) ≡
    meanings (lines_after (line ++ (byte ∷ [])) bytes) →
    meanings (held_lines (in_line (take line_room line)) (byte ∷ bytes)) ≡
    meanings (lines_after line (byte ∷ bytes))
unfolding meanings held_lines lines_after
line_on line byte bytes ended going = by (bool_cases (eqb byte newline))
  where
    by :
        (eqb byte newline ≡ true) ⊎ (eqb byte newline ≡ false) →
        meanings (held_lines (in_line (take line_room line)) (byte ∷ bytes)) ≡
        meanings (lines_after line (byte ∷ bytes))
    by (inl e) =
        rw e
        (ap₂ {C = List Line} (λ (said : Line) (later : List Line). said ∷ later)
        (line_in-take (take line_room line) ∙ line_in-take line) ended)
    by (inr e) = rw (e, take-take-append line_room line (byte ∷ [])) going

held_on :
    (reading : Reading) (bytes : Text) → meanings (held_lines (cut reading) bytes) ≡
    meanings (lines_on reading bytes)
unfolding lines_on meanings held_lines lines_after after_names
held_on no_line [] = refl
held_on (in_line []) [] = refl
held_on (in_line (byte ∷ line)) [] = ap (λ (said : Line). said ∷ []) (line_in-take (byte ∷ line))
held_on (at_end line) [] = refl
held_on no_line (byte ∷ bytes) =
    by (bool_cases (eqb byte newline)) (held_on (in_line []) bytes) (held_on no_line bytes)
  where
    by :
        (eqb byte newline ≡ true) ⊎ (eqb byte newline ≡ false) →
        meanings (held_lines (in_line []) bytes) ≡ meanings (lines_after [] bytes) →
        meanings (held_lines no_line bytes) ≡ meanings (lines_after [] (after_names bytes)) →
        meanings (held_lines no_line (byte ∷ bytes)) ≡ meanings (lines_after [] (after_names (byte ∷ bytes)))
    by (inl e) ended going = rw e ended
    by (inr e) ended going = rw e going
held_on (in_line line) (byte ∷ bytes) =
    line_on line byte bytes (held_on (at_end (take line_room line)) bytes)
    (held_on (in_line (line ++ (byte ∷ []))) bytes)
held_on (at_end line) (byte ∷ bytes) =
    line_on [] byte bytes (held_on (at_end []) bytes) (held_on (in_line (byte ∷ [])) bytes)

-- every line of values, as it is held when it ends, means what the whole line means
pub lines_of_held_lines : (input : Text) → map line_in (held_lines no_line input) ≡
    map line_in (value_lines input)
unfolding lines_on meanings
lines_of_held_lines input = held_on no_line input
