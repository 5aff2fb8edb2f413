-- The listing of a whole input: what is printed byte by byte and at the end is what the lines of the input
-- print. Assumes nothing.
use mathlib.Core.Path.{◌≡◌, refl, sym, ap, ◌∙◌}
use mathlib.Core.Bool.{true, false}
use mathlib.Core.List.{[], ◌∷◌, ◌++◌, map, append_assoc, append-nil}
use Prim.Native.Nat.{ℕ, ◌+◌}
use Rattle.model.specs.Blocks.{Bytes}
use Rattle.model.specs.Promises.Figures.{fresh}
use Rattle.script.specs.Lines.{Line, good, bad, line_in}
use Rattle.script.specs.Feeding.{Reading, no_line, in_line, at_end, step, finish, cut, ended_line, held_lines}
use Rattle.script.specs.Reports.{heading}
use Rattle.script.proofs.Laws.Inputs.{lines_of_held_lines, held_lines_nil, held_lines-cons}
use Rattle.listing.specs.Writes.{line_disk, line_text}
use Rattle.listing.specs.Listings.{Listing, text_of_line, after_move, text_of_move, after_byte, text_of_byte}
use Rattle.listing.specs.Listings.{after_bytes, text_of_bytes, text_of_end, text_of_lines, listing, printed}

-- what bytes and then the end of the input print
abbrev text_of_rest : Listing → Bytes → Bytes
text_of_rest at bytes = text_of_bytes at bytes ++ text_of_end (after_bytes at bytes)

abbrev at_reading : Reading → (line : ℕ) → (disk : Bytes) → Listing
at_reading reading line disk = record { reading = reading; is_open = true; line = line; disk = disk }

-- ---- after a line of another form ----

text_after_all :
    (bytes : Bytes) (reading : Reading) (line : ℕ) (disk : Bytes) →
    text_of_rest (record { reading = reading; is_open = false; line = line; disk = disk }) bytes ≡ []
unfolding text_of_bytes text_of_byte after_bytes after_byte text_of_end
text_after_all [] reading line disk = refl
text_after_all (byte ∷ bytes) reading line disk = text_after_all bytes reading line disk

-- ---- a line that ends ----

-- a line that has just ended prints its own text, and then the rest is printed
text_on :
    (reading : Reading) (line : ℕ) (disk : Bytes) (bytes : Bytes) →
    ((further : ℕ) (later : Bytes) →
    text_of_rest (at_reading reading further later) bytes ≡
    text_of_lines later further (map line_in (held_lines reading bytes))) →
    text_of_move reading line disk ++ text_of_rest (after_move reading line disk) bytes ≡
    text_of_lines disk line (map line_in (ended_line reading ++ held_lines reading bytes))
unfolding text_of_lines
text_on no_line line disk bytes rest = rest line disk
text_on (in_line held) line disk bytes rest = rest line disk
text_on (at_end held) line disk bytes rest = by (line_in held) refl
  where
    by :
        (said : Line) → line_in held ≡ said →
        text_of_move (at_end held) line disk ++ text_of_rest (after_move (at_end held) line disk) bytes ≡
        text_of_lines disk line (line_in held ∷ map line_in (held_lines (at_end held) bytes))
    by (good number offer) e =
        rw e
        (ap (λ (text : Bytes). line_text disk line number offer ++ text)
        (rest (line + 1) (line_disk disk line number offer)))
    by bad e = rw e (text_after_all bytes (at_end held) line disk)

text_of_line_lem :
    (said : Line) (line : ℕ) (disk : Bytes) →
    text_of_line said line disk ≡ text_of_lines disk line (said ∷ [])
unfolding text_of_lines
text_of_line_lem (good number offer) line disk = sym (append-nil (line_text disk line number offer))
text_of_line_lem bad line disk = refl

text_of_end_lem :
    (reading : Reading) (line : ℕ) (disk : Bytes) →
    text_of_move reading line disk ≡ text_of_lines disk line (map line_in (ended_line reading))
unfolding text_of_lines
text_of_end_lem no_line line disk = refl
text_of_end_lem (in_line held) line disk = refl
text_of_end_lem (at_end held) line disk = text_of_line_lem (line_in held) line disk

text_of_rest_lem :
    (bytes : Bytes) (reading : Reading) (line : ℕ) (disk : Bytes) →
    text_of_rest (at_reading reading line disk) bytes ≡
    text_of_lines disk line (map line_in (held_lines reading bytes))
unfolding text_of_bytes text_of_byte after_bytes after_byte text_of_end
text_of_rest_lem [] reading line disk = rw held_lines_nil (text_of_end_lem (finish reading) line disk)
text_of_rest_lem (byte ∷ bytes) reading line disk =
    let next = cut (step reading byte) in
    rw held_lines-cons
    (append_assoc (text_of_move next line disk) _ _
    ∙ text_on next line disk bytes (λ further later. text_of_rest_lem bytes next further later))

-- ---- the whole input ----

pub printed_is-listing : (input : Bytes) → printed input ≡ listing input
printed_is-listing input =
    ap (λ (text : Bytes). heading ++ text)
    (text_of_rest_lem input no_line 1 fresh ∙ ap (text_of_lines fresh 1) (lines_of_held_lines input))
