-- Laws of input read byte by byte: what a line as it is held becomes with one more byte, that holding its
-- front loses nothing of what it means, and that the lines of an input are those that end as its bytes are
-- read. Assumes nothing.
use mathlib.Core.Path.{◌≡◌, sym, ap, ◌∙◌}
use mathlib.Core.Logic.{◌≢◌, ⊎_elim}
use mathlib.Core.List.{[], ◌∷◌, ◌++◌}
use Prim.Native.Nat.{ℕ, ◌≤◌, ◌<◌}
use native.Mathlib.Omega.{arith}
use lib.ListN.{length, take, length-take}
use lib.Seq.{take_all}
use borrow.Author.Tests.{eq-eqb, ne_eqb}
use Rattle.laws.proofs.Cases.{lt_cases, cond_true, cond_false}
use Rattle.script.specs.Texts.{Text, newline}
use Rattle.script.specs.Lines.{line_in}
use Rattle.script.specs.Feeding.{in_line, at_end, step_in, line_room, cut}
use Rattle.script.proofs.Laws.Lines.{line_in_long}

-- ---- one more byte of a line ----

cut-newline :
    (line : Text) (byte : ℕ) → byte ≡ newline → cut (step_in line byte) ≡ at_end (take line_room line)
cut-newline line byte e =
    ap cut (cond_true (at_end line) (in_line (line ++ (byte ∷ []))) (eq-eqb byte newline e))

cut_other :
    (line : Text) (byte : ℕ) → byte ≢ newline →
    cut (step_in line byte) ≡ in_line (take line_room (line ++ (byte ∷ [])))
cut_other line byte ne =
    ap cut (cond_false (at_end line) (in_line (line ++ (byte ∷ []))) (ne_eqb byte newline ne))

module _ (buffer : Text) (held byte : ℕ) (room : length buffer ≡ line_room) where
  held_within : length (take held buffer) ≤ line_room
  held_within = omega (arith, length-take held buffer)

  pub feed_newline : byte ≡ newline → at_end (take held buffer) ≡ cut (step_in (take held buffer) byte)
  feed_newline e =
      ap at_end (sym (take_all line_room (take held buffer) held_within))
      ∙ sym (cut-newline (take held buffer) byte e)

-- ---- what is held says what the line says ----

pub line_in-take : (line : Text) → line_in (take line_room line) ≡ line_in line
line_in-take line = ⊎_elim short long (lt_cases 19 (length line))
  where
    short : 19 < length line → line_in (take line_room line) ≡ line_in line
    short h =
        let l : 19 < length (take line_room line) = omega (arith, length-take line_room line) in
        line_in_long (take line_room line) l ∙ sym (line_in_long line h)

    long : length line ≤ 19 → line_in (take line_room line) ≡ line_in line
    long h = ap line_in (take_all line_room line (omega arith))
