-- Laws of a whole line of output: how long its parts are at most, and that they follow each other. Assumes
-- nothing.
use mathlib.Core.List.{List, [], ◌∷◌, ◌++◌}
use Prim.Native.Nat.{ℕ, ◌+◌, ◌^◌, ◌≤◌, ◌<◌}
use native.Mathlib.Omega.{arith}
use lib.ListN.{length, set, length-append}
use Rattle.script.specs.Texts.{Text, Put, newline, space}
use Rattle.script.specs.Reports.{field, outcome_text, stores_text, counts_text, report_line, stores_room}
use Rattle.script.specs.Reports.{report_room}
use Rattle.script.proofs.Laws.Texts.{put_three, put_append, put_snoc}
use Rattle.script.proofs.Laws.Reports.{Small, length_counts, length-outcome_text, length-field_count}
use Rattle.script.proofs.Laws.Reports.{length-stores_text}

-- how long the parts of a line are at most
pub record Short (line answer rounds outcome head : ℕ) (stores : List ℕ) : Type 0 where
  pub counts_short : length (counts_text line answer rounds) ≤ 36
  pub outcome_short : length (outcome_text outcome ++ (space ∷ [])) ≤ 10
  pub head_short : length (field head) ≤ 11
  pub stores_short : length (stores_text stores) ≤ stores_room (length stores)

-- four texts and one byte
module _ (text : Text) (more rest final out : Text) (one two three four : Text)
    (first second third fourth : ℕ)
    (fits : length text + length more + length rest + length final < length out)
    (p : Put text out 0 one first)
    (q : Put more one first two second) (r : Put rest two second three third)
    (s : Put final three third four fourth) where
  four_inside : fourth < length out
  four_inside = omega (arith, p.ended, q.ended, r.ended, s.ended)

  put_four : (byte : ℕ) → Put (text ++ more ++ rest ++ final ++ (byte ∷ [])) out 0 (set four fourth byte)
      (fourth + 1)
  put_four byte =
      let all_three : Put (text ++ more ++ rest) out 0 three third =
      put_three text more rest out 0 one two three first second third (omega arith) p q r in
      let all-four : Put (text ++ more ++ rest ++ final) out 0 four fourth =
      put_append (text ++ more ++ rest) out 0 three third all_three
      (simp length-append (omega arith)) final four fourth s
      (omega (arith, p.ended, q.ended, r.ended)) in
      put_snoc (text ++ more ++ rest ++ final) out 0 four fourth all-four
      (simp length-append (omega arith)) byte

module _ (line answer rounds outcome head : ℕ) (stores : List ℕ) where
  pub short :
      line < 2 ^ 64 → answer < 2 ^ 8 → rounds < 2 ^ 32 → outcome < 2 ^ 8 → head < 2 ^ 32 → Small stores →
      Short line answer rounds outcome head stores
  short l a r o h small =
      record {
        counts_short =
            simp length-append (omega (
              arith,
              simp length-append at
                  (length_counts line answer rounds l a r),
            ));
        outcome_short = simp length-append (omega (arith, length-outcome_text outcome o));
        head_short = length-field_count head h;
        stores_short = length-stores_text stores small;
      }

  module _ (out : Text) (fits : report_room (length stores) ≤ length out)
      (all : Short line answer rounds outcome head stores)
      (one two three four : Text) (first second third fourth : ℕ)
      (counts : Put (counts_text line answer rounds) out 0 one first)
      (fate : Put (outcome_text outcome ++ (space ∷ [])) one first two second)
      (after : Put (field head) two second three third)
      (list : Put (stores_text stores) three third four fourth) where
    total :
        length (counts_text line answer rounds) + length (outcome_text outcome ++ (space ∷ [])) + length
        (field head) +
        length (stores_text stores) < length out
    total = omega (arith, all.counts_short, all.outcome_short, all.head_short, all.stores_short)

    pub newline_inside : fourth < length out
    newline_inside =
        four_inside (counts_text line answer rounds) (outcome_text outcome ++ (space ∷ [])) (field head)
        (stores_text stores) out
        one two three four first second third fourth total counts fate after list

    pub put_line : Put (report_line line answer rounds outcome head stores) out 0 (set four fourth newline)
        (fourth + 1)
    put_line =
        put_four (counts_text line answer rounds) (outcome_text outcome ++ (space ∷ [])) (field head)
        (stores_text stores) out
        one two three four first second third fourth total counts fate after list newline
