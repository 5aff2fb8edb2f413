-- Laws of a text in a buffer: none, one byte, one text after another, the length of the buffer; and a text
-- copied at once. Assumes nothing.
use mathlib.Core.Path.{◌≡◌, refl, sym, ap, ◌∙◌}
use mathlib.Core.List.{[], ◌∷◌, ◌++◌}
use Prim.Native.Nat.{ℕ, ◌+◌, ◌≤◌, ◌<◌}
use native.Mathlib.Omega.{arith}
use lib.ListN.{length, set, length-append}
use lib.Seq.{paste, take-length}
use Rattle.laws.proofs.Lists.{over_is, over_nil, over_one, over_append, length_over}
use Rattle.script.specs.Texts.{Text, Put}

-- ---- texts ----

pub put_nothing : (out : Text) (at : ℕ) → at ≤ length out → Put [] out at out at
put_nothing out at h = record { placed = sym (over_nil at out h); ended = omega arith }

pub put_one : (out : Text) (at byte : ℕ) → at < length out →
    Put (byte ∷ []) out at (set out at byte) (at + 1)
put_one out at byte h = record { placed = sym (over_one out at byte h); ended = refl }

module _ (text out : Text) (at : ℕ) (after : Text) (next : ℕ) (put : Put text out at after next)
    (fits : at + length text ≤ length out) where
  put_length : length after ≡ length out
  put_length = ap length put.placed ∙ length_over text out at fits

  -- one text after another
  pub put_append :
      (more last : Text) (end : ℕ) → Put more after next last end → next + length more ≤ length out →
      Put (text ++ more) out at last end
  put_append more last end then h =
      let room : at + length text + length more ≤ length out = omega (arith, put.ended) in
      record {
        placed =
            then.placed ∙ rw (put.placed, put.ended) (over_append text out at fits more room);
        ended = rw (length-append text more) (omega (arith, then.ended, put.ended));
      }

-- three texts, one after another
pub put_three :
    (one two three out : Text) (at : ℕ) (after later last : Text) (next then end : ℕ) →
    at + length one + length two + length three ≤ length out → Put one out at after next →
    Put two after next later then →
    Put three later then last end → Put (one ++ two ++ three) out at last end
put_three one two three out at after later last next then end h p q r =
    let both : Put (one ++ two) out at later then =
    put_append one out at after next p (omega arith) two later then q (omega (arith, p.ended)) in
    put_append (one ++ two) out at later then both (simp length-append (omega arith)) three last end r
    (omega (arith, p.ended, q.ended))

-- a text after one byte
pub put_cons :
    (byte : ℕ) (text out : Text) (at : ℕ) (after : Text) (end : ℕ) → at + 1 + length text ≤ length out →
    Put text (set out at byte) (at + 1) after end → Put (byte ∷ text) out at after end
put_cons byte text out at after end h put =
    put_append (byte ∷ []) out at (set out at byte) (at + 1) (put_one out at byte (omega arith))
    (omega arith) text after
    end put h

-- one byte after a text
module _ (text out : Text) (at : ℕ) (after : Text) (last : ℕ) (put : Put text out at after last)
    (fits : at + length text < length out) where
  last_inside : last < length out
  last_inside = omega (arith, put.ended)

  pub put_snoc : (byte : ℕ) → Put (text ++ (byte ∷ [])) out at (set after last byte) (last + 1)
  put_snoc byte =
      let room : at + length text ≤ length out = omega arith in
      let same : length after ≡ length out = put_length text out at after last put room in
      put_append text out at after last put room (byte ∷ []) (set after last byte) (last + 1)
      (put_one after last byte (omega (arith, last_inside))) (omega (arith, last_inside))

-- ---- a text copied at once ----

pub put_of_paste :
    (out : Text) (at : ℕ) (text after : Text) → after ≡ paste out at text (length text) →
    Put text out at after (at + length text)
put_of_paste out at text after e =
    record { placed = e ∙ rw take-length (sym (over_is at text out)); ended = refl }
