-- Laws of input in pieces: pieces one after another are one input, and where a listing stands after some of
-- them. Assumes nothing.
use mathlib.Core.Path.{◌≡◌, refl, sym, ap, ◌∙◌}
use mathlib.Core.Logic.{◌≢◌, ◌⊎◌, inl, inr}
use mathlib.Core.Bool.{true, false}
use mathlib.Core.List.{[], ◌∷◌, ◌++◌}
use Prim.Native.Nat.{ℕ, ◌+◌, ◌*◌, ◌≤◌, ◌<◌}
use native.Mathlib.Numerals.{add-one}
use native.Mathlib.Omega.{arith}
use lib.ListN.{length, take, get_or}
use lib.Seq.{take-suc, take_all}
use borrow.Author.Tests.{eq-eqb, ne_eqb}
use Rattle.laws.proofs.Cases.{true_is_not_false, eq_cases, cond_true, cond_false}
use Rattle.model.specs.Blocks.{Bytes}
use Rattle.listing.specs.Listings.{Listing, after_byte, after_bytes, after_end, Fed, Led}
use Rattle.listing.proofs.Laws.Steps.{line_after_byte}

-- ---- bytes ----

after_bytes-append :
    (at : Listing) (xs ys : Bytes) → after_bytes at (xs ++ ys) ≡ after_bytes (after_bytes at xs) ys
unfolding after_bytes
after_bytes-append at [] ys = refl
after_bytes-append at (byte ∷ xs) ys = after_bytes-append (after_byte at byte) xs ys

after_bytes_nil : (at : Listing) → after_bytes at [] ≡ at
unfolding after_bytes
after_bytes_nil at = refl

after_bytes_suc :
    (at : Listing) (piece : Bytes) (i : ℕ) → i < length piece →
    after_bytes at (take (i + 1) piece) ≡ after_byte (after_bytes at (take i piece)) (get_or piece i 0)
unfolding after_bytes
after_bytes_suc at piece i h =
    rw (add-one, take-suc piece i 0) (after_bytes-append at (take i piece) (get_or piece i 0 ∷ []))

-- ---- a piece, byte by byte ----

-- so many bytes of a piece are taken
pub record Taken (start : Listing) (piece : Bytes) (i : ℕ) (at : Listing) : Type 0 where
  pub stands : at ≡ after_bytes start (take i piece)
  pub counted : at.line ≤ start.line + i

pub taken_none : (start : Listing) (piece : Bytes) → Taken start piece 0 start
taken_none start piece = record { stands = sym (after_bytes_nil start); counted = omega arith }

pub taken_one :
    {start at : Listing} {piece : Bytes} {i : ℕ} → Taken start piece i at → i < length piece →
    (next : Listing) → next ≡ after_byte at (get_or piece i 0) → Taken start piece (i + 1) next
taken_one {start} {at} {piece} {i} taken h next e =
    let one : next.line ≤ at.line + 1 = rw e (line_after_byte at (get_or piece i 0)) in
    record {
      stands = e ∙ ap (λ (l : Listing). after_byte l (get_or piece i 0)) taken.stands
          ∙ sym (after_bytes_suc start piece i h);
      counted = omega (arith, taken.counted);
    }

pub taken_all :
    {start at : Listing} {piece : Bytes} {i : ℕ} → Taken start piece i at → length piece ≤ i →
    at ≡ after_bytes start piece
taken_all {start} {piece = piece} {i = i} taken h =
    taken.stands ∙ ap (after_bytes start) (take_all i piece h)

-- ---- pieces ----

led_nowhere : (start : Listing) → Led start start
led_nowhere start = record { input = []; led = inl (sym (after_bytes_nil start)) }

closed_end : (at : Listing) → (after_end at).is_open ≡ false
unfolding after_end
closed_end at = refl

-- a listing that is still open was led by pieces alone, and one more leads it on
led_on :
    (start at after : Listing) (piece : Bytes) → Led start at → at.is_open ≡ true → Fed at piece after →
    Led start after
led_on start at after piece led goes_on fed = by led.led (eq_cases fed.count 0)
  where
    by :
        (at ≡ after_bytes start led.input) ⊎ (at ≡ after_end (after_bytes start led.input)) →
        (fed.count ≡ 0) ⊎ (fed.count ≢ 0) → Led start after
    by (inr e) counted =
        true_is_not_false goes_on
        (ap (λ (l : Listing). l.is_open) e ∙ closed_end (after_bytes start led.input))
    by (inl e) (inl none) =
        record {
          input = led.input;
          led = inr (fed.fed ∙ cond_true _ _ (eq-eqb fed.count 0 none) ∙ ap after_end e);
        }
    by (inl e) (inr more) =
        let front = take fed.count piece in
        record {
          input = led.input ++ front;
          led = inl (fed.fed ∙ cond_false _ _ (ne_eqb fed.count 0 more)
              ∙ ap (λ (l : Listing). after_bytes l front) e
              ∙ sym (after_bytes-append start led.input front));
        }

-- ---- the turns of the loop over pieces ----

-- some input leads here, and each turn has at most 4,097 lines
pub record PieceTurned (start : Listing) (turns : ℕ) (at : Listing) : Type 0 where
  pub led : Led start at
  pub counted : at.line ≤ 1 + 4097 * turns

pub turned_none : (start : Listing) → start.line ≡ 1 → PieceTurned start 0 start
turned_none start first = record { led = led_nowhere start; counted = omega arith }

pub turned_one :
    {start at : Listing} {turns : ℕ} → PieceTurned start turns at → at.is_open ≡ true → (next : Listing)
    (piece : Bytes) → length piece ≤ 4096 → Fed at piece next → next.line ≤ at.line + length piece + 1 →
    PieceTurned start (turns + 1) next
turned_one {start} {at} turned goes_on next piece short fed few =
    record {
      led = led_on start at next piece turned.led goes_on fed;
      counted = omega (arith, turned.counted);
    }
