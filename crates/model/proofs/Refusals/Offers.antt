-- Refusals 10 and 11 of an offer and 16: 11 is met exactly where the block is not wholly inside the lent
-- blocks, and 16 exactly where a number that does not wait finds no room. Assumes nothing.
use mathlib.Core.Path.{◌≡◌, refl, sym, ap, ◌∙◌}
use mathlib.Core.Logic.{◌≢◌, ⊎_elim}
use mathlib.Core.Bool.{true, false, not}
use mathlib.Core.List.Memᴰ
use mathlib.Core.List.{List, [], ◌∷◌}
use Prim.Native.Nat.{ℕ}
use lib.Dec.{eqb}
use lib.ListN.{length}
use borrow.Author.Tests.{eqb-true, eqb-false, not-true, not-false}
use Rattle.laws.proofs.Cases.{or_cases, or_false_left, or_false_right, true_is_not_false}
use Rattle.laws.proofs.Decides.{Decides, decides_eq, decides_le, decides_not, decides_same, decides_or}
use Rattle.laws.proofs.Decides.{decides_and}
use Rattle.model.specs.Geometry.{Geometry}
use Rattle.model.specs.Blocks.{Bytes, block_at}
use Rattle.model.specs.Refusals.{hidden_checks, hidden_write_refusal}
use Rattle.model.specs.Line.{Offer, most_offers, line_offer_refusal, is_waiting_in, room_checks}
use Rattle.model.specs.Conditions.{Answers, offer_conditions, NoneOf, room_conditions}
use Rattle.model.proofs.Laws.LentBlocks.{whole_of_inside, inside_of_whole}
use Rattle.model.proofs.Refusals.Answers.{Judges, answers_of_judges}

-- ---- 10 and 11 ----

pub judges_offer :
    (g : Geometry) (blocks : Bytes) (offer : Offer) →
    Judges (hidden_checks g offer.number (length (block_at g.block_size blocks offer.place)))
    (offer_conditions g blocks offer)
unfolding hidden_checks
judges_offer g blocks offer =
    let width = g.block_size in
    let size = length (block_at width blocks offer.place) in (
      refl,
      decides_le g.hidden offer.number,
      λ e. (
        refl,
        decides_not (decides_same (decides_eq size width) (inside_of_whole width blocks offer.place)
            (whole_of_inside width blocks offer.place)),
        λ p. tt,
      ),
    )

pub answers_offer :
    (g : Geometry) (blocks : Bytes) (offer : Offer) →
    Answers (offer_conditions g blocks offer) (line_offer_refusal g blocks offer)
unfolding hidden_write_refusal
answers_offer g blocks offer =
    answers_of_judges (hidden_checks g offer.number (length (block_at g.block_size blocks offer.place)))
    _ (judges_offer g blocks offer)

-- ---- 16 ----

module _ (number : ℕ) where
  none_of_false : (line : List Offer) → is_waiting_in line number ≡ false → NoneOf number line
  unfolding is_waiting_in
  none_of_false [] e offer m = absurd (Memᴰ.not-nil m)
  none_of_false (first ∷ later) e offer m =
      by (none_of_false later (or_false_right (eqb first.number number) (is_waiting_in later number) e))
    where
      by : NoneOf number later → offer.number ≢ number
      by rest = ⊎_elim
          (λ same z.
          eqb-false first.number number
          (or_false_left (eqb first.number number) (is_waiting_in later number) e)
          (ap (λ (o : Offer). o.number) (sym same) ∙ z))
          (λ later-one. rest offer later-one) (Memᴰ.cases_cons m)

  not_none_of_true : (line : List Offer) → is_waiting_in line number ≡ true → NoneOf number line → ⊥
  unfolding is_waiting_in
  not_none_of_true [] e none = true_is_not_false e refl
  not_none_of_true (first ∷ later) e none =
      by (λ p. not_none_of_true later p (λ offer m. none offer (Memᴰ.tail m)))
    where
      by : (is_waiting_in later number ≡ true → ⊥) → ⊥
      by rest =
          ⊎_elim (λ p. none first (Memᴰ.head refl) (eqb-true first.number number p)) rest
          (or_cases (eqb first.number number) (is_waiting_in later number) e)

  decides_none : (line : List Offer) → Decides (not (is_waiting_in line number)) (NoneOf number line)
  decides_none line =
      record {
        holds = λ e. none_of_false line (not-true (is_waiting_in line number) e);
        fails = λ e. not_none_of_true line (not-false (is_waiting_in line number) e);
      }

pub judges_room :
    (line : List Offer) (number room : ℕ) → Judges (room_checks line number room)
    (room_conditions line number room)
judges_room line number room = (
  refl,
  decides_and (decides_none number line)
      (decides_or (decides_le most_offers (length line)) (decides_le room (length line))),
  λ e. tt,
)
