-- Laws of offers that leave a line: what is left of the offers passed, and of these with one offer more.
-- Assumes nothing.
use mathlib.Core.Path.{◌≡◌, refl, sym, ap, ◌∙◌}
use mathlib.Core.Bool.{true, false}
use mathlib.Core.List.{List, [], ◌∷◌, ◌++◌}
use Prim.Native.Nat.{ℕ, ◌+◌, ◌≤◌, ◌<◌}
use native.Mathlib.Omega.{arith}
use lib.ListN.{length, take, get_or}
use lib.Seq.{take_all}
use Rattle.model.specs.Line as model
use Rattle.model.proofs.Laws.LineSteps.{left_after_none, left_after_nil}
use Rattle.model.proofs.Laws.LineSteps.{left_after_snoc_stays, left_after_snoc_leaves}
use Rattle.line.specs.declared.offers.Offer.{Offer}
use Rattle.line.specs.declared.offers.Line.{Line}
use Rattle.line.specs.Offers.{offer_of, offers_of, line_of, no_offer, no_line, pushed}
use Rattle.line.proofs.Laws.Offers.{take-offers_of_more, length-pushed, pushed_room, line_of-pushed_room}
use Rattle.line.proofs.Laws.Runs.{offers_of-length}

-- none is gone
pub left_all :
    (line : List model.Offer) (gone : List Offer) → length gone ≡ 0 →
    line ≡ model.left_after (offers_of gone) line
unfolding offers_of
left_all line [] e = sym (left_after_none line)
left_all line (offer ∷ gone) e = absurd (omega arith)

-- what is left of the offers passed
pub record Leaving (offers gone : List Offer) (left : Line) (i : ℕ) : Type 0 where
  pub few : left.waiting ≤ i
  pub whole : length left.offers ≡ 16
  pub left_so_far : line_of left ≡ model.left_after (offers_of gone) (take i (offers_of offers))

pub leaving_start : (offers gone : List Offer) → Leaving offers gone no_line 0
leaving_start offers gone =
    record { few = omega arith; whole = refl; left_so_far = sym (left_after_nil (offers_of gone)) }

pub leaving_end :
    (offers gone : List Offer) (left : Line) → Leaving offers gone left (length offers) →
    line_of left ≡ model.left_after (offers_of gone) (offers_of offers)
leaving_end offers gone left inv =
    inv.left_so_far
    ∙ ap (model.left_after (offers_of gone))
    (take_all (length offers) (offers_of offers) (omega (arith, offers_of-length offers)))

module _ (offers gone : List Offer) (left : Line) (i : ℕ) (inv : Leaving offers gone left i)
    (inside : i < length offers) where
  abbrev offer : Offer
  offer = get_or offers i no_offer

  pub leaving_leaves : true ≡ model.is_waiting_in (offers_of gone) offer.number.0 →
      Leaving offers gone left (i + 1)
  leaving_leaves is-gone =
      record {
        few = omega (arith, inv.few);
        whole = inv.whole;
        left_so_far =
            inv.left_so_far
            ∙ sym (left_after_snoc_leaves (offers_of gone) (take i (offers_of offers)) (offer_of offer)
            (sym is-gone))
            ∙ ap (model.left_after (offers_of gone)) (sym (take-offers_of_more offers i inside));
      }

  pub leaving_stays : length offers ≤ 16 → false ≡ model.is_waiting_in (offers_of gone) offer.number.0 →
      Leaving offers gone (pushed left offer) (i + 1)
  leaving_stays most stays =
      let room : left.waiting < 16 = omega (arith, inv.few) in
      record {
        few = omega (arith, inv.few, ap (λ (that : Line). that.waiting) (pushed_room left offer room));
        whole = length-pushed left offer inv.whole;
        left_so_far =
            line_of-pushed_room left offer inv.whole room
            ∙ ap (λ (xs : List model.Offer). xs ++ (offer_of offer ∷ [])) inv.left_so_far
            ∙ sym (left_after_snoc_stays (offers_of gone) (take i (offers_of offers)) (offer_of offer)
            (sym stays))
            ∙ ap (model.left_after (offers_of gone)) (sym (take-offers_of_more offers i inside));
      }
