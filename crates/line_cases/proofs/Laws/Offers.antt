-- The offers of a line that is said, and two lines compared, one offer after another. Assumes nothing.
use mathlib.Core.Path.{◌≡◌, refl, sym, ap, ◌∙◌}
use mathlib.Core.Logic.{◌≢◌}
use mathlib.Core.Bool.{Bool, true, false, ◌&&◌, and-true, and-false, and_assoc}
use mathlib.Core.List.{List, [], ◌∷◌}
use Prim.Native.Nat.{ℕ, zero, suc, ◌+◌, ◌≤◌, ◌<◌}
use native.Mathlib.Numerals.{add-one}
use native.Mathlib.Omega.{arith}
use lib.ListN.{length, take, get_or}
use lib.Seq.{take_all}
use Rattle.model.specs.Line.{Offer}
use Rattle.line.specs.declared.offers.Line.{Line}
use Rattle.line.specs.declared.offers.Offer as declared
use Rattle.line.specs.Numbers.{past_offer}
use Rattle.line.specs.Offers.{no_line, pushed, offer_of, offer_in, line_of}
use Rattle.line.proofs.Laws.Offers.{get_d-line_of}
use Rattle.line_cases.specs.Offers.{offer_said, offers_said, same_offer, same_line}

-- ---- the line of a row ----

pub offers_said_none : {line : Line} (said : ℕ) → line ≡ no_line → line ≡ offers_said said 0
unfolding offers_said
offers_said_none said line_is = line_is

-- one offer more
pub offers_said_more :
    {line after : Line} {offer : declared.Offer} (said i : ℕ) → line ≡ offers_said said i →
    offer ≡ offer_said said i → after ≡ pushed line offer → after ≡ offers_said said (i + 1)
unfolding offers_said
offers_said_more said i so_far offer_is more = rw add-one (cc)

-- ---- two lines ----

pub same_line_lengths : (said got : List Offer) → length got ≢ length said → same_line said got ≡ false
unfolding same_line
same_line_lengths [] [] other = absurd (other refl)
same_line_lengths [] (offer ∷ got) other = refl
same_line_lengths (offer ∷ said) [] other = refl
same_line_lengths (offer ∷ said) (next ∷ got) other =
    rw (same_line_lengths said got (λ same. other (ap suc same))) (and-false (same_offer offer next))

same_line_suc :
    (said got : List Offer) (i : ℕ) → i < length said → i < length got →
    same_line (take (suc i) said) (take (suc i) got) ≡
    (same_line (take i said) (take i got) && same_offer (get_or said i past_offer) (get_or got i past_offer))
unfolding same_line
same_line_suc [] got i inside within = absurd (omega arith)
same_line_suc (offer ∷ said) [] i inside within = absurd (omega arith)
same_line_suc (offer ∷ said) (next ∷ got) zero inside within = and-true (same_offer offer next)
same_line_suc (offer ∷ said) (next ∷ got) (suc i) inside within =
    ap (λ (rest : Bool). same_offer offer next && rest)
    (same_line_suc said got i (omega arith) (omega arith)) ∙
    sym (and_assoc (same_offer offer next) (same_line (take i said) (take i got))
    (same_offer (get_or said i past_offer) (get_or got i past_offer)))

-- so many offers are compared
pub record OffersCompared (said got : Line) (most : ℕ) (same : Bool) (i : ℕ) : Type 0 where
  pub within : i ≤ most
  pub compared : same ≡ same_line (take i (line_of said)) (take i (line_of got))

pub compared_none : (said got : Line) (most : ℕ) → OffersCompared said got most true 0
unfolding same_line
compared_none said got most = record { within = omega arith; compared = refl }

module _ (said got : Line) (most : ℕ) {same : Bool} {i : ℕ} (so_far : OffersCompared said got most same i)
    (said-held : most ≡ length (line_of said)) (got-held : most ≡ length (line_of got)) where
  -- one offer more
  pub compared_more :
      {after agrees : Bool} {offer next : declared.Offer} → i < most → offer ≡ offer_in said i →
      next ≡ offer_in got i → agrees ≡ same_offer (offer_of offer) (offer_of next) →
      after ≡ (same && agrees) →
      OffersCompared said got most after (i + 1)
  compared_more {after} {agrees} {offer} {next} more offer_is next-is agrees_is after_is =
      let here : i < length (line_of said) = omega arith in
      let there : i < length (line_of got) = omega arith in
      record {
        within = omega arith;
        compared =
            after_is ∙ rw (so_far.compared, agrees_is, offer_is, next-is)
            (sym
            (ap (λ (n : ℕ). same_line (take n (line_of said)) (take n (line_of got))) (add-one i) ∙
            same_line_suc (line_of said) (line_of got) i here there ∙
            rw (get_d-line_of said i here, get_d-line_of got i there)));
      }

  -- all offers, where the loop ends
  pub compared_all : most ≤ i → same ≡ same_line (line_of said) (line_of got)
  compared_all end =
      so_far.compared ∙
      rw (take_all i (line_of said) (omega arith), take_all i (line_of got) (omega arith))
