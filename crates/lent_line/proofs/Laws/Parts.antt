-- Laws of a lent line's front: one offer more that is loaded, and a front that is saved. Assumes nothing.
use mathlib.Core.Path.{◌≡◌, refl, sym, ap, ◌∙◌}
use mathlib.Core.List.{List, [], ◌∷◌, ◌++◌}
use Prim.Native.Nat.{ℕ, ◌+◌, ◌≤◌, ◌<◌}
use native.Mathlib.Numerals.{add-one}
use native.Mathlib.Omega.{arith}
use lib.ListN.{length, get_or, take, drop}
use lib.Seq.{take-suc, take_all, length-take-le}
use Rattle.laws.specs.Lists.{over}
use Rattle.laws.proofs.Lists.{over_is}
use Rattle.line.specs.declared.offers.Offer.{Offer}
use Rattle.line.specs.declared.offers.Line.{Line}
use Rattle.line.specs.Offers.{no_offer, pushed}
use Rattle.lent_line.specs.Lent.{pushed_all}

-- ---- loading ----

pushed_all_snoc :
    (offers : List Offer) (offer : Offer) (line : Line) →
    pushed_all (offers ++ (offer ∷ [])) line ≡ pushed (pushed_all offers line) offer
unfolding pushed_all
pushed_all_snoc [] offer line = refl
pushed_all_snoc (first ∷ later) offer line = pushed_all_snoc later offer (pushed line first)

module _ (offers : List Offer) (line : Line) where
  pub pushed_all_none : line ≡ pushed_all (take 0 offers) line
  unfolding pushed_all
  pushed_all_none = refl

  pub pushed_all_more :
      (i : ℕ) → i < length offers →
      pushed (pushed_all (take i offers) line) (get_or offers i no_offer) ≡
      pushed_all (take (i + 1) offers) line
  pushed_all_more i inside =
      rw (add-one, take-suc offers i no_offer inside)
      (sym (pushed_all_snoc (take i offers) (get_or offers i no_offer) line))

  pub pushed_all_whole :
      (i : ℕ) → length offers ≤ i → pushed_all (take i offers) line ≡ pushed_all offers line
  pushed_all_whole i past = ap (λ (some : List Offer). pushed_all some line) (take_all i offers past)

-- ---- saving ----

pub front_over :
    (offers lent : List Offer) (most : ℕ) → most ≤ length offers →
    take most offers ++ drop most lent ≡ over 0 (take most offers) lent
front_over offers lent most enough =
    let long : 0 + length (take most offers) ≡ most = omega (arith, length-take-le most offers enough) in
    sym (over_is 0 (take most offers) lent ∙ ap (λ (n : ℕ). take most offers ++ drop n lent) long)
