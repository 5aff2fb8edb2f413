-- Laws of a line's offers: one pushed, how many are handed over, the one at an index, one that is set.
-- Assumes nothing.
use mathlib.Core.Path.{◌≡◌, refl, sym, ap, ◌∙◌}
use mathlib.Core.Logic.{⊎_elim}
use mathlib.Core.List.{List, [], ◌∷◌, ◌++◌}
use Prim.Native.Nat.{ℕ, zero, suc, ◌+◌, ◌≤◌, ◌<◌, min}
use native.Mathlib.Omega.{arith}
use native.Mathlib.Numerals.{add-one}
use lib.Dec.{ltb}
use lib.ListN.{length, take, get_or, set, length-take, length-set, length-append}
use lib.Seq.{get_or-take, take_all, take-suc, take-set-lt, take-suc-set, take-append-le}
use borrow.Author.Tests.{lt-ltb, le-ltb}
use Rattle.laws.proofs.Cases.{cond_true, cond_false, cond_cases, lt_cases}
use Rattle.line.specs.declared.offers.Offer.{Offer}
use Rattle.line.specs.declared.offers.Line.{Line}
use Rattle.model.specs.Line as model
use Rattle.line.specs.Offers.{offer_of, offers_of, line_of, no_offer, pushed, offer_in}
use Rattle.line.specs.Numbers.{past_offer}
use Rattle.line.proofs.Laws.Runs.{offers_of-length, offers_of-take, take_of-take}

-- ---- one pushed ----

pub pushed_room :
    (line : Line) (offer : Offer) → line.waiting < 16 →
    pushed line offer ≡
    record { offers = set line.offers line.waiting offer; waiting = line.waiting + 1 }
unfolding pushed
pushed_room line offer room = cond_true _ line (lt-ltb line.waiting 16 room)

pub pushed_full : (line : Line) (offer : Offer) → 16 ≤ line.waiting → pushed line offer ≡ line
unfolding pushed
pushed_full line offer full = cond_false _ line (le-ltb line.waiting 16 full)

-- ---- what is handed over ----

pub get_or-offers_of :
    (offers : List Offer) (i : ℕ) (past : Offer) →
    get_or (offers_of offers) i (offer_of past) ≡ offer_of (get_or offers i past)
unfolding offers_of
get_or-offers_of [] i past = refl
get_or-offers_of (offer ∷ later) zero past = refl
get_or-offers_of (offer ∷ later) (suc i) past = get_or-offers_of later i past

-- the first so many, and the next one
pub take-offers_of_more :
    (offers : List Offer) (i : ℕ) → i < length offers →
    take (i + 1) (offers_of offers) ≡
    take i (offers_of offers) ++ (offer_of (get_or offers i no_offer) ∷ [])
take-offers_of_more offers i inside =
    let low : i < length (offers_of offers) = omega (arith, offers_of-length offers, inside) in
    rw add-one (take-suc (offers_of offers) i past_offer low)
    ∙ ap (λ (next : model.Offer). take i (offers_of offers) ++ (next ∷ []))
    (get_or-offers_of offers i no_offer)

module _ (line : Line) where
  module _ (whole : length line.offers ≡ 16) where
    pub length-line_of : min line.waiting 16 ≡ length (line_of line)
    length-line_of = simp (length-take, length-take, offers_of-length) (omega arith)

    pub offers_of_waiting : offers_of (take (min line.waiting 16) line.offers) ≡ line_of line
    offers_of_waiting =
        offers_of-take (min line.waiting 16) line.offers
        ∙ sym (take_of-take (offers_of line.offers) line.waiting 16)

  pub get_d-line_of :
      (i : ℕ) → i < length (line_of line) → get_or (line_of line) i past_offer ≡ offer_of (offer_in line i)
  get_d-line_of i inside =
      let xs = offers_of line.offers in
      let low : i < line.waiting = omega (arith, length-take line.waiting (take 16 xs)) in
      let most : i < 16 = omega (arith, length-take line.waiting (take 16 xs), length-take 16 xs) in
      get_or-take line.waiting (take 16 xs) i past_offer low ∙ get_or-take 16 xs i past_offer most
      ∙ get_or-offers_of line.offers i no_offer

  pub length-line_of_le : length (line_of line) ≤ 16
  length-line_of_le = simp (length-take, length-take, offers_of-length) (omega arith)

-- at most 16 wait
pub offers_few : (offers : List Offer) (line : Line) → offers_of offers ≡ line_of line → length offers ≤ 16
offers_few offers line same =
    omega (arith, offers_of-length offers, ap (length {A = model.Offer}) same, length-line_of_le line)

-- ---- an offer set, and one pushed ----

offers_of-set :
    (offers : List Offer) (i : ℕ) (offer : Offer) →
    offers_of (set offers i offer) ≡ set (offers_of offers) i (offer_of offer)
unfolding offers_of
offers_of-set [] i offer = refl
offers_of-set (first ∷ later) zero offer = refl
offers_of-set (first ∷ later) (suc i) offer =
    ap (λ (rest : List model.Offer). offer_of first ∷ rest) (offers_of-set later i offer)

module _ (line : Line) (offer : Offer) where
  pub line_of-set :
      (i : ℕ) → i < length (line_of line) →
      line_of (record { offers = set line.offers i offer; waiting = line.waiting }) ≡
      set (line_of line) i (offer_of offer)
  line_of-set i inside =
      let xs = offers_of line.offers in
      let low : i < line.waiting = omega (arith, length-take line.waiting (take 16 xs)) in
      let most : i < 16 = omega (arith, length-take line.waiting (take 16 xs), length-take 16 xs) in
      ap (λ (ys : List model.Offer). take line.waiting (take 16 ys)) (offers_of-set line.offers i offer)
      ∙ ap (take line.waiting) (take-set-lt 16 xs i (offer_of offer) most)
      ∙ take-set-lt line.waiting (take 16 xs) i (offer_of offer) low

  module _ (whole : length line.offers ≡ 16) where
    pub length-pushed : length (pushed line offer).offers ≡ 16
    unfolding pushed
    length-pushed =
        cond_cases (λ (that : Line). length that.offers ≡ 16) (ltb line.waiting 16)
        (λ room. length-set line.offers line.waiting offer ∙ whole) (λ full. whole)

    pub line_of-pushed_room :
        line.waiting < 16 → line_of (pushed line offer) ≡ line_of line ++ (offer_of offer ∷ [])
    line_of-pushed_room room =
        let xs = offers_of line.offers in
        let long : length xs ≡ 16 = offers_of-length line.offers ∙ whole in
        let all : take 16 xs ≡ xs = take_all 16 xs (omega arith) in
        let new = set xs line.waiting (offer_of offer) in
        let new-all : take 16 new ≡ new = take_all 16 new (simp length-set (omega arith)) in
        ap line_of (pushed_room line offer room)
        ∙ ap (λ (ys : List model.Offer). take (line.waiting + 1) (take 16 ys))
        (offers_of-set line.offers line.waiting offer)
        ∙ ap (take (line.waiting + 1)) new-all
        ∙ rw add-one (take-suc-set xs line.waiting (offer_of offer) (omega arith))
        ∙ ap (λ (ys : List model.Offer). take line.waiting ys ++ (offer_of offer ∷ [])) (sym all)

    pub line_of-pushed : line_of (pushed line offer) ≡ take 16 (line_of line ++ (offer_of offer ∷ []))
    line_of-pushed = ⊎_elim room full (lt_cases line.waiting 16)
      where
        room : line.waiting < 16 →
            line_of (pushed line offer) ≡ take 16 (line_of line ++ (offer_of offer ∷ []))
        room h =
            line_of-pushed_room h
            ∙ sym (take_all 16 (line_of line ++ (offer_of offer ∷ []))
            (simp length-append (omega (arith, length-line_of line whole))))

        full : 16 ≤ line.waiting →
            line_of (pushed line offer) ≡ take 16 (line_of line ++ (offer_of offer ∷ []))
        full h =
            let long = length-line_of line whole in
            ap line_of (pushed_full line offer h) ∙ sym (take_all 16 (line_of line) (omega arith))
            ∙ sym (take-append-le 16 (line_of line) (offer_of offer ∷ []) (omega arith))
