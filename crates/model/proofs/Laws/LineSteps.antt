-- Laws of a line of waiting offers, one offer after another: what refuses one, whether a number waits, one
-- that enters, the offers that count once the line has one more, and those that are left of it. Assumes
-- nothing.
use mathlib.Core.Path.{◌≡◌, refl, sym, ap, ◌∙◌}
use mathlib.Core.Logic.{◌≢◌, ◌⊎◌, inl, inr, ⊎_elim}
use mathlib.Core.Bool.{Bool, true, false, cond, ◌||◌}
use mathlib.Core.List.{List, [], ◌∷◌, ◌++◌, append_assoc, append-nil}
use Prim.Native.Nat.{ℕ, zero, suc, ◌+◌, ◌*◌, ◌≤◌, ◌<◌}
use native.Mathlib.Omega.{arith}
use lib.Dec.{eqb}
use lib.ListN.{length, take, get_or, set}
use borrow.Author.Tests.{eqb-true, eqb-false, eq-eqb, ne_eqb}
use Rattle.laws.proofs.Cases.{bool_cases, cond_true, cond_false, true_is_not_false, eq_cases, lt_cases}
use Rattle.laws.proofs.Cases.{or_neither, or_false_left, or_false_right, or_left, or_right, or_cases}
use Rattle.model.specs.Geometry.{Geometry}
use Rattle.model.specs.Blocks.{Bytes}
use Rattle.model.specs.Refusals.{hidden_write_refusal}
use Rattle.model.specs.Line.{Offer, line_offer_refusal, without, first_offers, good_offers, turns}
use Rattle.model.specs.Line.{left_after, is_waiting_in, with_offer}
use Rattle.model.proofs.Laws.LentBlocks.{whole_of_inside, inside_of_whole}
use Rattle.model.proofs.Laws.CallChecks.{hidden_number_refused, hidden_size_refused}
use Rattle.model.proofs.Laws.CallChecks.{hidden_number_passes}

-- ---- 10 and 11 of an offer ----

module _ (g : Geometry) (blocks : Bytes) (offer : Offer) where
  pub line_offer_number_refused : g.hidden ≤ offer.number → 10 ≡ line_offer_refusal g blocks offer
  unfolding hidden_write_refusal
  line_offer_number_refused h = hidden_number_refused g offer.number _ h

  module _ (number_inside : offer.number < g.hidden) where
    pub line_offer_place_refused : length blocks < (offer.place + 1) * g.block_size →
        11 ≡ line_offer_refusal g blocks offer
    unfolding hidden_write_refusal
    line_offer_place_refused h =
        hidden_size_refused g offer.number _ number_inside
        (λ whole. omega (arith, inside_of_whole g.block_size blocks offer.place whole))

    pub line_offer_passes : (offer.place + 1) * g.block_size ≤ length blocks →
        0 ≡ line_offer_refusal g blocks offer
    unfolding hidden_write_refusal
    line_offer_passes h =
        hidden_number_passes g offer.number _ number_inside
        (whole_of_inside g.block_size blocks offer.place h)

  -- a good one lies wholly inside
  pub line_offer_inside : line_offer_refusal g blocks offer ≡ 0 →
      (offer.place + 1) * g.block_size ≤ length blocks
  line_offer_inside good =
      ⊎_elim
      (λ low. ⊎_elim
      (λ short. absurd (omega (arith, line_offer_place_refused low short)))
      (λ inside. inside)
      (lt_cases (length blocks) ((offer.place + 1) * g.block_size)))
      (λ high. absurd (omega (arith, line_offer_number_refused high)))
      (lt_cases offer.number g.hidden)

-- ---- whether a number waits ----

pub is_waiting_in_nil : (number : ℕ) → is_waiting_in [] number ≡ false
unfolding is_waiting_in
is_waiting_in_nil number = refl

pub is_waiting_in-cons :
    (offer : Offer) (later : List Offer) (number : ℕ) →
    is_waiting_in (offer ∷ later) number ≡ (eqb offer.number number || is_waiting_in later number)
unfolding is_waiting_in
is_waiting_in-cons offer later number = refl

pub is_waiting_in_snoc_other :
    (xs : List Offer) (offer : Offer) (number : ℕ) → is_waiting_in xs number ≡ false → offer.number ≢ number →
    is_waiting_in (xs ++ (offer ∷ [])) number ≡ false
unfolding is_waiting_in
is_waiting_in_snoc_other [] offer number absent other = or_neither (ne_eqb offer.number number other) refl
is_waiting_in_snoc_other (first ∷ xs) offer number absent other =
    or_neither (or_false_left (eqb first.number number) (is_waiting_in xs number) absent)
    (is_waiting_in_snoc_other xs offer number
    (or_false_right (eqb first.number number) (is_waiting_in xs number) absent) other)

pub is_waiting_in_at :
    (xs : List Offer) (i : ℕ) (past : Offer) (number : ℕ) → i < length xs → (get_or xs i past).number ≡ number →
    is_waiting_in xs number ≡ true
unfolding is_waiting_in
is_waiting_in_at [] i past number inside e = absurd (omega arith)
is_waiting_in_at (offer ∷ xs) zero past number inside e =
    or_left (is_waiting_in xs number) (eq-eqb offer.number number e)
is_waiting_in_at (offer ∷ xs) (suc i) past number inside e =
    or_right (eqb offer.number number) (is_waiting_in_at xs i past number (omega arith) e)

-- a number that does not wait is not the first offer's, and does not wait behind it
module _ (number : ℕ) (offer : Offer) (later : List Offer)
    (absent : is_waiting_in (offer ∷ later) number ≡ false) where
  pub head_other : eqb offer.number number ≡ false
  unfolding is_waiting_in
  head_other = or_false_left (eqb offer.number number) (is_waiting_in later number) absent

  pub rest_none : is_waiting_in later number ≡ false
  unfolding is_waiting_in
  rest_none = or_false_right (eqb offer.number number) (is_waiting_in later number) absent

-- ---- an offer that enters ----

module _ (offer : Offer) where
  pub with_offer_absent :
      (xs : List Offer) → is_waiting_in xs offer.number ≡ false → with_offer offer xs ≡ xs ++ (offer ∷ [])
  unfolding with_offer
  with_offer_absent [] absent = refl
  with_offer_absent (first ∷ xs) absent =
      cond_false (offer ∷ xs) _ (head_other offer.number first xs absent)
      ∙ ap (λ (later : List Offer). first ∷ later)
      (with_offer_absent xs (rest_none offer.number first xs absent))

  pub with_offer_first :
      (xs : List Offer) (i : ℕ) (past : Offer) → i < length xs →
      is_waiting_in (take i xs) offer.number ≡ false → (get_or xs i past).number ≡ offer.number →
      with_offer offer xs ≡ set xs i offer
  unfolding with_offer
  with_offer_first [] i past inside absent e = absurd (omega arith)
  with_offer_first (first ∷ xs) zero past inside absent e =
      cond_true (offer ∷ xs) _ (eq-eqb first.number offer.number e)
  with_offer_first (first ∷ xs) (suc i) past inside absent e =
      cond_false (offer ∷ xs) _ (head_other offer.number first (take i xs) absent)
      ∙ ap (λ (later : List Offer). first ∷ later)
      (with_offer_first xs i past (omega arith) (rest_none offer.number first (take i xs) absent) e)

  -- a waiting number's offer takes its place
  pub length-with_offer_known :
      (xs : List Offer) → is_waiting_in xs offer.number ≡ true → length (with_offer offer xs) ≡ length xs
  unfolding with_offer is_waiting_in
  length-with_offer_known [] waits = true_is_not_false waits refl
  length-with_offer_known (first ∷ xs) waits =
      by (eqb first.number offer.number) waits (length-with_offer_known xs)
    where
      by : (same : Bool) → (same || is_waiting_in xs offer.number) ≡ true →
          (is_waiting_in xs offer.number ≡ true → length (with_offer offer xs) ≡ length xs) →
          length (cond same (offer ∷ xs) (first ∷ with_offer offer xs)) ≡ suc (length xs)
      by true waits later = refl
      by false waits later = ap suc (later waits)

-- ---- the offers that count, with one more at the end ----

pub without-append :
    (number : ℕ) (xs ys : List Offer) → without number (xs ++ ys) ≡ without number xs ++ without number ys
unfolding without
without-append number [] ys = refl
without-append number (offer ∷ xs) ys =
    rw (without-append number xs ys)
    (sym
    (append_assoc (cond (eqb offer.number number) [] (offer ∷ [])) (without number xs)
    (without number ys)))

without_one_same : (number : ℕ) (offer : Offer) → offer.number ≡ number → without number (offer ∷ []) ≡ []
unfolding without
without_one_same number offer e = rw (eq-eqb offer.number number e)

without_one_other :
    (number : ℕ) (offer : Offer) → offer.number ≢ number → without number (offer ∷ []) ≡ offer ∷ []
unfolding without
without_one_other number offer f = rw (ne_eqb offer.number number f)

first_offers_snoc_new :
    (xs : List Offer) (offer : Offer) → is_waiting_in xs offer.number ≡ false →
    first_offers (xs ++ (offer ∷ [])) ≡ first_offers xs ++ (offer ∷ [])
unfolding first_offers without
first_offers_snoc_new [] offer absent = refl
first_offers_snoc_new (first ∷ xs) offer absent =
    ap (λ (later : List Offer). first ∷ without first.number later)
    (first_offers_snoc_new xs offer (rest_none offer.number first xs absent))
    ∙ ap (λ (later : List Offer). first ∷ later)
    (without-append first.number (first_offers xs) (offer ∷ [])
    ∙ ap (λ (last : List Offer). without first.number (first_offers xs) ++ last)
    (without_one_other first.number offer
    (λ e. eqb-false _ _ (head_other offer.number first xs absent) (sym e))))

first_offers_snoc_again :
    (xs : List Offer) (offer : Offer) → is_waiting_in xs offer.number ≡ true →
    first_offers (xs ++ (offer ∷ [])) ≡ first_offers xs
unfolding first_offers is_waiting_in
first_offers_snoc_again [] offer waits = true_is_not_false waits refl
first_offers_snoc_again (first ∷ xs) offer waits =
    ap (λ (later : List Offer). first ∷ later)
    (by (bool_cases (is_waiting_in xs offer.number)) (first_offers_snoc_again xs offer))
  where
    by : (is_waiting_in xs offer.number ≡ true) ⊎ (is_waiting_in xs offer.number ≡ false) →
        (is_waiting_in xs offer.number ≡ true → first_offers (xs ++ (offer ∷ [])) ≡ first_offers xs) →
        without first.number (first_offers (xs ++ (offer ∷ []))) ≡ without first.number (first_offers xs)
    by (inl again) later = ap (without first.number) (later again)
    by (inr absent) later =
        let first_is : offer.number ≡ first.number =
        sym
        (⊎_elim (eqb-true first.number offer.number) (λ w. true_is_not_false w absent)
        (or_cases (eqb first.number offer.number) (is_waiting_in xs offer.number) waits)) in
        ap (without first.number) (first_offers_snoc_new xs offer absent)
        ∙ without-append first.number (first_offers xs) (offer ∷ [])
        ∙ ap (λ (last : List Offer). without first.number (first_offers xs) ++ last)
        (without_one_same first.number offer first_is)
        ∙ append-nil (without first.number (first_offers xs))

module _ (g : Geometry) (blocks : Bytes) where
  good_offers-append :
      (xs ys : List Offer) → good_offers g blocks (xs ++ ys) ≡ good_offers g blocks xs ++ good_offers g blocks ys
  unfolding good_offers
  good_offers-append [] ys = refl
  good_offers-append (offer ∷ xs) ys =
      rw (good_offers-append xs ys)
      (sym
      (append_assoc (cond (eqb (line_offer_refusal g blocks offer) 0) (offer ∷ []) [])
      (good_offers g blocks xs) (good_offers g blocks ys)))

  pub turns_nil : turns g blocks [] ≡ []
  unfolding good_offers first_offers
  turns_nil = refl

  module _ (xs : List Offer) (offer : Offer) where
    pub turns_snoc_again :
        is_waiting_in xs offer.number ≡ true → turns g blocks (xs ++ (offer ∷ [])) ≡ turns g blocks xs
    turns_snoc_again again = ap (good_offers g blocks) (first_offers_snoc_again xs offer again)

    module _ (absent : is_waiting_in xs offer.number ≡ false) where
      turns_snoc_new :
          turns g blocks (xs ++ (offer ∷ [])) ≡ turns g blocks xs ++ good_offers g blocks (offer ∷ [])
      turns_snoc_new =
          ap (good_offers g blocks) (first_offers_snoc_new xs offer absent)
          ∙ good_offers-append (first_offers xs) (offer ∷ [])

      pub turns_snoc_good :
          line_offer_refusal g blocks offer ≡ 0 →
          turns g blocks (xs ++ (offer ∷ [])) ≡ turns g blocks xs ++ (offer ∷ [])
      unfolding good_offers
      turns_snoc_good e =
          turns_snoc_new
          ∙ ap (λ (last : List Offer). turns g blocks xs ++ (last ++ []))
          (cond_true (offer ∷ []) [] (eq-eqb _ 0 e))

      pub turns_snoc_bad :
          line_offer_refusal g blocks offer ≢ 0 → turns g blocks (xs ++ (offer ∷ [])) ≡ turns g blocks xs
      unfolding good_offers
      turns_snoc_bad f =
          turns_snoc_new
          ∙ ap (λ (last : List Offer). turns g blocks xs ++ (last ++ []))
          (cond_false (offer ∷ []) [] (ne_eqb _ 0 f))
          ∙ append-nil (turns g blocks xs)

-- ---- what is left, with one more at the end ----

pub left_after_none : (line : List Offer) → left_after [] line ≡ line
unfolding left_after
left_after_none line = refl

pub left_after_nil : (placed : List Offer) → left_after placed [] ≡ []
unfolding left_after without
left_after_nil [] = refl
left_after_nil (offer ∷ placed) = left_after_nil placed

pub left_after_snoc_stays :
    (placed xs : List Offer) (offer : Offer) → is_waiting_in placed offer.number ≡ false →
    left_after placed (xs ++ (offer ∷ [])) ≡ left_after placed xs ++ (offer ∷ [])
unfolding left_after
left_after_snoc_stays [] xs offer absent = refl
left_after_snoc_stays (first ∷ placed) xs offer absent =
    ap (left_after placed)
    (without-append first.number xs (offer ∷ [])
    ∙ ap (λ (last : List Offer). without first.number xs ++ last)
    (without_one_other first.number offer
    (λ e. eqb-false _ _ (head_other offer.number first placed absent) (sym e))))
    ∙ left_after_snoc_stays placed (without first.number xs) offer
    (rest_none offer.number first placed absent)

pub left_after_snoc_leaves :
    (placed xs : List Offer) (offer : Offer) → is_waiting_in placed offer.number ≡ true →
    left_after placed (xs ++ (offer ∷ [])) ≡ left_after placed xs
unfolding left_after is_waiting_in
left_after_snoc_leaves [] xs offer waits = true_is_not_false waits refl
left_after_snoc_leaves (first ∷ placed) xs offer waits =
    ap (left_after placed) (without-append first.number xs (offer ∷ []))
    ∙ by (eq_cases offer.number first.number) (left_after_snoc_leaves placed)
  where
    by : (offer.number ≡ first.number) ⊎ (offer.number ≢ first.number) →
        ((ys : List Offer) (one : Offer) → is_waiting_in placed one.number ≡ true →
        left_after placed (ys ++ (one ∷ [])) ≡ left_after placed ys) →
        left_after placed (without first.number xs ++ without first.number (offer ∷ [])) ≡
        left_after placed (without first.number xs)
    by (inl e) later =
        ap (left_after placed)
        (ap (λ (last : List Offer). without first.number xs ++ last)
        (without_one_same first.number offer e)
        ∙ append-nil (without first.number xs))
    by (inr f) later =
        ap (λ (last : List Offer). left_after placed (without first.number xs ++ last))
        (without_one_other first.number offer f)
        ∙ later (without first.number xs) offer
        (⊎_elim (λ t. absurd (f (sym (eqb-true first.number offer.number t)))) (λ w. w)
        (or_cases (eqb first.number offer.number) (is_waiting_in placed offer.number) waits))
