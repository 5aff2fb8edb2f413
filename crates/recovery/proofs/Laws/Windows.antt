-- Laws of entries of which none between two addresses comes twice: equations, one more entry at the end, the
-- front of a list, windows joined, and the window that holds every entry. Assumes nothing.
use mathlib.Core.Path.{◌≡◌, refl, sym, ap, ◌∙◌}
use mathlib.Core.Logic.{◌≢◌, ◌⊎◌, inl, inr, ⊎_elim}
use mathlib.Core.Bool.{Bool, true, false, not, ◌&&◌, ◌||◌, or_assoc, or-false, and-true}
use mathlib.Core.List.{List, [], ◌∷◌, ◌++◌, append-nil}
use Prim.Native.Nat.{ℕ, ◌≤◌, ◌<◌}
use native.Mathlib.Omega.{arith}
use lib.Dec.{eqb, leb, ltb}
use borrow.Author.Tests.{ltb-true, leb-true, lt-ltb, le-ltb, le-leb, lt-leb, eq-eqb, ne_eqb}
use Rattle.laws.proofs.Cases.{bool_cases, lt_cases, eq_cases, and_left, and_right, and_both, and_false_left}
use Rattle.laws.proofs.Cases.{and_false_right, or_left}
use Rattle.model.specs.Geometry.{is_one_of}
use Rattle.model.specs.Blocks.{DiskAddress}
use Rattle.recovery_model.specs.Recovery.{unless_zero, are_apart}
use Rattle.recovery_model.proofs.Laws.Steps.{unless_zero-zero, unless_zero_some}
use Rattle.recovery_model.proofs.Laws.Steps.{are_apart-cons}
use Rattle.recovery.specs.Windows.{is_within, are_apart_within}

-- ---- an address between two ----

module _ (low high entry : DiskAddress) where
  pub within_below : entry < low → is_within low high entry ≡ false
  within_below h = and_false_left (ltb entry high) (lt-leb low entry h)

  pub within_past : high ≤ entry → is_within low high entry ≡ false
  within_past h = and_false_right (leb low entry) (le-ltb entry high h)

  pub within_inside : low ≤ entry → entry < high → is_within low high entry ≡ true
  within_inside h k = and_both (le-leb low entry h) (lt-ltb entry high k)

  pub within_low : is_within low high entry ≡ true → low ≤ entry
  within_low e = leb-true low entry (and_left (leb low entry) (ltb entry high) e)

  pub within_high : is_within low high entry ≡ true → entry < high
  within_high e = ltb-true entry high (and_right (leb low entry) (ltb entry high) e)

  pub within_joined :
      (middle : DiskAddress) → low ≤ middle → middle ≤ high →
      is_within low high entry ≡ (is_within low middle entry || is_within middle high entry)
  within_joined middle h k = ⊎_elim below above (lt_cases entry middle)
    where
      below : entry < middle →
          is_within low high entry ≡ (is_within low middle entry || is_within middle high entry)
      below l =
          rw (lt-leb middle entry l, lt-ltb entry middle l, lt-ltb entry high (omega arith))
          (sym (or-false (leb low entry && true)))

      above : middle ≤ entry →
          is_within low high entry ≡ (is_within low middle entry || is_within middle high entry)
      above l = rw (le-leb middle entry l, le-ltb entry middle l, le-leb low entry (omega arith))

-- ---- one of a list ----

is_one_of-append :
    (entry : DiskAddress) (front rest : List DiskAddress) →
    is_one_of entry (front ++ rest) ≡ (is_one_of entry front || is_one_of entry rest)
is_one_of-append entry [] rest = refl
is_one_of-append entry (first ∷ front) rest =
    ap (λ (b : Bool). eqb entry first || b) (is_one_of-append entry front rest)
    ∙ sym (or_assoc (eqb entry first) (is_one_of entry front) (is_one_of entry rest))

-- one more entry at the end, which may be 0
pub is_one_of_end :
    (entry : DiskAddress) (front : List DiskAddress) (last : DiskAddress) → entry ≢ 0 →
    is_one_of entry (front ++ unless_zero last []) ≡ (is_one_of entry front || eqb entry last)
is_one_of_end entry front last some = ⊎_elim none one (eq_cases last 0)
  where
    none : last ≡ 0 → is_one_of entry (front ++ unless_zero last []) ≡ (is_one_of entry front || eqb entry last)
    none e =
        let ne : entry ≢ last = λ z. some (z ∙ e) in
        rw (unless_zero-zero last [] e, ne_eqb entry last ne)
        (ap (is_one_of entry) (append-nil front) ∙ sym (or-false (is_one_of entry front)))

    one : last ≢ 0 → is_one_of entry (front ++ unless_zero last []) ≡ (is_one_of entry front || eqb entry last)
    one ne =
        rw (unless_zero_some last [] ne)
        (is_one_of-append entry front (last ∷ [])
        ∙ ap (λ (b : Bool). is_one_of entry front || b) (or-false (eqb entry last)))

-- ---- none comes twice ----

module _ (low high : DiskAddress) where
  pub are_apart_within_nil : are_apart_within low high [] ≡ true
  unfolding are_apart_within
  are_apart_within_nil = refl

  -- where there is no address between the two
  pub are_apart_within_none :
      high ≤ low → (entries : List DiskAddress) → are_apart_within low high entries ≡ true
  unfolding are_apart_within
  are_apart_within_none h [] = refl
  are_apart_within_none h (entry ∷ later) =
      let outside : is_within low high entry ≡ false =
      ⊎_elim (within_below low high entry) (λ l. within_past low high entry (omega arith))
      (lt_cases entry low) in
      rw outside (are_apart_within_none h later)

  -- ---- one more entry at the end ----

  -- it is the same as the first, or another
  end_same :
      (w o a : Bool) →
      (not (w && (o || (true || false))) && (a && not (w && o))) ≡
      (not (w && o) && a && not (w && (true || o)))
  end_same true true a = refl
  end_same true false true = refl
  end_same true false false = refl
  end_same false o a = refl

  end_other :
      (w o a n : Bool) →
      (not (w && (o || (false || false))) && (a && n)) ≡ (not (w && o) && a && n)
  end_other true true a n = refl
  end_other true false a n = refl
  end_other false o a n = refl

  are_apart_within_snoc :
      (front : List DiskAddress) (last : DiskAddress) →
      are_apart_within low high (front ++ (last ∷ [])) ≡
      (are_apart_within low high front && not (is_within low high last && is_one_of last front))
  unfolding are_apart_within
  are_apart_within_snoc [] last = and-true (not (is_within low high last && false))
  are_apart_within_snoc (first ∷ front) last =
      rw (are_apart_within_snoc front last, is_one_of-append first front (last ∷ []))
      (by (eq_cases first last))
    where
      by : (first ≡ last) ⊎ (first ≢ last) →
          (not (is_within low high first && (is_one_of first front || (eqb first last || false))) &&
          (are_apart_within low high front && not (is_within low high last && is_one_of last front))) ≡
          (not (is_within low high first && is_one_of first front) && are_apart_within low high front &&
          not (is_within low high last && (eqb last first || is_one_of last front)))
      by (inl e) =
          rw (e, eq-eqb last last refl)
          (end_same (is_within low high last) (is_one_of last front) (are_apart_within low high front))
      by (inr ne) =
          rw (ne_eqb first last ne, ne_eqb last first (λ z. ne (sym z)))
          (end_other (is_within low high first) (is_one_of first front) (are_apart_within low high front)
          (not (is_within low high last && is_one_of last front)))

  pub are_apart_within_end :
      0 < low → (front : List DiskAddress) (last : DiskAddress) →
      are_apart_within low high (front ++ unless_zero last []) ≡
      (are_apart_within low high front && not (is_within low high last && is_one_of last front))
  are_apart_within_end h front last = ⊎_elim none one (eq_cases last 0)
    where
      none : last ≡ 0 → are_apart_within low high (front ++ unless_zero last []) ≡
          (are_apart_within low high front && not (is_within low high last && is_one_of last front))
      none e =
          rw (unless_zero-zero last [] e, within_below low high last (omega arith))
          (ap (are_apart_within low high) (append-nil front) ∙ sym (and-true (are_apart_within low high front)))

      one : last ≢ 0 → are_apart_within low high (front ++ unless_zero last []) ≡
          (are_apart_within low high front && not (is_within low high last && is_one_of last front))
      one ne = rw (unless_zero_some last [] ne) (are_apart_within_snoc front last)

  -- ---- where one comes twice ----

  -- it comes twice in every longer list
  pub are_apart_within_front :
      (front rest : List DiskAddress) → are_apart_within low high front ≡ false →
      are_apart_within low high (front ++ rest) ≡ false
  unfolding are_apart_within
  are_apart_within_front [] rest e = absurd (let z : ◌≡◌ {A = ℕ} 0 1 = cc in omega arith)
  are_apart_within_front (first ∷ front) rest e =
      by (bool_cases (is_within low high first && is_one_of first front))
      (are_apart_within_front front rest)
    where
      by : ((is_within low high first && is_one_of first front) ≡ true) ⊎
          ((is_within low high first && is_one_of first front) ≡ false) →
          (are_apart_within low high front ≡ false → are_apart_within low high (front ++ rest) ≡ false) →
          (not (is_within low high first && is_one_of first (front ++ rest)) &&
          are_apart_within low high (front ++ rest)) ≡ false
      by (inl t) later =
          let twice : is_one_of first (front ++ rest) ≡ true =
          is_one_of-append first front rest
          ∙ or_left (is_one_of first rest) (and_right (is_within low high first) (is_one_of first front) t) in
          and_false_left (are_apart_within low high (front ++ rest))
          (ap not (and_both (and_left (is_within low high first) (is_one_of first front) t) twice))
      by (inr t) later =
          and_false_right (not (is_within low high first && is_one_of first (front ++ rest)))
          (later (rw t at e))

  -- and in the whole list
  pub are_apart_not :
      (entries : List DiskAddress) → are_apart_within low high entries ≡ false → are_apart entries ≡ false
  unfolding are_apart_within
  are_apart_not [] e = absurd (let z : ◌≡◌ {A = ℕ} 0 1 = cc in omega arith)
  are_apart_not (entry ∷ later) e =
      are_apart-cons entry later
      ∙ by (bool_cases (is_within low high entry && is_one_of entry later)) (are_apart_not later)
    where
      by : ((is_within low high entry && is_one_of entry later) ≡ true) ⊎
          ((is_within low high entry && is_one_of entry later) ≡ false) →
          (are_apart_within low high later ≡ false → are_apart later ≡ false) →
          (not (is_one_of entry later) && are_apart later) ≡ false
      by (inl t) rest =
          and_false_left (are_apart later)
          (ap not (and_right (is_within low high entry) (is_one_of entry later) t))
      by (inr t) rest = and_false_right (not (is_one_of entry later)) (rest (rw t at e))
