-- Laws of `part` and `over`: lengths, equations, read after write at the same place, before and after it, one
-- element; zeros; and equality of lists of numbers by a test. Assumes nothing.
use mathlib.Core.Path.{◌≡◌, refl, sym, ap, ap₂, ◌∙◌}
use mathlib.Core.Logic.{⊎_elim}
use mathlib.Core.Bool.{Bool, true, false, ◌&&◌}
use mathlib.Core.List.{List, [], ◌∷◌, ◌++◌, append_assoc, append-nil}
use Prim.Native.Nat.{ℕ, zero, suc, ◌+◌, ◌-◌, ◌≤◌, ◌<◌}
use native.Mathlib.Nat.{suc-add, zero-add}
use native.Mathlib.Numerals.{add-one}
use native.Mathlib.Omega.{arith}
use lib.Seq.{ext_get_or, length-take-le, take_at, drop_at, take-append-le, drop-append-add, drop-drop}
use lib.Seq.{take-take, take-nil, get_or-take, get_or-drop, set_split, append_snoc, take_all}
use lib.ListN.{length-replicate, length, get_or, take, drop, set, replicate, length-append, length-take}
use lib.ListN.{length-drop, take-append-drop, drop_of_length-le, get_or-eq_default}
use lib.Dec.{eqb}
use borrow.Author.Tests.{eqb-true}
use Rattle.laws.specs.Lists.{part, over}
use Rattle.laws.proofs.Cases.{lt_cases, and_left, and_right, true_is_not_false}

module _ {A : Type 0} where
  -- ---- part ----

  pub part_is : (from size : ℕ) (xs : List A) → part from size xs ≡ take size (drop from xs)
  unfolding part
  part_is from size xs = refl

  pub length_part : (from size : ℕ) (xs : List A) → from + size ≤ length xs →
      length (part from size xs) ≡ size
  unfolding part
  length_part from size xs h = length-take-le size (drop from xs) (simp length-drop (omega arith))

  drop-take-add : (from size : ℕ) (xs : List A) → drop from (take (from + size) xs) ≡ take size (drop from xs)
  drop-take-add zero size xs = rw zero-add
  drop-take-add (suc from) size [] = rw (suc-add, take-nil)
  drop-take-add (suc from) size (x ∷ xs) = rw suc-add (drop-take-add from size xs)

  -- a part lies in the front that holds it
  part_of_take : (from size : ℕ) (xs : List A) → part from size xs ≡ drop from (take (from + size) xs)
  unfolding part
  part_of_take from size xs = sym (drop-take-add from size xs)

  pub part_part :
      (from size index count : ℕ) (xs : List A) → index + count ≤ size →
      part index count (part from size xs) ≡ part (from + index) count xs
  unfolding part
  part_part from size index count xs h =
      part_of_take index count (part from size xs) ∙ ap (drop index)
      (take-take (index + count) size (drop from xs) h)
      ∙ sym (part_of_take index count (drop from xs)) ∙ ap (take count) (drop-drop index from xs)

  -- of two lists joined: the first, and what lies in the second
  pub part_append_front : (xs ys : List A) → part 0 (length xs) (xs ++ ys) ≡ xs
  unfolding part
  part_append_front xs ys = take_at xs ys (length xs) refl

  pub part_append_rest :
      (xs ys : List A) (from size : ℕ) → part (length xs + from) size (xs ++ ys) ≡ part from size ys
  unfolding part
  part_append_rest xs ys from size = ap (take size) (drop-append-add xs ys from)

  -- ---- over ----

  pub over_is : (from : ℕ) (new old : List A) → over from new old ≡ take from old ++ new ++
      drop (from + length new) old
  unfolding over
  over_is from new old = refl

  module _ (new old : List A) (from : ℕ) (fits : from + length new ≤ length old) where
    length_front : length (take from old) ≡ from
    length_front = length-take-le from old (omega arith)

    pub length_over : length (over from new old) ≡ length old
    unfolding over
    length_over =
        let t : length (take from old) ≡ from = length_front in
        simp (length-append, length-drop) (omega arith)

    -- ---- read after write ----

    pub part_over_same : part from (length new) (over from new old) ≡ new
    unfolding part over
    part_over_same =
        let t : length (take from old) ≡ from = length_front in
        rw (append_assoc, drop_at) (take_at _ _ _ refl)

    -- a part of what was written
    pub part_over_inside : (index count : ℕ) → index + count ≤ length new →
        part (from + index) count (over from new old) ≡ part index count new
    part_over_inside index count h =
        sym (part_part from (length new) index count (over from new old) h)
        ∙ ap (part index count) part_over_same

    take_over_before : (index : ℕ) → index ≤ from → take index (over from new old) ≡ take index old
    unfolding over
    take_over_before index h =
        let t : length (take from old) ≡ from = length_front in
        let l : index ≤ length (take from old) = omega arith in
        rw (append_assoc, take-append-le index (take from old), take-take)

    drop_over_after : (index : ℕ) → from + length new ≤ index →
        drop index (over from new old) ≡ drop index old
    unfolding over
    drop_over_after index h =
        let t : length (take from old) ≡ from = length_front in
        let r : length (take from old ++ new) + (index - (from + length new)) ≡ index =
        simp length-append (omega arith) in
        let q : drop (length (take from old ++ new) + (index - (from + length new))) (over from new old) ≡
        drop (index - (from + length new)) (drop (from + length new) old) =
        drop-append-add (take from old ++ new) (drop (from + length new) old) (index - (from + length new)) in
        let u : from + length new + (index - (from + length new)) ≡ index = omega arith in
        rw r at q ∙ drop-drop (index - (from + length new)) (from + length new) old
        ∙ ap (λ (n : ℕ). drop n old) u

    pub part_over_before : (index count : ℕ) → index + count ≤ from →
        part index count (over from new old) ≡ part index count old
    part_over_before index count h =
        part_of_take index count (over from new old) ∙ rw take_over_before
        (sym (part_of_take index count old))

    pub part_over_after : (index count : ℕ) → from + length new ≤ index →
        part index count (over from new old) ≡ part index count old
    unfolding part
    part_over_after index count h = ap (take count) (drop_over_after index h)

    pub get_d_over_after : (index : ℕ) (d : A) → from + length new ≤ index →
        get_or (over from new old) index d ≡ get_or old index d
    get_d_over_after index d h =
        let e : index + 0 ≡ index = omega arith in
        ap (λ (n : ℕ). get_or (over from new old) n d) (sym e) ∙ sym (get_or-drop index (over from new old) 0 d)
        ∙ ap (λ (ys : List A). get_or ys 0 d) (drop_over_after index h) ∙ get_or-drop index old 0 d
        ∙ ap (λ (n : ℕ). get_or old n d) e

    -- ---- one after another ----

    -- a second list written where the first one ends
    pub over_append :
        (more : List A) → from + length new + length more ≤ length old →
        over (from + length new) more (over from new old) ≡ over from (new ++ more) old
    unfolding over
    over_append more h =
        let t : length (take from old) ≡ from = length_front in
        let p : take (from + length new) (over from new old) ≡ take from old ++ new =
        take_at (take from old ++ new) (drop (from + length new) old) (from + length new)
        (simp length-append (omega arith)) in
        let q : drop (from + length new + length more) (over from new old) ≡
        drop (from + length new + length more) old =
        drop_over_after (from + length new + length more) (omega arith) in
        let e : from + length (new ++ more) ≡ from + length new + length more =
        simp length-append (omega arith) in
        rw (p, q, e) (ap (λ (ys : List A). ys ++ drop (from + length new + length more) old)
        (append_assoc (take from old) new more))

    -- the same place written again
    pub over_again :
        (again : List A) → length again ≡ length new →
        over from again (over from new old) ≡ over from again old
    unfolding over
    over_again again e =
        let p : take from (over from new old) ≡ take from old = take_over_before from (omega arith) in
        let q : drop (from + length again) (over from new old) ≡ drop (from + length again) old =
        drop_over_after (from + length again) (omega arith) in
        rw (p, q)

  -- ---- special cases ----

  -- all that is left after a place
  pub take-drop : (from : ℕ) (xs : List A) → take (length xs - from) (drop from xs) ≡ drop from xs
  take-drop from xs = take_all (length xs - from) (drop from xs) (simp length-drop (omega arith))

  -- the front is what was put there
  pub take_over : (new old : List A) → length new ≤ length old → take (length new) (over 0 new old) ≡ new
  unfolding part
  take_over new old h = part_over_same new old 0 (omega arith)

  pub over_nil : (from : ℕ) (old : List A) → from ≤ length old → over from [] old ≡ old
  unfolding over
  over_nil from old h =
      let e : from + 0 ≡ from = omega arith in
      rw (append-nil (take from old), e) (take-append-drop from old)

  pub over_whole : (new old : List A) → length new ≡ length old → over 0 new old ≡ new
  unfolding over
  over_whole new old e = rw (drop_of_length-le old {i = 0 + length new} (omega arith)) (append-nil new)

  pub over_one : (xs : List A) (index : ℕ) (x : A) → index < length xs →
      over index (x ∷ []) xs ≡ set xs index x
  unfolding over
  over_one xs index x h = rw (add-one, append_snoc) (sym (set_split xs index x h))

-- ---- zeros ----

pub get_d_zeros : (size index : ℕ) → ◌≡◌ {A = ℕ} (get_or (replicate size 0) index 0) 0
get_d_zeros zero index = refl
get_d_zeros (suc size) zero = refl
get_d_zeros (suc size) (suc index) = get_d_zeros size index

-- a part of what is all 0
pub get_d_part_zeros : (from size index : ℕ) (xs : List ℕ) → ((at : ℕ) → get_or xs at 0 ≡ 0) →
    get_or (part from size xs) index 0 ≡ 0
unfolding part
get_d_part_zeros from size index xs h = ⊎_elim inside outside (lt_cases index size)
  where
    inside : index < size → get_or (take size (drop from xs)) index 0 ≡ 0
    inside l = get_or-take size (drop from xs) index 0 l ∙ get_or-drop from xs index 0 ∙ h (from + index)

    outside : size ≤ index → get_or (take size (drop from xs)) index 0 ≡ 0
    outside l =
        get_or-eq_default (take size (drop from xs)) 0 (omega (arith, length-take size (drop from xs)))

pub part_zeros :
    (from size count : ℕ) → from + size ≤ count →
    ◌≡◌ {A = List ℕ} (part from size (replicate count 0)) (replicate size 0)
part_zeros from size count h =
    let zeros : List ℕ = replicate count 0 in
    let l : length (part from size zeros) ≡ size =
    length_part from size zeros (omega (arith, length-replicate {A = ℕ} count 0)) in
    ext_get_or 0 (part from size zeros) (replicate size 0) (l ∙ sym (length-replicate size 0))
    (λ i k. get_d_part_zeros from size i zeros (get_d_zeros count) ∙ sym (get_d_zeros size i))

-- ---- equality by a test ----

unfoldable pub is_same : (xs ys : List ℕ) → Bool
is_same [] [] = true
is_same [] (y ∷ ys) = false
is_same (x ∷ xs) [] = false
is_same (x ∷ xs) (y ∷ ys) = eqb x y && is_same xs ys

pub same_of_is_same : (xs ys : List ℕ) → is_same xs ys ≡ true → xs ≡ ys
unfolding is_same
same_of_is_same [] [] e = refl
same_of_is_same [] (y ∷ ys) e = true_is_not_false e refl
same_of_is_same (x ∷ xs) [] e = true_is_not_false e refl
same_of_is_same (x ∷ xs) (y ∷ ys) e =
    ap₂ {C = List ℕ} (λ (z : ℕ) (zs : List ℕ). z ∷ zs) (eqb-true x y (and_left (eqb x y) (is_same xs ys) e))
    (same_of_is_same xs ys (and_right (eqb x y) (is_same xs ys) e))
