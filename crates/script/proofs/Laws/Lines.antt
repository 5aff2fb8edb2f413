-- Laws of a line: where its first space stands, the fields that a loop reads, and what the fields make of the
-- line. Assumes nothing.
use mathlib.Core.Path.{◌≡◌, refl, sym, ap, ◌∙◌}
use mathlib.Core.Logic.{◌≢◌, ◌⊎◌, inl, inr, ⊎_elim}
use mathlib.Core.Bool.{true, false, cond, ◌&&◌, and-true}
use mathlib.Core.List.{[], ◌∷◌}
use Prim.Native.Nat.{ℕ, zero, suc, ◌+◌, ◌≤◌, ◌<◌}
use native.Mathlib.Omega.{arith}
use lib.Dec.{eqb, ltb, leb}
use lib.ListN.{length, get_or, take, drop, drop_of_length-le}
use lib.Seq.{take-nil, drop-nil}
use borrow.Author.Tests.{eq-eqb, ne_eqb, lt-ltb, le-ltb, le-leb, lt-leb}
use lib.Pointwise.{pointwise}
use Rattle.laws.proofs.Cases.{bool_cases, lt_cases, and_both, and_false_right, cond_true, cond_false}
use Rattle.script.specs.Texts.{Text, space, dash, is_digits, value_of_digits}
use Rattle.script.specs.Lines.{before_space, after_space, is_dash, is_number, Field, number, absent}
use Rattle.script.specs.Lines.{other, field_in, bad, line_from, line_in}

-- ---- the first space ----

-- the first space stands here, or the line ends here
pub record Split (bytes : Text) (at : ℕ) : Type 0 where
  pub inside : at ≤ length bytes
  pub before : take at bytes ≡ before_space bytes
  pub after : drop (at + 1) bytes ≡ after_space bytes

pub split_at_first :
    (bytes : Text) (at : ℕ) → at ≤ length bytes →
    ((index : ℕ) → index < at → get_or bytes index 0 ≢ space) →
    (at < length bytes → get_or bytes at 0 ≡ space) → Split bytes at
unfolding before_space after_space
split_at_first [] at h none_before here =
    record { inside = h; before = take-nil at; after = drop-nil (at + 1) }
split_at_first (byte ∷ bytes) zero h none_before here =
    let e : eqb byte space ≡ true = eq-eqb byte space (here (omega arith)) in
    record { inside = h; before = rw e; after = rw e }
split_at_first (byte ∷ bytes) (suc at) h none_before here =
    let e : eqb byte space ≡ false = ne_eqb byte space (none_before 0 (omega arith)) in
    let later : Split bytes at =
    split_at_first bytes at (omega arith) (λ index l. none_before (suc index) (omega arith))
    (λ l. here (omega arith)) in
    let n : suc at + 1 ≡ suc (at + 1) = omega arith in
    record {
      inside = h;
      before = rw e (ap (λ (xs : Text). byte ∷ xs) later.before);
      after = rw (e, n) later.after;
    }

-- ---- fields ----

pub is_dash_equal : (bytes : Text) → is_dash bytes ≡ pointwise eqb bytes (dash ∷ [])
unfolding is_dash
is_dash_equal [] = refl
is_dash_equal (byte ∷ []) = sym (and-true (eqb byte dash))
is_dash_equal (byte ∷ next ∷ bytes) = sym (and_false_right (eqb byte dash) refl)

is_dash_other : (bytes : Text) → length bytes ≢ 1 → is_dash bytes ≡ false
unfolding is_dash
is_dash_other [] ne = refl
is_dash_other (byte ∷ []) ne = absurd (ne refl)
is_dash_other (byte ∷ next ∷ bytes) ne = refl

pub is_number_empty : (bytes : Text) → length bytes ≡ 0 → is_number bytes ≡ false
is_number_empty bytes e = rw (le-ltb 0 (length bytes) (omega arith))

pub is_number_long : (bytes : Text) → 9 < length bytes → is_number bytes ≡ false
is_number_long bytes h = rw (lt-leb (length bytes) 9 h, lt-ltb 0 (length bytes) (omega arith))

pub is_number_letter : (bytes : Text) → is_digits bytes ≡ false → is_number bytes ≡ false
is_number_letter bytes e = and_false_right (ltb 0 (length bytes) && leb (length bytes) 9) e

pub is_number_digits :
    (bytes : Text) → length bytes ≢ 0 → length bytes ≤ 9 → is_digits bytes ≡ true → is_number bytes ≡ true
is_number_digits bytes ne h e =
    and_both (and_both (lt-ltb 0 (length bytes) (omega arith)) (le-leb (length bytes) 9 h)) e

module _ (bytes : Text) where
  pub field_in-dash : is_dash bytes ≡ true → field_in bytes ≡ absent
  unfolding field_in
  field_in-dash e = cond_true absent (cond (is_number bytes) (number (value_of_digits bytes)) other) e

  pub field_in_number : is_dash bytes ≡ false → is_number bytes ≡ true →
      field_in bytes ≡ number (value_of_digits bytes)
  unfolding field_in
  field_in_number e p =
      cond_false absent (cond (is_number bytes) (number (value_of_digits bytes)) other) e
      ∙ cond_true (number (value_of_digits bytes)) other p

  pub field_in_other : is_dash bytes ≡ false → is_number bytes ≡ false → field_in bytes ≡ other
  unfolding field_in
  field_in_other e p =
      cond_false absent (cond (is_number bytes) (number (value_of_digits bytes)) other) e
      ∙ cond_false (number (value_of_digits bytes)) other p

-- ---- lines ----

line_from_other : (first : Field) → line_from first other ≡ bad
line_from_other (number value) = refl
line_from_other absent = refl
line_from_other other = refl

module _ (bytes : Text) (at : ℕ) (split : Split bytes at) where
  pub line_in_split : line_in bytes ≡ line_from (field_in (take at bytes)) (field_in (drop (at + 1) bytes))
  unfolding line_in
  line_in_split = rw (split.before, split.after)

  -- no space
  pub line_in_whole : length bytes ≤ at → line_in bytes ≡ bad
  line_in_whole h =
      let e : drop (at + 1) bytes ≡ [] = drop_of_length-le bytes {i = at + 1} (omega arith) in
      line_in_split ∙ ap (λ (xs : Text). line_from (field_in (take at bytes)) (field_in xs)) e
      ∙ ap (line_from (field_in (take at bytes))) (field_in_other [] (is_dash_other [] (λ z. omega arith))
      (is_number_empty [] refl))
      ∙ line_from_other (field_in (take at bytes))

-- ---- long lines ----

length_fields : (bytes : Text) → length bytes ≤ length (before_space bytes) + 1 + length (after_space bytes)
unfolding before_space after_space
length_fields [] = omega arith
length_fields (byte ∷ bytes) = by (bool_cases (eqb byte space)) (length_fields bytes)
  where
    by :
        (eqb byte space ≡ true) ⊎ (eqb byte space ≡ false) →
        length bytes ≤ length (before_space bytes) + 1 + length (after_space bytes) →
        length (byte ∷ bytes) ≤ length (before_space (byte ∷ bytes)) + 1 + length (after_space (byte ∷ bytes))
    by (inl e) h = rw e (omega arith)
    by (inr e) h = rw e (omega arith)

field_in_long : (bytes : Text) → 9 < length bytes → field_in bytes ≡ other
field_in_long bytes h =
    field_in_other bytes (is_dash_other bytes (λ z. omega arith)) (is_number_long bytes h)

-- a line of a good form has at most 19 bytes
pub line_in_long : (bytes : Text) → 19 < length bytes → line_in bytes ≡ bad
unfolding line_in
line_in_long bytes h = ⊎_elim front rest (lt_cases 9 (length (before_space bytes)))
  where
    front : 9 < length (before_space bytes) → line_from (field_in (before_space bytes))
        (field_in (after_space bytes)) ≡ bad
    front l = rw (field_in_long (before_space bytes) l)

    rest : length (before_space bytes) ≤ 9 → line_from (field_in (before_space bytes))
        (field_in (after_space bytes)) ≡ bad
    rest l =
        rw (field_in_long (after_space bytes) (omega (arith, length_fields bytes)))
        (line_from_other (field_in (before_space bytes)))
