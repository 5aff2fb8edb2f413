-- Answers as numbers, lists that are cut, and lists that a write leaves. Assumes nothing.
use mathlib.Core.Path.{◌≡◌, refl, sym, ap, ◌∙◌}
use mathlib.Core.Bool.{Bool, true, false, ◌&&◌, and-true, and_assoc}
use mathlib.Core.List.{List, [], ◌∷◌}
use Prim.Native.Nat.{ℕ, zero, suc, ◌+◌, ◌≤◌, ◌<◌, min}
use native.Mathlib.Numerals.{add-one}
use native.Mathlib.Omega.{arith}
use lib.Dec.{eqb}
use lib.ListN.{length, get_or, take}
use Rattle.std.specs.Int.{from_bool}
use Rattle.std.proofs.lemmas.List.{take_min}
use Rattle.model.specs.Table.{digit}
use Rattle.figure_lines.specs.Counts.{is_listed}

-- an answer as a number
pub from_digit : (b : Bool) → from_bool b ≡ digit b
from_digit true = refl
from_digit false = refl

pub digit_most : (b : Bool) → digit b ≤ 1
digit_most true = omega arith
digit_most false = omega arith

-- ---- cut lists ----

module _ {A : Type 0} where
  -- a part that is lent: as many as asked for, but at most all
  pub cut_lent :
      {B : Type 0} (f : List A → B) {made : List A} {count : ℕ} (asked most : ℕ) (whole : List A) →
      count ≡ min asked most → length made ≡ most → made ≡ whole → f (take count made) ≡ f (take asked whole)
  cut_lent f {made} {count} asked most whole count_is length-is made-is =
      ap f
      (ap (λ (n : ℕ). take n made) (count_is ∙ ap (min asked) (sym length-is))
      ∙ take_min asked made ∙ ap (take asked) made-is)

-- ---- lists that a write leaves ----

is_listed_suc : (stored list : List ℕ) (i : ℕ) → i < length list →
    is_listed stored (take (suc i) list) ≡
    (is_listed stored (take i list) && eqb (get_or stored i 99) (get_or list i 0))
unfolding is_listed
is_listed_suc stored [] i h = absurd (omega arith)
is_listed_suc [] (x ∷ list) zero h = and-true (eqb 99 x)
is_listed_suc (s ∷ stored) (x ∷ list) zero h = and-true (eqb s x)
is_listed_suc [] (x ∷ list) (suc i) h =
    ap (λ (rest : Bool). eqb 99 x && rest) (is_listed_suc [] list i (omega arith)) ∙
    sym (and_assoc (eqb 99 x) (is_listed [] (take i list)) (eqb 99 (get_or list i 0)))
is_listed_suc (s ∷ stored) (x ∷ list) (suc i) h =
    ap (λ (rest : Bool). eqb s x && rest) (is_listed_suc stored list i (omega arith)) ∙
    sym (and_assoc (eqb s x) (is_listed stored (take i list)) (eqb (get_or stored i 99) (get_or list i 0)))

-- one entry more
pub is_listed_more :
    {same after : Bool} {entry : ℕ} (stored list : List ℕ) (i : ℕ) → i < length list →
    same ≡ is_listed stored (take i list) → entry ≡ get_or stored i 99 →
    after ≡ (same && eqb entry (get_or list i 0)) → after ≡ is_listed stored (take (i + 1) list)
is_listed_more stored list i h so_far read told =
    told ∙ rw (so_far, read) (sym (ap (λ (n : ℕ). is_listed stored (take n list)) (add-one i) ∙
    is_listed_suc stored list i h))
