-- Laws of joined lists, taken apart, and of a list that differs from another at one index. Assumes nothing.
use mathlib.Core.Path.{◌∙◌, ◌≡◌, ap, ap₂, refl, sym}
use mathlib.Core.Logic.{◌≢◌, ◌⊎◌, inl, inr}
use mathlib.Core.List.{List, [], ◌∷◌, ◌++◌, append_assoc}
use Prim.Native.Nat.{ℕ, zero, suc, ◌-◌, ◌<◌}
use native.Mathlib.Omega.{arith}
use lib.ListN.{length, take, drop, get_or, set, length-set}
use lib.Seq.{append_snoc, drop_at, get_or-set_other, get_or-set_same, take_at, take-nil, ext_get_or}
use Rattle.laws.proofs.Cases.{eq_cases}

-- ---- joined lists ----

pub append_between :
    {A : Type 0} (xs : List A) (n : A) (ys zs : List A) →
    (xs ++ (n ∷ [])) ++ (ys ++ zs) ≡ (xs ++ (n ∷ ys)) ++ zs
append_between xs n ys zs = append_snoc xs n (ys ++ zs) ∙ sym (append_assoc xs (n ∷ ys) zs)

-- two lists joined of parts of the same lengths
pub append_split :
    {A : Type 0} (xs ys us vs : List A) → length xs ≡ length ys → xs ++ us ≡ ys ++ vs → (xs ≡ ys) × (us ≡ vs)
append_split xs ys us vs e h = (
  sym (take_at xs us (length ys) e) ∙ ap (take (length ys)) h ∙ take_at ys vs (length ys) refl,
  sym (drop_at xs us (length ys) e) ∙ ap (drop (length ys)) h ∙ drop_at ys vs (length ys) refl,
)

-- the first members of two joined lists
pub take-append :
    {A : Type 0} (count : ℕ) (xs ys : List A) →
    take count (xs ++ ys) ≡ take count xs ++ take (count - length xs) ys
take-append {A} count [] ys =
    let all : count ≡ count - 0 = omega arith in
    ap₂ (λ (front : List A) (rest : ℕ). front ++ take rest ys) (sym (take-nil count)) all
take-append zero (x ∷ xs) ys =
    let none : 0 ≡ 0 - suc (length xs) = omega arith in
    ap (λ (rest : ℕ). take rest ys) none
take-append {A} (suc count) (x ∷ xs) ys =
    let fewer : count - length xs ≡ suc count - suc (length xs) = omega arith in
    ap (λ (front : List A). x ∷ front) (take-append count xs ys)
    ∙ ap (λ (rest : ℕ). (x ∷ take count xs) ++ take rest ys) fewer

-- ---- one index ----

-- a list that differs from another at one index
pub set_of-get_d :
    {A : Type 0} (default : A) (xs ys : List A) (index : ℕ) (x : A) → length xs ≡ length ys →
    index < length ys →
    get_or xs index default ≡ x →
    ((i : ℕ) → i < length ys → i ≢ index → get_or xs i default ≡ get_or ys i default) →
    xs ≡ set ys index x
set_of-get_d default xs ys index x e h here others =
    ext_get_or default xs (set ys index x) (e ∙ sym (length-set ys index x))
    (λ i l. at i (rw e at l) (eq_cases i index))
  where
    at :
        (i : ℕ) → i < length ys → (i ≡ index) ⊎ (i ≢ index) →
        get_or xs i default ≡ get_or (set ys index x) i default
    at i l (inl q) = rw (q, here, get_or-set_same ys index x default h)
    at i l (inr ne) = others i l ne ∙ sym (get_or-set_other ys index i x default ne)
