-- What holds of each member of a list: of a joined list, of what follows from it, and of the first members;
-- and lists of numbers without one twice. Assumes nothing.
use mathlib.Core.Path.{sym}
use mathlib.Core.Logic.{◌≢◌}
use mathlib.Core.List.{List, [], ◌∷◌, ◌++◌}
use Prim.Native.Nat.{ℕ, zero, suc, ◌<◌}
use native.Mathlib.Omega.{arith}
use lib.ListN.{length, get_or, take}

abbrev pub All : {A : Type 0} → (A → Type 0) → List A → Type 0
All P [] = Unit {0}
All P (x ∷ xs) = P x × All P xs

pub all_append : {A : Type 0} (P : A → Type 0) (xs ys : List A) → All P xs → All P ys → All P (xs ++ ys)
all_append P [] ys h k = k
all_append P (x ∷ xs) ys h k = (h.0, all_append P xs ys h.1 k)

pub all_map :
    {A : Type 0} (P Q : A → Type 0) (xs : List A) → ((x : A) → P x → Q x) → All P xs → All Q xs
all_map P Q [] f h = tt
all_map P Q (x ∷ xs) f h = (f x h.0, all_map P Q xs f h.1)

pub all_take : {A : Type 0} (P : A → Type 0) (count : ℕ) (xs : List A) → All P xs → All P (take count xs)
all_take P zero xs h = tt
all_take P (suc count) [] h = tt
all_take P (suc count) (x ∷ xs) h = (h.0, all_take P count xs h.1)

-- ---- no number twice ----

abbrev pub Distinct : List ℕ → Type 0
Distinct [] = Unit {0}
Distinct (x ∷ xs) = All (λ (y : ℕ). x ≢ y) xs × Distinct xs

-- two lists whose members are told apart
pub distinct_append :
    (P Q : ℕ → Type 0) → ((x y : ℕ) → P x → Q y → x ≢ y) → (xs ys : List ℕ) → All P xs → All Q ys →
    Distinct xs → Distinct ys → Distinct (xs ++ ys)
distinct_append P Q apart [] ys p q d e = e
distinct_append P Q apart (x ∷ xs) ys p q d e = (
  all_append (λ (y : ℕ). x ≢ y) xs ys d.0
      (all_map Q (λ (y : ℕ). x ≢ y) ys (λ y h. apart x y p.0 h) q),
  distinct_append P Q apart xs ys p.1 q d.1 e,
)

all_get_d : (P : ℕ → Type 0) (xs : List ℕ) (i d : ℕ) → i < length xs → All P xs → P (get_or xs i d)
all_get_d P [] i d h a = absurd (omega arith)
all_get_d P (x ∷ xs) zero d h a = a.0
all_get_d P (x ∷ xs) (suc i) d h a = all_get_d P xs i d (omega arith) a.1

pub distinct_before :
    (xs : List ℕ) (i d : ℕ) → i < length xs → Distinct xs → All (λ (y : ℕ). get_or xs i d ≢ y) (take i xs)
distinct_before [] i d h s = absurd (omega arith)
distinct_before (x ∷ xs) zero d h s = tt
distinct_before (x ∷ xs) (suc i) d h s = (
  λ e. all_get_d (λ (y : ℕ). x ≢ y) xs i d (omega arith) s.0 (sym e),
  distinct_before xs i d (omega arith) s.1,
)
