-- A chain of checks and the number that answers it. Assumes nothing.
use Rattle.std.specs.Prelude.{Bool, cond, List, [], ◌∷◌, ℕ}

-- a test and the number that it is answered by
pub record Check : Type 0 where
  pub holds : Bool
  pub number : ℕ

abbrev pub check : (holds : Bool) → (number : ℕ) → Check
check holds number = record { holds = holds; number = number }

-- the number of the first check that holds, 0 where none does
unfoldable pub first_of : List Check → ℕ
first_of [] = 0
first_of (c ∷ cs) = cond c.holds c.number (first_of cs)
