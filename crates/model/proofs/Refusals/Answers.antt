-- A chain of checks answers a list of conditions where each check decides its condition on whatever has
-- passed those before it. Assumes nothing.
use mathlib.Core.Path.{◌≡◌, ◌∙◌}
use mathlib.Core.Logic.{◌⊎◌, inl, inr}
use mathlib.Core.Bool.{true, false}
use mathlib.Core.List.{List, [], ◌∷◌, ◌++◌}
use Prim.Native.Nat.{ℕ}
use Rattle.laws.specs.Checks.{Check, first_of}
use Rattle.laws.proofs.Cases.{bool_cases}
use Rattle.laws.proofs.Checks.{Passed, first_of_nil, first_of_stop, first_of_pass}
use Rattle.laws.proofs.Decides.{Decides}
use Rattle.model.specs.Conditions.{Condition, Answers}

-- each check has its condition's number and decides the condition, the later ones where this one has not held
abbrev pub Judges : List Check → List Condition → Type 0
Judges [] [] = Unit {0}
Judges [] (d ∷ ds) = ⊥
Judges (c ∷ cs) [] = ⊥
Judges (c ∷ cs) (d ∷ ds) =
    (c.number ≡ d.number) × Decides c.holds d.Holds × (c.holds ≡ false → Judges cs ds)

pub judges_append :
    (cs es : List Check) (ds fs : List Condition) → Judges cs ds → (Passed cs → Judges es fs) →
    Judges (cs ++ es) (ds ++ fs)
judges_append [] es [] fs h later = later tt
judges_append [] es (d ∷ ds) fs h later = absurd h
judges_append (c ∷ cs) es [] fs h later = absurd h
judges_append (c ∷ cs) es (d ∷ ds) fs h later =
    (h.0, h.1, λ e. judges_append cs es ds fs (h.2 e) (λ p. later (e, p)))

pub answers_of_judges : (cs : List Check) (ds : List Condition) → Judges cs ds → Answers ds (first_of cs)
answers_of_judges [] [] h = first_of_nil
answers_of_judges [] (d ∷ ds) h = absurd h
answers_of_judges (c ∷ cs) [] h = absurd h
answers_of_judges (c ∷ cs) (d ∷ ds) h = by (bool_cases c.holds) (λ e. answers_of_judges cs ds (h.2 e))
  where
    by : (c.holds ≡ true) ⊎ (c.holds ≡ false) → (c.holds ≡ false → Answers ds (first_of cs)) →
        Answers (d ∷ ds) (first_of (c ∷ cs))
    by (inl e) later = inl (h.1.holds e, first_of_stop c.number cs e ∙ h.0)
    by (inr e) later = inr (h.1.fails e, rw (first_of_pass c.number cs e) (later e))

-- a condition that does not hold may stand at the end
pub answers_append_false :
    (ds : List Condition) (d : Condition) (answer : ℕ) → (d.Holds → ⊥) → Answers ds answer →
    Answers (ds ++ (d ∷ [])) answer
answers_append_false [] d answer false-here h = inr (false-here, h)
answers_append_false (e ∷ ds) d answer false-here (inl h) = inl h
answers_append_false (e ∷ ds) d answer false-here (inr h) =
    inr (h.0, answers_append_false ds d answer false-here h.1)
