-- Laws of a chain of checks: pass one, stop at one, go through a joined chain, what an answer of 0 says,
-- answers that are not given, and two chains with one answer. Assumes nothing.
use mathlib.Core.Path.{◌∙◌, ◌≡◌, refl, sym}
use mathlib.Core.Logic.{◌⊎◌, ◌≢◌, inl, inr}
use mathlib.Core.Bool.{Bool, true, false, cond}
use mathlib.Core.List.{List, [], ◌∷◌, ◌++◌}
use Prim.Native.Nat.{ℕ}
use Rattle.laws.specs.Checks.{Check, check, first_of}
use Rattle.laws.proofs.Cases.{bool_cases, true_is_not_false}

-- ---- one check ----

pub first_of_nil : first_of [] ≡ 0
unfolding first_of
first_of_nil = refl

pub first_of_stop : {holds : Bool} (number : ℕ) (cs : List Check) → holds ≡ true →
    first_of (check holds number ∷ cs) ≡ number
unfolding first_of
first_of_stop number cs e = rw e

pub first_of_pass : {holds : Bool} (number : ℕ) (cs : List Check) → holds ≡ false →
    first_of (check holds number ∷ cs) ≡ first_of cs
unfolding first_of
first_of_pass number cs e = rw e

-- ---- chains joined ----

-- an answer of the front answers the whole
pub first_of-append_stop : (cs ds : List Check) → first_of cs ≢ 0 → first_of (cs ++ ds) ≡ first_of cs
unfolding first_of
first_of-append_stop [] ds f = absurd (f refl)
first_of-append_stop (c ∷ cs) ds f = by c.holds refl (λ g. first_of-append_stop cs ds g)
  where
    by : (b : Bool) → c.holds ≡ b → (first_of cs ≢ 0 → first_of (cs ++ ds) ≡ first_of cs) →
        cond c.holds c.number (first_of (cs ++ ds)) ≡ cond c.holds c.number (first_of cs)
    by true e later = rw e
    by false e later = rw e (later (λ z. f (rw e z)))

-- ---- an answer of 0 ----

-- every check has a number of its own, not 0
abbrev pub Numbered : List Check → Type 0
Numbered [] = Unit {0}
Numbered (c ∷ cs) = (c.number ≢ 0) × Numbered cs

-- no check holds
abbrev pub Passed : List Check → Type 0
Passed [] = Unit {0}
Passed (c ∷ cs) = (c.holds ≡ false) × Passed cs

pub passed_of_zero : (cs : List Check) → Numbered cs → first_of cs ≡ 0 → Passed cs
unfolding first_of
passed_of_zero [] n e = tt
passed_of_zero (c ∷ cs) n e = by c.holds refl e (λ z. passed_of_zero cs n.1 z)
  where
    by : (b : Bool) → c.holds ≡ b → cond b c.number (first_of cs) ≡ 0 → (first_of cs ≡ 0 → Passed cs) →
        (c.holds ≡ false) × Passed cs
    by true p z later = absurd (n.0 z)
    by false p z later = (p, later z)

pub zero_of_passed : (cs : List Check) → Passed cs → first_of cs ≡ 0
unfolding first_of
zero_of_passed [] h = refl
zero_of_passed (c ∷ cs) h = rw h.0 (zero_of_passed cs h.1)

-- a front that passes leaves the answer to the rest
pub first_of-append_pass : (cs ds : List Check) → Passed cs → first_of (cs ++ ds) ≡ first_of ds
unfolding first_of
first_of-append_pass [] ds h = refl
first_of-append_pass (c ∷ cs) ds h = rw h.0 (first_of-append_pass cs ds h.1)

-- a numbered front that answers 0 does so too
pub first_of-append-zero :
    (cs ds : List Check) → Numbered cs → first_of cs ≡ 0 → first_of (cs ++ ds) ≡ first_of ds
first_of-append-zero cs ds n e = first_of-append_pass cs ds (passed_of_zero cs n e)

pub numbered-append : (cs ds : List Check) → Numbered cs → Numbered ds → Numbered (cs ++ ds)
numbered-append [] ds n m = m
numbered-append (c ∷ cs) ds n m = (n.0, numbered-append cs ds n.1 m)

-- a whole that passes has a front and a rest that pass
pub passed_front : (cs ds : List Check) → Passed (cs ++ ds) → Passed cs
passed_front [] ds h = tt
passed_front (c ∷ cs) ds h = (h.0, passed_front cs ds h.1)

pub passed_rest : (cs ds : List Check) → Passed (cs ++ ds) → Passed ds
passed_rest [] ds h = h
passed_rest (c ∷ cs) ds h = passed_rest cs ds h.1

pub passed_append : (cs ds : List Check) → Passed cs → Passed ds → Passed (cs ++ ds)
passed_append [] ds h k = k
passed_append (c ∷ cs) ds h k = (h.0, passed_append cs ds h.1 k)

-- ---- an answer that is not given ----

-- no check with this number holds
abbrev pub Never : (number : ℕ) → List Check → Type 0
Never number [] = Unit {0}
Never number (c ∷ cs) = (c.number ≡ number → c.holds ≡ false) × Never number cs

pub never_append :
    (number : ℕ) (cs es : List Check) → Never number cs → Never number es → Never number (cs ++ es)
never_append number [] es h k = k
never_append number (c ∷ cs) es h k = (h.0, never_append number cs es h.1 k)

pub first_of_never : (number : ℕ) (cs : List Check) → number ≢ 0 → Never number cs → first_of cs ≢ number
first_of_never number [] f h e = f (sym e ∙ first_of_nil)
first_of_never number (c ∷ cs) f h e = by (bool_cases c.holds) (first_of_never number cs f h.1)
  where
    by : (c.holds ≡ true) ⊎ (c.holds ≡ false) → first_of cs ≢ number → ⊥
    by (inl p) later = true_is_not_false p (h.0 (sym (first_of_stop c.number cs p) ∙ e))
    by (inr p) later = later (sym (first_of_pass c.number cs p) ∙ e)

-- ---- two chains with one answer ----

pub record SameAnswer (cs ds : List Check) : Type 0 where
  pub same : first_of cs ≡ first_of ds

pub same_answer_refl : {cs : List Check} → SameAnswer cs cs
same_answer_refl = record { same = refl }

-- equal tests in front; what comes after need be the same only where the test does not hold
pub same_answer-check :
    {holds other : Bool} {number : ℕ} {cs ds : List Check} → holds ≡ other →
    (other ≡ false → SameAnswer cs ds) →
    SameAnswer (check holds number ∷ cs) (check other number ∷ ds)
unfolding first_of
same_answer-check {holds} {other} {number} {cs} {ds} e h = record { same = rw e (by other h) }
  where
    by : (b : Bool) → (b ≡ false → SameAnswer cs ds) → cond b number (first_of cs) ≡ cond b number (first_of ds)
    by true h = refl
    by false h = (h refl).same
