-- Laws of entries that the whole-tree check meets and finds without fault: joined, place by place, and an
-- entry with what is below it. Assumes nothing.
use mathlib.Core.Path.{◌≡◌, sym, subst}
use mathlib.Core.Logic.{◌≢◌, ⊎_elim}
use mathlib.Core.Bool.{true}
use mathlib.Core.List.{List, ◌++◌}
use Prim.Native.Nat.{ℕ, zero, suc, ◌+◌, ◌<◌}
use native.Mathlib.Omega.{arith}
use borrow.Author.Tests.{not-false, ne_eqb}
use Rattle.laws.proofs.Cases.{eq_cases}
use Rattle.laws.proofs.Checks.{Passed, passed_front, passed_rest, passed_append}
use Rattle.model.specs.Geometry.{Geometry}
use Rattle.model.specs.Blocks.{Bytes}
use Rattle.model.specs.Layout.{is_well_formed}
use Rattle.model.specs.TreeCheck.{MetEntry, met_in_turn, met_with, entry_checks, met_checks}
use Rattle.model.proofs.Laws.TreeCheck.{met_with-zero, met_with_formed, met_checks-append}

module _ (g : Geometry) (disk : Bytes) where
  -- no entry of these has a fault
  abbrev pub Passes : List MetEntry → Type 0
  Passes mets = Passed (met_checks g disk mets)

  passes_front : (front rest : List MetEntry) → Passes (front ++ rest) → Passes front
  passes_front front rest p =
      passed_front (met_checks g disk front) (met_checks g disk rest)
      (subst Passed (met_checks-append g disk front rest) p)

  passes_rest : (front rest : List MetEntry) → Passes (front ++ rest) → Passes rest
  passes_rest front rest p =
      passed_rest (met_checks g disk front) (met_checks g disk rest)
      (subst Passed (met_checks-append g disk front rest) p)

  -- ---- place by place ----

  module _ (at : ℕ → List MetEntry) where
    pub passes_place : (count place later : ℕ) → Passes (met_in_turn at count place) → later < count →
        Passes (at (place + later))
    unfolding met_in_turn
    passes_place zero place later p h = absurd (omega arith)
    passes_place (suc count) place zero p h =
        let e : place + 0 ≡ place = omega arith in
        rw e (passes_front (at place) (met_in_turn at count (suc place)) p)
    passes_place (suc count) place (suc later) p h =
        let e : place + suc later ≡ suc place + later = omega arith in
        rw e
        (passes_place count (suc place) later (passes_rest (at place) (met_in_turn at count (suc place)) p)
        (omega arith))

    pub passes_turns : (count place : ℕ) → ((later : ℕ) → later < count → Passes (at (place + later))) →
        Passes (met_in_turn at count place)
    unfolding met_in_turn met_checks
    passes_turns zero place each = tt
    passes_turns (suc count) place each =
        let e : place + 0 ≡ place = omega arith in
        subst Passed (sym (met_checks-append g disk (at place) (met_in_turn at count (suc place))))
        (passed_append (met_checks g disk (at place)) (met_checks g disk (met_in_turn at count (suc place)))
        (rw e at (each 0 (omega arith)))
        (passes_turns count (suc place)
        (λ later h.
        let q : place + suc later ≡ suc place + later = omega arith in
        rw q at (each (suc later) (omega arith)))))

  -- ---- an entry and what is below it ----

  module _ (met : MetEntry) (below : List MetEntry) where
    pub passes_own : met.entry ≢ 0 → Passes (met_with g met below) → Passed (entry_checks g disk met)
    unfolding met_with met_checks
    passes_own ne p = passed_front (entry_checks g disk met) _ (rw (ne_eqb met.entry 0 ne) at p)

    pub passes_below : met.entry ≢ 0 → is_well_formed g met.level met.entry ≡ true →
        Passes (met_with g met below) → Passes below
    unfolding met_checks
    passes_below ne formed p =
        passed_rest (entry_checks g disk met) (met_checks g disk below)
        (subst Passes (met_with_formed g met below ne formed) p)

    pub passes_with : (met.entry ≢ 0 → Passed (entry_checks g disk met) × Passes below) →
        Passes (met_with g met below)
    unfolding met_checks entry_checks
    passes_with good = ⊎_elim
        (λ z. subst Passes (sym (met_with-zero g met below z)) tt)
        (λ ne.
        let own = (good ne).0 in
        subst Passes (sym (met_with_formed g met below ne (not-false _ own.0)))
        (passed_append (entry_checks g disk met) (met_checks g disk below) own (good ne).1))
        (eq_cases met.entry 0)
