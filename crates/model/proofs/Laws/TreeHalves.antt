-- Laws of a node gone through by halves: the first fault is that of the one entry, of the first half, or of
-- the rest; and all places are the node. Assumes nothing.
use mathlib.Core.Path.{◌≡◌, sym, ap, ◌∙◌}
use mathlib.Core.Logic.{◌≢◌}
use mathlib.Core.List.{List, ◌++◌}
use Prim.Native.Nat.{ℕ, suc, ◌+◌, ◌-◌, ◌≤◌}
use native.Mathlib.Omega.{arith}
use Rattle.model.specs.Geometry.{Geometry}
use Rattle.model.specs.Blocks.{Bytes}
use Rattle.model.specs.Invariants.{entries_in}
use Rattle.model.specs.TreeCheck.{MetEntry, met_in_turn, met_below, met_at, first_fault}
use Rattle.model.proofs.Laws.TreeCheck.{met_below_suc, met_in_turn-add, first_fault-append_stop}
use Rattle.model.proofs.Laws.TreeCheck.{first_fault-append-zero, met_in_turn_one}

module _ (g : Geometry) (disk : Bytes) (at : ℕ → List MetEntry) where
  -- the first fault at so many places from one on
  abbrev fault_from : (count place : ℕ) → ℕ
  fault_from count place = first_fault g disk (met_in_turn at count place)

  pub fault_one : (answer remaining place : ℕ) → remaining ≡ 1 → answer ≡ first_fault g disk (at place) →
      answer ≡ fault_from remaining place
  fault_one answer remaining place e a = rw (e, met_in_turn_one) a

  module _ (remaining half place : ℕ) (h : half ≤ remaining) where
    abbrev first_half : List MetEntry
    first_half = met_in_turn at half place

    abbrev rest : List MetEntry
    rest = met_in_turn at (remaining - half) (place + half)

    halves : met_in_turn at remaining place ≡ first_half ++ rest
    halves =
        let n : remaining ≡ half + (remaining - half) = omega arith in
        ap (λ (count : ℕ). met_in_turn at count place) n ∙ met_in_turn-add at half (remaining - half) place

    module _ (fault : ℕ) (e : fault ≡ first_fault g disk first_half) where
      -- a fault of the first half comes first
      pub fault_first_half : fault ≢ 0 → fault ≡ fault_from remaining place
      fault_first_half ne =
          e
          ∙ sym (ap (first_fault g disk) halves
          ∙ first_fault-append_stop g disk first_half rest (λ z. ne (e ∙ z)))

      -- a first half without fault leaves the answer to the rest
      pub fault_rest : fault ≡ 0 → (answer : ℕ) → answer ≡ first_fault g disk rest →
          answer ≡ fault_from remaining place
      fault_rest z answer a =
          a
          ∙ sym (ap (first_fault g disk) halves
          ∙ first_fault-append-zero g disk first_half rest (sym e ∙ z))

-- what is met at all places of a node is what is met below it
pub fault_node : (g : Geometry) (disk : Bytes) (level first : ℕ) (node : Bytes) (count : ℕ) →
    count ≡ entries_in g level → (answer : ℕ) →
    answer ≡ first_fault g disk (met_in_turn (met_at g disk level first node) count 0) →
    answer ≡ first_fault g disk (met_below g disk (suc level) first node)
fault_node g disk level first node count e answer a =
    a
    ∙ ap (λ (n : ℕ). first_fault g disk (met_in_turn (met_at g disk level first node) n 0)) e
    ∙ ap (first_fault g disk) (sym (met_below_suc g disk level first node))
