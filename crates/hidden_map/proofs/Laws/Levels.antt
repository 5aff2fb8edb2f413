-- Laws of the nodes of three levels, by level: each of them, and one more set. Assumes nothing.
use mathlib.Core.Path.{◌≡◌, refl, ap}
use mathlib.Core.Logic.{◌≢◌, ◌⊎◌, inl, inr}
use mathlib.Core.List.{List, [], ◌∷◌}
use mathlib.Core.Option.{Option, none, some}
use Prim.Native.Nat.{ℕ, zero, suc, ◌-◌, ◌≤◌}
use native.Mathlib.Omega.{arith}
use lib.ListN.{length, get_or, set}
use borrow.Author.Tests.{eq-eqb, ne_eqb, lt-ltb, le-ltb}
use Rattle.std.specs.Prelude.{Some, None}
use Rattle.std.specs.Prelude as code
use Rattle.std.proofs.lemmas.List.{get_or-set_same, get_or-set_other}
use Rattle.laws.proofs.Cases.{eq_cases}
use Rattle.model.specs.Blocks.{DiskAddress}
use Rattle.layout.specs.declared.numbers.DiskAddress.{DiskAddress as Address}
use Rattle.hidden_map.specs.Nodes.{node_of, by_level, with_address, read_over}

-- ---- nodes of three levels ----

pub by_level_none : (level : ℕ) → by_level (None ∷ None ∷ None ∷ []) level ≡ none
unfolding by_level
by_level_none zero = refl
by_level_none (suc zero) = refl
by_level_none (suc (suc zero)) = refl
by_level_none (suc (suc (suc zero))) = refl
by_level_none (suc (suc (suc (suc index)))) = rw (le-ltb (suc (suc (suc index))) 3 (omega arith))

module _ (nodes : List (code.Option Address)) where
  pub by_level_here :
      (level : ℕ) → 1 ≤ level → level ≤ 3 → node_of (get_or nodes (level - 1) None) ≡ by_level nodes level
  unfolding by_level
  by_level_here zero low high = absurd (omega arith)
  by_level_here (suc index) low high =
      let less : suc index - 1 ≡ index = omega arith in
      rw (less, lt-ltb index 3 (omega arith))

  -- there is no other level
  pub by_level_other : (level : ℕ) → level ≢ 1 → level ≢ 2 → level ≢ 3 → by_level nodes level ≡ none
  unfolding by_level
  by_level_other zero one two three = refl
  by_level_other (suc index) one two three = rw (le-ltb index 3 (omega arith))

  pub by_level_set :
      length nodes ≡ 3 → (level : ℕ) → 1 ≤ level → level ≤ 3 → (address : Address) (wanted : ℕ) →
      by_level (set nodes (level - 1) (Some address)) wanted ≡
      with_address (by_level nodes) level address.0 wanted
  unfolding by_level
  by_level_set l level low high address zero = rw (ne_eqb 0 level (λ z. omega arith))
  by_level_set l level low high address (suc index) = by (eq_cases (suc index) level)
    where
      by : (suc index ≡ level) ⊎ (suc index ≢ level) →
          by_level (set nodes (level - 1) (Some address)) (suc index) ≡
          with_address (by_level nodes) level address.0 (suc index)
      by (inl e) =
          let same : level - 1 ≡ index = omega arith in
          rw (eq-eqb (suc index) level e, lt-ltb index 3 (omega arith), same)
          (ap node_of (get_or-set_same nodes index (Some address) None (omega arith)))
      by (inr ne) =
          let other : index ≢ level - 1 = λ z. omega arith in
          rw (ne_eqb (suc index) level ne, get_or-set_other nodes (level - 1) index (Some address) None other)

-- ---- one more level ----

module _ (at : ℕ → Option DiskAddress) (level : ℕ) (address : DiskAddress) where
  pub with_address_here : with_address at level address level ≡ some address
  with_address_here = rw (eq-eqb level level refl)

  pub with_address_other : (wanted : ℕ) → wanted ≢ level → with_address at level address wanted ≡ at wanted
  with_address_other wanted ne = rw (ne_eqb wanted level ne)

  -- what is read below a level, set over what was there with that level's
  pub read_over_with :
      (before : ℕ → Option DiskAddress) → at level ≡ none → (wanted : ℕ) →
      read_over (at wanted) (with_address before level address wanted) ≡
      read_over (with_address at level address wanted) (before wanted)
  read_over_with before unread wanted = by (eq_cases wanted level)
    where
      by : (wanted ≡ level) ⊎ (wanted ≢ level) →
          read_over (at wanted) (with_address before level address wanted) ≡
          read_over (with_address at level address wanted) (before wanted)
      by (inl e) = rw (eq-eqb wanted level e, ap at e, unread)
      by (inr ne) = rw (ne_eqb wanted level ne)

pub read_over_none : (read : Option DiskAddress) → read_over read none ≡ read
read_over_none none = refl
read_over_none (some address) = refl
