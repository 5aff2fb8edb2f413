-- What the first stores of a hidden half leave in a block, the root not among them (document 02, K5): the
-- slot's first hidden blocks are those of the whole half, the others and the root stay. Assumes nothing.
use mathlib.Core.Path.{◌≡◌, sym, ap, ◌∙◌, subst}
use mathlib.Core.Logic.{◌≢◌}
use mathlib.Core.List.{[], ◌∷◌, ◌++◌}
use Prim.Native.Nat.{ℕ, suc, ◌+◌, ◌-◌, ◌≤◌, ◌<◌}
use native.Mathlib.Omega.{arith}
use lib.ListN.{length, take, drop, length-append, take-append-drop}
use lib.Seq.{take-append-le, drop-append-le}
use Rattle.laws.proofs.Members.{All, all_append}
use Rattle.model.specs.Geometry.{Geometry, root_address}
use Rattle.model.specs.Blocks.{Bytes, DiskAddress}
use Rattle.model.specs.Layout.{slot_start}
use Rattle.model.specs.Stores.{Trace, addresses}
use Rattle.model.specs.Simulator.{addresses_from}
use Rattle.model.proofs.Laws.Stores.{addresses-take, addresses-drop, length-addresses, last_at, last_at-append}
use Rattle.model.proofs.Laws.Stores.{last_at_outside}
use Rattle.model.proofs.Laws.Paths.{Hides}
use Rattle.model.proofs.Laws.RoundCounts.{length-addresses_from}
use Rattle.model.proofs.Laws.RoundStores.{all-addresses_from, take-addresses_from, drop-addresses_from}

module _ (g : Geometry) (slot : ℕ) (trace : Trace) (hides : Hides g slot trace) (count : ℕ)
    (short : count ≤ g.height) where
  enough : count ≤ length (addresses_from (slot_start g slot + 1) g.height)
  enough = omega (arith, length-addresses_from (slot_start g slot + 1) g.height)

  -- they go to the slot's first hidden blocks
  addresses_made : addresses (take count trace) ≡ addresses_from (slot_start g slot + 1) count
  addresses_made =
      addresses-take trace count ∙ ap (take count) hides.runs
      ∙ take-append-le count (addresses_from (slot_start g slot + 1) g.height) (root_address g ∷ []) enough
      ∙ take-addresses_from (slot_start g slot + 1) count g.height short

  -- and the others to those after them, and to the root
  addresses_left :
      addresses (drop count trace) ≡
      addresses_from (slot_start g slot + 1 + count) (g.height - count) ++ (root_address g ∷ [])
  addresses_left =
      addresses-drop trace count ∙ ap (drop count) hides.runs
      ∙ drop-append-le count (addresses_from (slot_start g slot + 1) g.height) (root_address g ∷ []) enough
      ∙ rw (drop-addresses_from (slot_start g slot + 1) count g.height)

  outside_made :
      (address : DiskAddress) (old : Bytes) → ((i : ℕ) → i < count → address ≢ slot_start g slot + 1 + i) →
      last_at (take count trace) address old ≡ old
  outside_made address old apart =
      last_at_outside (take count trace) address old
      (subst (All (λ (other : ℕ). address ≢ other)) (sym addresses_made)
      (all-addresses_from (λ (other : ℕ). address ≢ other) (slot_start g slot + 1) count apart))

  -- the root is not stored
  pub cut-half_root : (old : Bytes) → last_at (take count trace) (root_address g) old ≡ old
  cut-half_root old = outside_made (root_address g) old (λ i h e. omega arith)

  -- nor is a later block
  pub cut-half_later :
      (place : ℕ) (old : Bytes) → count ≤ place →
      last_at (take count trace) (slot_start g slot + suc place) old ≡ old
  cut-half_later place old h = outside_made (slot_start g slot + suc place) old (λ i l e. omega arith)

  -- an earlier one is as the whole half leaves it
  pub cut-half_earlier :
      (place : ℕ) (old : Bytes) → place < count →
      last_at (take count trace) (slot_start g slot + suc place) old ≡
      last_at trace (slot_start g slot + suc place) old
  cut-half_earlier place old h =
      let address = slot_start g slot + suc place in
      sym (ap (λ (xs : Trace). last_at xs address old) (sym (take-append-drop count trace))
      ∙ last_at-append (take count trace) (drop count trace) address old
      ∙ last_at_outside (drop count trace) address (last_at (take count trace) address old)
      (subst (All (λ (other : ℕ). address ≢ other)) (sym addresses_left)
      (all_append (λ (other : ℕ). address ≢ other)
      (addresses_from (slot_start g slot + 1 + count) (g.height - count)) (root_address g ∷ [])
      (all-addresses_from (λ (other : ℕ). address ≢ other) (slot_start g slot + 1 + count) (g.height - count)
      (λ i l e. omega arith))
      ((λ e. omega arith), tt))))

-- a half has a store for each of the slot's hidden blocks, and one for the root
pub length-half :
    (g : Geometry) (slot : ℕ) (trace : Trace) → Hides g slot trace → length trace ≡ suc g.height
length-half g slot trace hides =
    sym (length-addresses trace) ∙ ap length hides.runs
    ∙ length-append (addresses_from (slot_start g slot + 1) g.height) (root_address g ∷ [])
    ∙ omega (arith, length-addresses_from (slot_start g slot + 1) g.height)
