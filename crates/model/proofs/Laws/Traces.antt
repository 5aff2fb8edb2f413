-- Equations of what a trace is made of: its addresses, the public block, map and bits, and the stores of a
-- round in their order. Assumes nothing.
use mathlib.Core.Path.{◌≡◌, refl}
use mathlib.Core.List.{[], ◌∷◌, ◌++◌}
use Prim.Native.Nat.{ℕ}
use Rattle.model.specs.Geometry.{Geometry}
use Rattle.model.specs.Blocks.{Bytes}
use Rattle.model.specs.Layout.{slot_start, map_entry}
use Rattle.model.specs.Stores.{Store, Trace, store, addresses}
use Rattle.model.specs.Table.{PublicChoice, keep_public, write_public}
use Rattle.model.specs.Paths.{kept_block}
use Rattle.model.specs.Rounds.{public_store, map_store, bit_stores, header_store, map_stores, round_trace}

-- ---- addresses ----

pub addresses_nil : addresses [] ≡ []
unfolding addresses
addresses_nil = refl

pub addresses-cons : (x : Store) (xs : Trace) → addresses (x ∷ xs) ≡ x.address ∷ addresses xs
unfolding addresses
addresses-cons x xs = refl

-- ---- a round ----

module _ (g : Geometry) (disk : Bytes) (slot : ℕ) where
  pub public_store_keep : (content : Bytes) →
      public_store keep_public g disk slot content ≡ kept_block g disk (slot_start g slot)
  unfolding public_store
  public_store_keep content = refl

  pub public_store_write : (content : Bytes) →
      public_store write_public g disk slot content ≡ store (slot_start g slot) content
  unfolding public_store
  public_store_write content = refl

  pub map_stores_keep : (number : ℕ) → map_stores keep_public g disk number slot ≡ []
  unfolding map_stores
  map_stores_keep number = refl

  pub map_stores_write :
      (number : ℕ) →
      map_stores write_public g disk number slot ≡
      map_store g disk number slot ∷ bit_stores g disk (map_entry g disk number) slot
  unfolding map_stores
  map_stores_write number = refl

  pub round_trace_is :
      (choice : PublicChoice) (number : ℕ) (content : Bytes) (hidden : Trace) →
      round_trace choice g disk number slot content hidden ≡
      public_store choice g disk slot content ∷
      (hidden ++ (map_stores choice g disk number slot ++ (header_store g disk slot ∷ [])))
  unfolding round_trace
  round_trace_is choice number content hidden = refl
