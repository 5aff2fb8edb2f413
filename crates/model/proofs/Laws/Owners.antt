-- Equations of a round's hidden half: whose slot it is, what the owner's walk says of it, what damage stops,
-- and what the table's choice says and stores. Assumes nothing.
use mathlib.Core.Path.{◌≡◌, refl}
use mathlib.Core.Bool.{Bool, true, false, cond, ◌&&◌}
use mathlib.Core.List.{List, [], ◌∷◌}
use Prim.Native.Nat.{ℕ, ◌-◌}
use native.Mathlib.Omega.{arith}
use lib.Dec.{ltb}
use Rattle.laws.proofs.Cases.{cond_true, cond_false}
use Rattle.model.specs.Geometry.{Geometry, fanout, block_width}
use Rattle.model.specs.Blocks.{Bytes, block_at, entry_at}
use Rattle.model.specs.Layout.{level_address}
use Rattle.model.specs.HiddenTree.{owner_of, walk, is_damaged, is_found_at}
use Rattle.model.specs.Paths.{current_path, written_back, dummy_stores}
use Rattle.model.specs.Table.{keep_hidden, place_hidden, fill_hidden}
use Rattle.model.specs.HiddenHalf.{HiddenWrite, HiddenState, is_live, is_owner_damaged}
use Rattle.model.specs.HiddenHalf.{is_next_damaged, is_blocked, half, blocked_state, placed_state, hidden_by}
use Rattle.model.specs.HiddenHalf.{row_of, hidden_half}

-- ---- whose slot ----

module _ (g : Geometry) (disk : Bytes) where
  -- the leaf stands at level 1
  pub owner_of_is :
      (slot : ℕ) → owner_of g disk slot ≡
      entry_at (fanout g - 1) (block_at (block_width g) disk (level_address g slot 1))
  unfolding owner_of
  owner_of_is slot = refl

  pub is_live_is :
      (slot : ℕ) → is_live g disk slot ≡
      (ltb (owner_of g disk slot) g.hidden &&
      is_found_at (level_address g slot 0) (walk g disk (owner_of g disk slot)).end)
  unfolding is_live
  is_live_is slot = refl

  pub is_owner_damaged_is :
      (slot : ℕ) → is_owner_damaged g disk slot ≡
      (ltb (owner_of g disk slot) g.hidden && is_damaged (walk g disk (owner_of g disk slot)).end)
  unfolding is_owner_damaged
  is_owner_damaged_is slot = refl

  pub is_next_damaged_nil : is_next_damaged g disk [] ≡ false
  unfolding is_next_damaged
  is_next_damaged_nil = refl

  pub is_next_damaged-cons :
      (next : HiddenWrite) (later : List HiddenWrite) →
      is_next_damaged g disk (next ∷ later) ≡ is_damaged (walk g disk next.number).end
  unfolding is_next_damaged
  is_next_damaged-cons next later = refl

-- ---- the table's choice ----

pub live_of_keep :
    (live waiting : Bool) → keep_hidden ≡ cond live keep_hidden (cond waiting place_hidden fill_hidden) →
    live ≡ true
live_of_keep true waiting e = refl
live_of_keep false true e = absurd (let z : ◌≡◌ {A = ℕ} 0 1 = cc in omega arith)
live_of_keep false false e = absurd (let z : ◌≡◌ {A = ℕ} 0 1 = cc in omega arith)

pub stale_of_place :
    (live waiting : Bool) → place_hidden ≡ cond live keep_hidden (cond waiting place_hidden fill_hidden) →
    (live ≡ false) × (waiting ≡ true)
stale_of_place true waiting e = absurd (let z : ◌≡◌ {A = ℕ} 0 1 = cc in omega arith)
stale_of_place false true e = (refl, refl)
stale_of_place false false e = absurd (let z : ◌≡◌ {A = ℕ} 0 1 = cc in omega arith)

pub stale_of_fill :
    (live waiting : Bool) → fill_hidden ≡ cond live keep_hidden (cond waiting place_hidden fill_hidden) →
    (live ≡ false) × (waiting ≡ false)
stale_of_fill true waiting e = absurd (let z : ◌≡◌ {A = ℕ} 0 1 = cc in omega arith)
stale_of_fill false true e = absurd (let z : ◌≡◌ {A = ℕ} 0 1 = cc in omega arith)
stale_of_fill false false e = (refl, refl)

-- ---- the half ----

module _ (g : Geometry) (disk : Bytes) (slot : ℕ) (random : Bytes) (state : HiddenState) where
  pub hidden_by_keep :
      (waiting : List HiddenWrite) →
      hidden_by keep_hidden g disk slot random state waiting ≡
      half
      (current_path g disk (owner_of g disk slot) slot (block_at (block_width g) disk (level_address g slot 0)))
      state
  unfolding hidden_by
  hidden_by_keep waiting = refl

  pub hidden_by_place :
      (next : HiddenWrite) (later : List HiddenWrite) →
      hidden_by place_hidden g disk slot random state (next ∷ later) ≡
      half (current_path g disk next.number slot next.content) (placed_state state later)
  unfolding hidden_by
  hidden_by_place next later = refl

  pub hidden_by_fill :
      (waiting : List HiddenWrite) →
      hidden_by fill_hidden g disk slot random state waiting ≡ half (dummy_stores g disk slot random) state
  unfolding hidden_by
  hidden_by_fill waiting = refl

  pub hidden_half_blocked :
      is_blocked g disk slot state.waiting ≡ true →
      hidden_half g disk slot random state ≡ half (written_back g disk slot) (blocked_state state)
  unfolding hidden_half
  hidden_half_blocked blocked = cond_true _ _ blocked

  pub hidden_half_free :
      is_blocked g disk slot state.waiting ≡ false →
      hidden_half g disk slot random state ≡
      hidden_by (row_of g disk slot state.waiting).hidden g disk slot random state state.waiting
  unfolding hidden_half
  hidden_half_free free = cond_false _ _ free
