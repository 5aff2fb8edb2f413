-- Live slots under the ghost tree: a slot is live just if its owner holds it, every slot that the tree uses
-- is live, and no round is blocked for damage. Assumes nothing.
use mathlib.Core.Path.{◌≡◌, refl, sym, ap, ◌∙◌}
use mathlib.Core.Logic.{◌≢◌, ⊎_elim}
use mathlib.Core.Bool.{true, false, not, ◌&&◌}
use mathlib.Core.List.{List, [], ◌∷◌}
use mathlib.Core.Option.{some}
use Prim.Native.Nat.{ℕ, ◌<◌}
use native.Mathlib.Omega.{arith}
use lib.Dec.{ltb}
use borrow.Author.Tests.{eq-eqb, ltb-true, lt-ltb}
use Rattle.laws.proofs.Cases.{true_is_not_false, bool_cases, and_left, and_right, and_both, and_false_left}
use Rattle.laws.proofs.Cases.{and_false_right, or_neither}
use Rattle.laws.proofs.Members.{All}
use Rattle.model.specs.Geometry.{Geometry, Fits, tree_capacity}
use Rattle.model.specs.Blocks.{Bytes}
use Rattle.model.specs.Layout.{level_address}
use Rattle.model.specs.HiddenTree.{owner_of, is_damaged, is_found_at, walk}
use Rattle.model.specs.HiddenHalf.{HiddenWrite, is_live, is_owner_damaged, is_next_damaged}
use Rattle.model.specs.HiddenHalf.{is_blocked}
use Rattle.model.proofs.Laws.Accepted.{GoodWrite}
use Rattle.model.proofs.Tree.Keys.{lt_tree_capacity}
use Rattle.model.proofs.Tree.Ghost.{Tree, slot_at, Ghost}
use Rattle.model.proofs.Tree.Walks.{end_in, some_of_end_in, walk_end, is_damaged-walk}

module _ (g : Geometry) (f : Fits g) (disk : Bytes) (tree : Tree) (ghost : Ghost g disk tree) where
  -- a slot that the tree uses is live
  pub is_live_of_used :
      (number level slot : ℕ) → number < tree_capacity g → level < g.height →
      slot_at g tree level number ≡ some slot → is_live g disk slot ≡ true
  unfolding is_live
  is_live_of_used number level slot h k e =
      let own = ghost.owned number level slot h k e in
      and_both (lt-ltb (owner_of g disk slot) g.hidden own.owner_lt)
      (ap (is_found_at (level_address g slot 0))
      (walk_end g disk tree ghost.links (owner_of g disk slot)
      (lt_tree_capacity g f (owner_of g disk slot) own.owner_lt) f
      ∙ ap (end_in g) own.holds)
      ∙ eq-eqb (level_address g slot 0) (level_address g slot 0) refl)

  pub owner_lt_of_is_live : (slot : ℕ) → is_live g disk slot ≡ true → owner_of g disk slot < g.hidden
  unfolding is_live
  owner_lt_of_is_live slot e = ltb-true (owner_of g disk slot) g.hidden (and_left _ _ e)

  pub holds_of_is_live : (slot : ℕ) → is_live g disk slot ≡ true →
      slot_at g tree 0 (owner_of g disk slot) ≡ some slot
  unfolding is_live
  holds_of_is_live slot e =
      let h : owner_of g disk slot < g.hidden = ltb-true (owner_of g disk slot) g.hidden (and_left _ _ e) in
      some_of_end_in g slot (slot_at g tree 0 (owner_of g disk slot)) (omega (arith, f.height_low))
      (sym (ap (is_found_at (level_address g slot 0))
      (walk_end g disk tree ghost.links (owner_of g disk slot)
      (lt_tree_capacity g f (owner_of g disk slot) h) f))
      ∙ and_right (ltb (owner_of g disk slot) g.hidden)
      (is_found_at (level_address g slot 0) (walk g disk (owner_of g disk slot)).end) e)

  pub unused_of_not_is_live :
      (slot : ℕ) → is_live g disk slot ≡ false → (number level : ℕ) → number < tree_capacity g →
      level < g.height → slot_at g tree level number ≢ some slot
  unused_of_not_is_live slot e number level h k p =
      true_is_not_false (is_live_of_used number level slot h k p) e

  -- ---- no damage ----

  is_owner_damaged_false : (slot : ℕ) → is_owner_damaged g disk slot ≡ false
  unfolding is_owner_damaged
  is_owner_damaged_false slot = ⊎_elim owned free (bool_cases (ltb (owner_of g disk slot) g.hidden))
    where
      owned : ltb (owner_of g disk slot) g.hidden ≡ true →
          (ltb (owner_of g disk slot) g.hidden && is_damaged (walk g disk (owner_of g disk slot)).end) ≡
          false
      owned e =
          and_false_right (ltb (owner_of g disk slot) g.hidden)
          (is_damaged-walk g disk tree ghost.links (owner_of g disk slot)
          (lt_tree_capacity g f (owner_of g disk slot) (ltb-true (owner_of g disk slot) g.hidden e)) f)

      free : ltb (owner_of g disk slot) g.hidden ≡ false →
          (ltb (owner_of g disk slot) g.hidden && is_damaged (walk g disk (owner_of g disk slot)).end) ≡
          false
      free e = and_false_left (is_damaged (walk g disk (owner_of g disk slot)).end) e

  is_next_damaged_false :
      (waiting : List HiddenWrite) → All (GoodWrite g) waiting → is_next_damaged g disk waiting ≡ false
  unfolding is_next_damaged
  is_next_damaged_false [] h = refl
  is_next_damaged_false (next ∷ later) h =
      is_damaged-walk g disk tree ghost.links next.number
      (lt_tree_capacity g f next.number h.0.number_inside) f

  pub is_blocked_false :
      (slot : ℕ) (waiting : List HiddenWrite) → All (GoodWrite g) waiting →
      is_blocked g disk slot waiting ≡ false
  is_blocked_false slot waiting h =
      or_neither (is_owner_damaged_false slot)
      (and_false_right (not (is_live g disk slot)) (is_next_damaged_false waiting h))
