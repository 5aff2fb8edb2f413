-- What a hidden read shows under the ghost tree: the block in the number's slot, or the caller's blank.
-- Assumes nothing.
use mathlib.Core.Path.{◌≡◌, refl, ap, ◌∙◌}
use mathlib.Core.Option.{Option, none, some}
use Prim.Native.Nat.{ℕ, ◌<◌}
use Rattle.model.specs.Calls.{or_else}
use Rattle.model.specs.Geometry.{Geometry, Fits, tree_capacity}
use Rattle.model.specs.Blocks.{Bytes}
use Rattle.model.specs.HiddenTree.{walk}
use Rattle.model.specs.Calls.{shown_at}
use Rattle.model.proofs.Tree.Ghost.{Tree, slot_at, Linked, block_in, value_of}
use Rattle.model.proofs.Tree.Walks.{end_in, walk_end}

pub shown_at-walk :
    (g : Geometry) (disk blank : Bytes) (tree : Tree) (number : ℕ) → Fits g → Linked g disk tree →
    number < tree_capacity g →
    shown_at g disk blank (walk g disk number).end ≡ or_else (value_of g disk tree number) blank
shown_at-walk g disk blank tree number f links h =
    ap (shown_at g disk blank) (walk_end g disk tree links number h f) ∙ by (slot_at g tree 0 number)
  where
    by : (held : Option ℕ) → shown_at g disk blank (end_in g held) ≡ or_else (block_in g disk held) blank
    by none = refl
    by (some slot) = refl
