-- Laws of the way that a walk takes through a node: the place that it takes there, and what it reads below:
-- the node of the entry there, and what is read from that on. Assumes nothing.
use mathlib.Core.Path.{◌≡◌, refl, sym, ap, ◌∙◌}
use mathlib.Core.Logic.{◌≢◌}
use mathlib.Core.Bool.{true}
use mathlib.Core.Option.{Option, some}
use Prim.Native.Nat.{ℕ, suc, ◌+◌, ◌*◌, ◌-◌, ◌/◌, ◌%◌, ◌≤◌, ◌<◌}
use native.Mathlib.Omega.{arith}
use lib.Arith.{digits_div, digits_mod}
use Rattle.model.specs.Geometry.{Geometry, block_width}
use Rattle.model.specs.Blocks.{Bytes, DiskAddress, block_at, entry_at}
use Rattle.model.specs.Layout.{is_well_formed}
use Rattle.model.specs.HiddenTree.{span, branch_at, found}
use Rattle.model.specs.Invariants.{entries_in}
use Rattle.model.proofs.Tree.Keys.{key_of_suc, branch_at-key_of}
use Rattle.hidden_map.specs.Ends.{step_of}
use Rattle.hidden_map.specs.Nodes.{with_address, read_from, read_at}
use Rattle.hidden_map.proofs.Laws.Steps.{step_of_found}
use Rattle.hidden_map.proofs.Laws.Nodes.{read_from_goes}
use Rattle.hidden_map.proofs.Laws.Levels.{with_address_here, with_address_other}
use Rattle.tree_check.specs.Nodes.{NodeOf}

module _ {g : Geometry} {disk : Bytes} {level first : ℕ} {node : DiskAddress}
    (n : NodeOf g disk level first node) (place : ℕ) where
  abbrev block : Bytes
  block = block_at (block_width g) disk node

  -- how many entries of the level the tree has before the one at the place
  abbrev pub index_at : ℕ
  index_at = n.index * entries_in g level + place

  -- a number below that entry
  module _ (h : place < entries_in g level) (number : ℕ) (k : number / span g level ≡ index_at) where
    -- is one of the node's
    in_node_lem : number / span g (suc level) ≡ n.index
    in_node_lem =
        key_of_suc g level number ∙ ap (λ (key : ℕ). key / entries_in g level) k ∙ digits_div n.index h

    -- and takes that place
    branch_is : branch_at g number level ≡ place
    branch_is =
        branch_at-key_of g number level ∙ ap (λ (key : ℕ). key % entries_in g level) k
        ∙ digits_mod n.index h

    module _ (entry : DiskAddress) (e : entry ≡ entry_at place block) (ne : entry ≢ 0)
        (formed : is_well_formed g level entry ≡ true) (l : level ≢ 0) where
      -- what is read from the node on that the entry leads to
      abbrev below : (wanted : ℕ) → Option DiskAddress
      below = read_from g disk number (level - 1) (block_at (block_width g) disk entry)

      step_is : found entry ≡ step_of g number level block
      step_is =
          step_of_found g number level block entry
          (e ∙ ap (λ (at : ℕ). entry_at at block) (sym branch_is)) ne true (sym formed) refl

      read_goes : (wanted : ℕ) → wanted ≤ level →
          read_at g disk number wanted ≡ with_address below level entry wanted
      read_goes wanted w =
          n.walks_pass number in_node_lem wanted w
          ∙ read_from_goes g disk number block wanted level entry l step_is

      -- the walk reads the entry's node
      pub read_entry : read_at g disk number level ≡ some entry
      read_entry = read_goes level (omega arith) ∙ with_address_here below level entry

      -- and goes on from there
      pub read_below : (wanted : ℕ) → wanted ≤ level - 1 → read_at g disk number wanted ≡ below wanted
      read_below wanted w =
          read_goes wanted (omega (arith, l))
          ∙ with_address_other below level entry wanted (λ z. omega (arith, l))
