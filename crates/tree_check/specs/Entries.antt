-- What the test of an entry's owner asks, and what the tests of an entry tell. Assumes nothing.
use Rattle.std.specs.Prelude.{◌≡◌, true, ℕ, ◌<◌, Result, Ok}
use Rattle.laws.specs.Checks.{first_of}
use Rattle.model.specs.Geometry.{Geometry}
use Rattle.model.specs.Blocks.{Bytes, DiskAddress}
use Rattle.model.specs.Layout.{slot_of, Drive, is_well_formed}
use Rattle.model.specs.HiddenTree.{owner_of}
use Rattle.model.specs.TreeCheck.{MetEntry, is_below, entry_checks}
use Rattle.layout.specs.declared.refusals.Refusal.{Refusal}
use Rattle.layout.specs.Refusals.{answer_number}
use Rattle.hidden_map.specs.declared.nodes.Nodes.{Nodes}
use Rattle.hidden_map.specs.Nodes.{address_at, read_at}

-- an entry that 13 and 14 do not meet
pub record Ownable (g : Geometry) (disk : Bytes) (level first : ℕ) (entry : DiskAddress) : Type 0 where
  pub drive : Drive g disk
  pub level_lt : level < g.height
  pub formed : is_well_formed g level entry ≡ true
  pub first_lt : first < g.hidden

-- the owner of the slot that an entry leads to
abbrev pub owner_at : Geometry → (disk : Bytes) → MetEntry → ℕ
owner_at g disk met = owner_of g disk (slot_of g met.entry)

-- the owner is below the entry, and these are the nodes of its walk
pub record OwnerNodes (g : Geometry) (disk : Bytes) (met : MetEntry) (nodes : Nodes) : Type 0 where
  pub owner_below : is_below g met.level met.first (owner_at g disk met) ≡ true
  pub nodes_are : (level : ℕ) → address_at nodes level ≡ read_at g disk (owner_at g disk met) level

-- the first fault in the order of the tests, or the nodes of the owner's walk
pub record TestedAs (g : Geometry) (disk : Bytes) (met : MetEntry) (tested : Result Nodes Refusal) :
    Type 0 where
  pub fault_is : answer_number tested ≡ first_of (entry_checks g disk met)
  pub nodes_of : (nodes : Nodes) → tested ≡ Ok nodes → OwnerNodes g disk met nodes
