-- Laws of an entry and its node: one for each way through the check of an entry, and the node that an entry
-- without fault leads to and its owner's walk read. Assumes nothing.
use mathlib.Core.Path.{◌≡◌, sym, ap, ap₂, ◌∙◌, subst}
use mathlib.Core.Logic.{◌≢◌}
use mathlib.Core.Bool.{true}
use mathlib.Core.Option.{none, some}
use Prim.Native.Nat.{ℕ, suc, ◌+◌, ◌*◌, ◌-◌, ◌/◌, ◌<◌}
use native.Mathlib.Omega.{arith}
use Rattle.std.specs.Prelude.{Result, Ok, Err}
use Rattle.laws.specs.Checks.{first_of}
use Rattle.laws.proofs.Cases.{none_is_not_some, some_inj}
use Rattle.model.specs.Geometry.{Geometry, block_width}
use Rattle.model.specs.Blocks.{Bytes, DiskAddress, block_at, entry_at}
use Rattle.model.specs.Layout.{is_well_formed}
use Rattle.model.specs.HiddenTree.{span}
use Rattle.model.specs.Invariants.{entries_in}
use Rattle.model.specs.TreeCheck.{MetEntry, met_entry, met_with, met_below, met_at, is_below, entry_checks}
use Rattle.model.specs.TreeCheck.{first_fault}
use Rattle.model.proofs.Laws.TreeCheck.{below_entry, met_below-zero, first_fault-zero, first_fault_own}
use Rattle.model.proofs.Laws.TreeCheck.{first_fault_below, first_fault_nil, formed_of_faultless}
use Rattle.model.proofs.Laws.TreeCheck.{first_of_faultless}
use Rattle.model.proofs.Tree.Check.{key_of_below, index_first}
use Rattle.model.proofs.Laws.Slots.{formed_inside}
use Rattle.layout.specs.declared.refusals.Refusal.{Refusal}
use Rattle.layout.specs.Refusals.{refusal_number, answer_number}
use Rattle.layout.proofs.Laws.Refusals.{refusal-some}
use Rattle.hidden_map.specs.declared.nodes.Nodes.{Nodes}
use Rattle.hidden_map.specs.Nodes.{address_at}
use Rattle.tree_check.specs.Entries.{owner_at, TestedAs}
use Rattle.tree_check.specs.Nodes.{NodeOf}
use Rattle.tree_check.proofs.Laws.Ways.{index_at, read_entry, read_below}

-- ---- an entry and what is below it ----

-- the entry that is read at a place of a node is this one, and its first number this
pub record ReadAt (g : Geometry) (level first place : ℕ) (node : Bytes) (entry : DiskAddress)
    (start : ℕ) : Type 0 where
  pub entry_is : entry ≡ entry_at place node
  pub start_is : start ≡ first + place * span g level

module _ (g : Geometry) (disk : Bytes) {level first place : ℕ} {node : Bytes} {entry : DiskAddress}
    {start : ℕ} (r : ReadAt g level first place node entry start) where
  -- what is met there
  met_at_read :
      let met = met_entry level start entry in
      met_with g met (below_entry g disk met) ≡ met_at g disk level first node place
  met_at_read =
      ap₂
      (λ (n address : ℕ).
      met_with g (met_entry level n address) (below_entry g disk (met_entry level n address)))
      r.start_is r.entry_is

  pub fault_unmapped : entry ≡ 0 → 0 ≡ first_fault g disk (met_at g disk level first node place)
  fault_unmapped z =
      let met = met_entry level start entry in
      sym (first_fault-zero g disk met (below_entry g disk met) z) ∙ ap (first_fault g disk) met_at_read

-- the entry at a place of a node is not 0, and this is what its tests tell
pub record Judged (g : Geometry) (disk : Bytes) (level first place : ℕ) (node entry : DiskAddress)
    (start : ℕ) (tested : Result Nodes Refusal) : Type 0 where
  pub node_of : NodeOf g disk level first node
  pub place_lt : place < entries_in g level
  pub read : ReadAt g level first place (block_at (block_width g) disk node) entry start
  pub not_zero : entry ≢ 0
  pub told : TestedAs g disk (met_entry level start entry) tested

module _ {g : Geometry} {disk : Bytes} {level first place : ℕ} {node entry : DiskAddress} {start : ℕ}
    {tested : Result Nodes Refusal} (j : Judged g disk level first place node entry start tested) where
  abbrev met : MetEntry
  met = met_entry level start entry

  -- the first fault there
  abbrev fault_there : ℕ
  fault_there = first_fault g disk (met_at g disk level first (block_at (block_width g) disk node) place)

  pub fault_own : (fault : Refusal) → tested ≡ Err fault → refusal_number fault ≡ fault_there
  fault_own fault e =
      let own : refusal_number fault ≡ first_of (entry_checks g disk met) =
      ap answer_number (sym e) ∙ j.told.fault_is in
      own
      ∙ sym (first_fault_own g disk met (below_entry g disk met) j.not_zero
      (λ z. refusal-some fault (own ∙ z)))
      ∙ ap (first_fault g disk) (met_at_read g disk j.read)

  module _ (nodes : Nodes) (p : tested ≡ Ok nodes) where
    faultless : first_of (entry_checks g disk met) ≡ 0
    faultless = sym j.told.fault_is ∙ ap answer_number p

    -- the answer is that of what is below
    left_below : first_fault g disk (below_entry g disk met) ≡ fault_there
    left_below =
        sym (first_fault_below g disk met (below_entry g disk met) j.not_zero faultless)
        ∙ ap (first_fault g disk) (met_at_read g disk j.read)

    pub start_lt : start < g.hidden
    start_lt = first_of_faultless g disk met faultless

    pub fault_data : level ≡ 0 → 0 ≡ fault_there
    fault_data l =
        sym (first_fault_nil g disk)
        ∙ ap (first_fault g disk)
        (sym (met_below-zero g disk start (block_at (block_width g) disk entry))
        ∙ ap (λ (n : ℕ). below_entry g disk (met_entry n start entry)) (sym l))
        ∙ left_below

    -- how many entries of the level the tree has before it
    abbrev index : ℕ
    index = index_at j.node_of place

    start_is : start ≡ index * span g level
    start_is =
        j.read.start_is ∙ ap (λ (n : ℕ). n + place * span g level) j.node_of.first_is
        ∙ sym (index_first g level j.node_of.index place)

    formed : is_well_formed g level entry ≡ true
    formed = formed_of_faultless g disk met faultless

    module _ (l : level ≢ 0) where
      -- the walk of the owner read the node that the entry leads to
      read_there : address_at nodes level ≡ some entry
      read_there =
          let owned = j.told.nodes_of nodes p in
          let owner = owner_at g disk met in
          owned.nodes_are level
          ∙ read_entry j.node_of place j.place_lt owner
          (key_of_below g level index owner
          (ap (λ (n : ℕ). is_below g level n owner) (sym start_is) ∙ owned.owner_below))
          entry j.read.entry_is j.not_zero formed l

      pub is_read : address_at nodes level ≢ none
      is_read z = none_is_not_some entry (sym z ∙ read_there)

      module _ (below : DiskAddress) (r : address_at nodes level ≡ some below) where
        below_is : entry ≡ below
        below_is = some_inj entry below (sym read_there ∙ r)

        pub fault_below : (answer : ℕ) →
            answer ≡
            first_fault g disk
            (met_below g disk (suc (level - 1)) start (block_at (block_width g) disk below)) →
            answer ≡ fault_there
        fault_below answer a =
            let up : suc (level - 1) ≡ level = omega arith in
            a
            ∙ ap₂
            (λ (m at : ℕ). first_fault g disk (met_below g disk m start (block_at (block_width g) disk at)))
            up (sym below_is)
            ∙ left_below

        -- the block that was read there is a node, one level lower
        pub node_below : NodeOf g disk (level - 1) start below
        node_below =
            let up : suc (level - 1) ≡ level = omega arith in
            subst (NodeOf g disk (level - 1) start) below_is
            (record {
              drive = j.node_of.drive;
              level_lt = omega (arith, j.node_of.level_lt);
              node_lt = formed_inside g level entry formed;
              index = index;
              first_is = start_is ∙ ap (λ (n : ℕ). index * span g n) (sym up);
              walks_pass = λ number k wanted w.
                  read_below j.node_of place j.place_lt number
                  (ap (λ (n : ℕ). number / span g n) (sym up) ∙ k) entry j.read.entry_is j.not_zero
                  formed l wanted w;
            })
