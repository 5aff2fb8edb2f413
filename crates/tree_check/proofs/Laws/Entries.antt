-- What the tests of an entry tell: its fault, or the nodes of its slot's owner. Assumes nothing.
use mathlib.Core.Path.{◌≡◌, refl, sym, ap, ◌∙◌, subst}
use mathlib.Core.Bool.{Bool, true, false}
use Prim.Native.Nat.{ℕ, ◌<◌}
use native.Mathlib.Omega.{arith}
use Rattle.std.specs.Prelude.{Result, Ok, Err}
use Rattle.laws.specs.Checks.{first_of}
use Rattle.model.specs.Geometry.{Geometry}
use Rattle.model.specs.Blocks.{Bytes, DiskAddress}
use Rattle.model.specs.Layout.{slot_of, level_address, is_well_formed}
use Rattle.model.specs.HiddenTree.{owner_of, is_found_at}
use Rattle.model.specs.TreeCheck.{MetEntry, met_entry, is_below, is_owned, entry_checks}
use Rattle.model.proofs.Laws.TreeCheck.{is_owned_not_below, is_owned_below, fault_fifteen, fault_none}
use Rattle.layout.specs.declared.refusals.Refusal.{Refusal}
use Rattle.layout.specs.declared.refusals.Refusal.TheVariants as refusal
use Rattle.layout.specs.Refusals.{refusal_number}
use Rattle.hidden_map.specs.declared.nodes.Nodes.{Nodes}
use Rattle.hidden_map.specs.declared.walks.Trail.{Trail}
use Rattle.hidden_map.specs.Ends.{end_of}
use Rattle.hidden_map.specs.Nodes.{read_at}
use Rattle.hidden_map.specs.Walks.{Walked}
use Rattle.tree_check.specs.Entries.{owner_at, OwnerNodes, TestedAs}

module _ (g : Geometry) (disk : Bytes) (met : MetEntry) where
  pub tested_fault :
      (fault : Refusal) → refusal_number fault ≡ first_of (entry_checks g disk met) →
      TestedAs g disk met (Err fault)
  tested_fault fault e =
      record {
        fault_is = e;
        nodes_of = λ nodes q. absurd (let z : ◌≡◌ {A = ℕ} 0 1 = cc in omega arith);
      }

  tested_passed :
      (nodes : Nodes) → 0 ≡ first_of (entry_checks g disk met) → OwnerNodes g disk met nodes →
      TestedAs g disk met (Ok nodes)
  tested_passed nodes e owned =
      record {
        fault_is = e;
        nodes_of = λ told q. subst (OwnerNodes g disk met) (nodes_inj nodes told q) owned;
      }
    where
      nodes_inj : (one other : Nodes) → ◌≡◌ {A = Result Nodes Refusal} (Ok one) (Ok other) → one ≡ other
      nodes_inj one other q = cc

-- of an entry that 13 and 14 do not meet, by its slot's owner
module _ (g : Geometry) (disk : Bytes) (level first : ℕ) (entry : DiskAddress)
    (formed : is_well_formed g level entry ≡ true) (h : first < g.hidden) (slot owner : ℕ)
    (s : slot ≡ slot_of g entry) (o : owner ≡ owner_of g disk slot) (isIn : Bool)
    (b : isIn ≡ is_below g level first owner) where
  abbrev met : MetEntry
  met = met_entry level first entry

  pub tested_not_below : isIn ≡ false → TestedAs g disk met (Err refusal.WrongOwner)
  tested_not_below z =
      tested_fault g disk met refusal.WrongOwner
      (fault_fifteen g disk met true (sym formed) refl h false
      (is_owned_not_below g disk level first entry slot owner s o (sym b ∙ z)) refl)

  -- the owner is below it, and its walk is made
  module _ (inside : isIn ≡ true) (trail : Trail) (walked : Walked g disk owner trail) (ends : Bool)
      (q : ends ≡ is_found_at (level_address g slot 0) (end_of trail.end)) where
    owned_is : ends ≡ is_owned g disk met
    owned_is =
        is_owned_below g disk level first entry slot owner s o (sym b ∙ inside) ends
        (q ∙ ap (is_found_at (level_address g slot 0)) walked.end_is)

    pub tested_elsewhere : ends ≡ false → TestedAs g disk met (Err refusal.WrongOwner)
    tested_elsewhere z =
        tested_fault g disk met refusal.WrongOwner
        (fault_fifteen g disk met true (sym formed) refl h ends owned_is z)

    pub tested_owned : ends ≡ true → TestedAs g disk met (Ok trail.nodes)
    tested_owned z =
        let at : owner ≡ owner_at g disk met = o ∙ ap (owner_of g disk) s in
        tested_passed g disk met trail.nodes
        (fault_none g disk met true (sym formed) refl h ends owned_is z)
        (record {
          owner_below = ap (is_below g level first) (sym at) ∙ sym b ∙ inside;
          nodes_are = λ wanted.
              walked.nodes_are wanted ∙ ap (λ (number : ℕ). read_at g disk number wanted) at;
        })
