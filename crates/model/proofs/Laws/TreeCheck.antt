-- Laws of the whole-tree check: its tests, what is met at the places of a node and below an entry, the checks
-- of what is met, the first fault by entries and by what is below, and the call. Assumes nothing.
use mathlib.Core.Path.{◌≡◌, refl, sym, ap, ◌∙◌}
use mathlib.Core.Logic.{◌≢◌}
use mathlib.Core.Bool.{true, Bool, false, not}
use mathlib.Core.List.{List, [], ◌∷◌, ◌++◌, append_assoc, append-nil}
use Prim.Native.Nat.{ℕ, zero, suc, ◌+◌, ◌<◌, ◌≤◌}
use native.Mathlib.Omega.{arith}
use borrow.Author.Tests.{leb-false, eqb-true, eq-eqb, ne_eqb, not-false, le-leb, lt-leb}
use Rattle.laws.specs.Checks.{Check, first_of}
use Rattle.laws.proofs.Cases.{true_is_not_false, cond_true}
use Rattle.laws.proofs.Checks.{Numbered, numbered-append, passed_of_zero, first_of_nil, first_of-append_stop}
use Rattle.laws.proofs.Checks.{first_of-append-zero, first_of_stop, first_of_pass}
use Rattle.laws.proofs.Decides.{Decides, decides_and, decides_le, decides_lt}
use Rattle.model.specs.Geometry.{Geometry, block_width}
use Rattle.model.specs.Blocks.{Bytes, DiskAddress, block_at}
use Rattle.model.specs.Layout.{is_well_formed, slot_of, level_address, geometry_in}
use Rattle.model.specs.HiddenTree.{owner_of, End, found, unmapped, damaged, is_found_at, walk}
use Rattle.model.specs.Invariants.{entries_in}
use Rattle.model.specs.TreeCheck.{MetEntry, met_in_turn, met_with, met_below, met_at, entry_checks, is_below}
use Rattle.model.specs.TreeCheck.{met_checks, first_fault, met_entry, is_owned, tree_checks, tree_refusal}
use Rattle.model.specs.TreeCheck.{met_entries}
use Rattle.model.specs.TreeConditions.{Below}
use Rattle.model.specs.Refusals.{drive_refusal}
use Rattle.model.proofs.Laws.Refusals.{after_drive_stop, after_drive_pass}

-- ---- tests ----

pub decides_found :
    (address : DiskAddress) (end : End) → Decides (is_found_at address end) (end ≡ found address)
decides_found address end =
    record {
      holds = holds end;
      fails = λ e p. true_is_not_false (ap (is_found_at address) p ∙ eq-eqb address address refl) e;
    }
  where
    holds : (end : End) → is_found_at address end ≡ true → end ≡ found address
    holds (found reached) e = ap {B = End} found (eqb-true reached address e)
    holds unmapped e = true_is_not_false e refl
    holds damaged e = true_is_not_false e refl

pub decides_below : (g : Geometry) (level first number : ℕ) →
    Decides (is_below g level first number) (Below g level first number)
decides_below g level first number = decides_and (decides_le first number) (decides_lt number _)

-- ---- an entry's owner ----

module _ (g : Geometry) (disk : Bytes) (level first : ℕ) (entry : DiskAddress) (slot owner : ℕ)
    (s : slot ≡ slot_of g entry) (o : owner ≡ owner_of g disk slot) where
  pub is_owned_not_below :
      is_below g level first owner ≡ false → false ≡ is_owned g disk (met_entry level first entry)
  unfolding is_owned
  is_owned_not_below z = rw (← s, ← o, z)

  pub is_owned_below :
      is_below g level first owner ≡ true → (ends : Bool) →
      ends ≡ is_found_at (level_address g slot 0) (walk g disk owner).end →
      ends ≡ is_owned g disk (met_entry level first entry)
  unfolding is_owned
  is_owned_below z ends q = rw (← s, ← o, z, q)

-- ---- an entry's three faults, in their order ----

module _ (g : Geometry) (disk : Bytes) (met : MetEntry) (isFormed : Bool)
    (f : isFormed ≡ is_well_formed g met.level met.entry) where
  pub fault_thirteen : isFormed ≡ false → 13 ≡ first_of (entry_checks g disk met)
  unfolding entry_checks
  fault_thirteen z = sym (first_of_stop 13 _ (ap not (sym f ∙ z)))

  module _ (formed : isFormed ≡ true) where
    pub fault_fourteen : g.hidden ≤ met.first → 14 ≡ first_of (entry_checks g disk met)
    unfolding entry_checks
    fault_fourteen h =
        sym (first_of_pass 13 _ (ap not (sym f ∙ formed))
        ∙ first_of_stop 14 _ (le-leb g.hidden met.first h))

    module _ (h : met.first < g.hidden) (owned : Bool) (o : owned ≡ is_owned g disk met) where
      pub fault_fifteen : owned ≡ false → 15 ≡ first_of (entry_checks g disk met)
      unfolding entry_checks
      fault_fifteen z =
          sym (first_of_pass 13 _ (ap not (sym f ∙ formed))
          ∙ first_of_pass 14 _ (lt-leb g.hidden met.first h) ∙ first_of_stop 15 _ (ap not (sym o ∙ z)))

      pub fault_none : owned ≡ true → 0 ≡ first_of (entry_checks g disk met)
      unfolding entry_checks
      fault_none z =
          sym (first_of_pass 13 _ (ap not (sym f ∙ formed))
          ∙ first_of_pass 14 _ (lt-leb g.hidden met.first h) ∙ first_of_pass 15 _ (ap not (sym o ∙ z))
          ∙ first_of_nil)

-- ---- what is met ----

-- what is met below an entry
abbrev pub below_entry : Geometry → (disk : Bytes) → MetEntry → List MetEntry
below_entry g disk met =
    met_below g disk met.level met.first (block_at (block_width g) disk met.entry)

module _ (g : Geometry) (disk : Bytes) where
  pub met_below-zero : (first : ℕ) (block : Bytes) → met_below g disk 0 first block ≡ []
  unfolding met_below
  met_below-zero first block = refl

  pub met_below_suc : (level first : ℕ) (node : Bytes) →
      met_below g disk (suc level) first node ≡
      met_in_turn (met_at g disk level first node) (entries_in g level) 0
  unfolding met_below
  met_below_suc level first node = refl

pub met_in_turn-add : (at : ℕ → List MetEntry) (front rest place : ℕ) →
    met_in_turn at (front + rest) place ≡ met_in_turn at front place ++ met_in_turn at rest (place + front)
unfolding met_in_turn
met_in_turn-add at zero rest place =
    let n : zero + rest ≡ rest = omega arith in
    let p : place + zero ≡ place = omega arith in
    rw (n, p)
met_in_turn-add at (suc front) rest place =
    let n : suc front + rest ≡ suc (front + rest) = omega arith in
    let p : place + suc front ≡ suc place + front = omega arith in
    rw (n, p)
    (ap (λ (mets : List MetEntry). at place ++ mets) (met_in_turn-add at front rest (suc place))
    ∙ sym (append_assoc (at place) (met_in_turn at front (suc place))
    (met_in_turn at rest (suc place + front))))

pub met_in_turn_one : (at : ℕ → List MetEntry) (place : ℕ) → met_in_turn at 1 place ≡ at place
unfolding met_in_turn
met_in_turn_one at place = append-nil (at place)

module _ (g : Geometry) (met : MetEntry) (below : List MetEntry) where
  pub met_with-zero : met.entry ≡ 0 → met_with g met below ≡ []
  unfolding met_with
  met_with-zero e = cond_true _ _ (eq-eqb met.entry 0 e)

  pub met_with_formed :
      met.entry ≢ 0 → is_well_formed g met.level met.entry ≡ true → met_with g met below ≡ met ∷ below
  unfolding met_with
  met_with_formed ne e = rw (ne_eqb met.entry 0 ne, e)

-- ---- the checks of what is met ----

module _ (g : Geometry) (disk : Bytes) where
  numbered_entry : (met : MetEntry) → Numbered (entry_checks g disk met)
  unfolding entry_checks
  numbered_entry met = (λ e. omega arith, ((λ e. omega arith), ((λ e. omega arith), tt)))

  -- an entry without fault is well formed, and its first number is a hidden number
  module _ (met : MetEntry) (z : first_of (entry_checks g disk met) ≡ 0) where
    pub formed_of_faultless : is_well_formed g met.level met.entry ≡ true
    unfolding entry_checks
    formed_of_faultless = not-false _ (passed_of_zero (entry_checks g disk met) (numbered_entry met) z).0

    pub first_of_faultless : met.first < g.hidden
    unfolding entry_checks
    first_of_faultless =
        leb-false g.hidden met.first
        (passed_of_zero (entry_checks g disk met) (numbered_entry met) z).1.0

  pub numbered_met : (mets : List MetEntry) → Numbered (met_checks g disk mets)
  unfolding met_checks
  numbered_met [] = tt
  numbered_met (met ∷ later) =
      numbered-append (entry_checks g disk met) (met_checks g disk later) (numbered_entry met)
      (numbered_met later)

  pub met_checks-append : (front rest : List MetEntry) →
      met_checks g disk (front ++ rest) ≡ met_checks g disk front ++ met_checks g disk rest
  unfolding met_checks
  met_checks-append [] rest = refl
  met_checks-append (met ∷ later) rest =
      ap (λ (cs : List Check). entry_checks g disk met ++ cs) (met_checks-append later rest)
      ∙ sym (append_assoc (entry_checks g disk met) (met_checks g disk later) (met_checks g disk rest))

  -- ---- the first fault, by entries ----

  pub first_fault_nil : first_fault g disk [] ≡ 0
  unfolding met_checks
  first_fault_nil = first_of_nil

  pub first_fault-append_stop : (front rest : List MetEntry) → first_fault g disk front ≢ 0 →
      first_fault g disk (front ++ rest) ≡ first_fault g disk front
  first_fault-append_stop front rest f =
      ap first_of (met_checks-append front rest)
      ∙ first_of-append_stop (met_checks g disk front) (met_checks g disk rest) f

  pub first_fault-append-zero : (front rest : List MetEntry) → first_fault g disk front ≡ 0 →
      first_fault g disk (front ++ rest) ≡ first_fault g disk rest
  first_fault-append-zero front rest z =
      ap first_of (met_checks-append front rest)
      ∙ first_of-append-zero (met_checks g disk front) (met_checks g disk rest) (numbered_met front) z

  module _ (met : MetEntry) (below : List MetEntry) where
    -- a 0 has no fault
    pub first_fault-zero : met.entry ≡ 0 → first_fault g disk (met_with g met below) ≡ 0
    first_fault-zero e = ap (first_fault g disk) (met_with-zero g met below e) ∙ first_fault_nil

    module _ (some : met.entry ≢ 0) where
      -- an entry's own fault comes first
      pub first_fault_own : first_of (entry_checks g disk met) ≢ 0 →
          first_fault g disk (met_with g met below) ≡ first_of (entry_checks g disk met)
      unfolding met_with met_checks
      first_fault_own f =
          rw (ne_eqb met.entry 0 some) (first_of-append_stop (entry_checks g disk met) _ f)

      -- an entry without fault leaves the answer to what is below it
      pub first_fault_below : first_of (entry_checks g disk met) ≡ 0 →
          first_fault g disk (met_with g met below) ≡ first_fault g disk below
      unfolding met_checks
      first_fault_below z =
          ap (first_fault g disk) (met_with_formed g met below some (formed_of_faultless met z))
          ∙ first_of-append-zero (entry_checks g disk met) (met_checks g disk below) (numbered_entry met) z

-- ---- the call ----

module _ (disk : Bytes) where
  -- a refused drive answers
  pub tree_refusal_drive : drive_refusal disk ≢ 0 → tree_refusal disk ≡ drive_refusal disk
  unfolding tree_refusal
  tree_refusal_drive ne = after_drive_stop disk (tree_checks (geometry_in disk) disk) ne

  -- any other leaves the answer to the root's entries
  pub tree_refusal_tree :
      drive_refusal disk ≡ 0 →
      tree_refusal disk ≡ first_fault (geometry_in disk) disk (met_entries (geometry_in disk) disk)
  unfolding tree_refusal
  tree_refusal_tree e = after_drive_pass disk (tree_checks (geometry_in disk) disk) e
