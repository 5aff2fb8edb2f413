-- The whole-tree check and the hidden invariant: a drive that refusals 1 to 3 do not meet passes the check
-- exactly if it has the invariant. An entry passes its three tests just if it is good, and the check meets
-- just the entries that the invariant speaks of. Assumes nothing.
use mathlib.Core.Path.{◌≡◌, refl, sym, ap, ap₂, ◌∙◌, subst}
use mathlib.Core.Logic.{◌≢◌}
use mathlib.Core.Bool.{true, not}
use mathlib.Core.List.{List}
use Prim.Native.Nat.{ℕ, zero, suc, ◌+◌, ◌*◌, ◌-◌, ◌/◌, ◌%◌, ◌<◌}
use native.Mathlib.Nat.{zero-add, add-mul, mul_assoc, mul_comm, zero-mul, div-add-mod', mod-lt}
use native.Mathlib.Omega.{arith}
use lib.Arith.{digits_div}
use borrow.Author.Tests.{leb-false, lt-leb, not-false}
use Rattle.laws.proofs.Cases.{and_left, and_right, and_both, true_is_not_false}
use Rattle.laws.proofs.Checks.{Passed}
use Rattle.laws.proofs.Decides.{test_of}
use Rattle.model.specs.Geometry.{Geometry, Fits, root_address, block_width}
use Rattle.model.specs.Blocks.{Bytes, DiskAddress, block_at, entry_at}
use Rattle.model.specs.Layout.{slot_of, level_address, is_well_formed}
use Rattle.model.specs.HiddenTree.{owner_of, span, walk}
use Rattle.model.specs.Invariants.{entries_in, Met, in_root, in_node, GoodEntry, HiddenInvariant}
use Rattle.model.specs.TreeCheck.{MetEntry, met_entry, met_with, met_below, met_entries, met_at, is_below}
use Rattle.model.specs.TreeCheck.{is_owned, entry_checks, met_checks}
use Rattle.model.proofs.Laws.Slots.{is_slot_block_below}
use Rattle.model.proofs.Laws.TreeCheck.{decides_found, decides_below, below_entry, met_below-zero}
use Rattle.model.proofs.Laws.TreeCheck.{met_below_suc}
use Rattle.model.proofs.Laws.TreePasses.{Passes, passes_place, passes_turns, passes_own, passes_below}
use Rattle.model.proofs.Laws.TreePasses.{passes_with}
use Rattle.model.proofs.Tree.Keys.{span_suc, span_positive}

-- ---- one entry ----

-- the entry with a level and an index, as the check meets it
abbrev indexed : Geometry → (level index : ℕ) → (entry : DiskAddress) → MetEntry
indexed g level index entry = met_entry level (index * span g level) entry

-- the numbers below an entry are those that its index counts
pub key_of_below :
    (g : Geometry) (level index number : ℕ) → is_below g level (index * span g level) number ≡ true →
    number / span g level ≡ index
key_of_below g level index number e =
    let below = (decides_below g level (index * span g level) number).holds e in
    let rest : number - index * span g level < span g level = omega (arith, below.0, below.1) in
    let whole : index * span g level + (number - index * span g level) ≡ number = omega (arith, below.0) in
    ap (λ (n : ℕ). n / span g level) (sym whole) ∙ digits_div index rest

module _ (g : Geometry) (f : Fits g) (disk : Bytes) (level index : ℕ) (entry : DiskAddress) where
  abbrev slot : ℕ
  slot = slot_of g entry

  abbrev owner : ℕ
  owner = owner_of g disk slot

  abbrev met : MetEntry
  met = indexed g level index entry

  below_of_key : owner / span g level ≡ index → is_below g level (index * span g level) owner ≡ true
  below_of_key e =
      let whole : index * span g level + owner % span g level ≡ owner =
      ap (λ (n : ℕ). n * span g level + owner % span g level) (sym e) ∙ div-add-mod' owner (span g level) in
      let rest = mod-lt owner (span_positive g f level) in
      test_of (decides_below g level (index * span g level) owner) (omega arith, omega arith)

  good_of_passed : Passed (entry_checks g disk met) → GoodEntry g disk level index entry
  unfolding entry_checks is_owned
  good_of_passed p =
      let owned = not-false _ p.1.1.0 in
      record {
        well_formed = not-false _ p.0;
        within = leb-false g.hidden (index * span g level) p.1.0;
        owner_below =
            key_of_below g level index owner
            (and_left (is_below g level (index * span g level) owner) _ owned);
        owner_found =
            (decides_found (level_address g slot 0) (walk g disk owner).end).holds
            (and_right (is_below g level (index * span g level) owner) _ owned);
      }

  passed_of_good : GoodEntry g disk level index entry → Passed (entry_checks g disk met)
  unfolding entry_checks is_owned
  passed_of_good good = (
    ap not good.well_formed,
    (
      lt-leb g.hidden (index * span g level) good.within,
      (
        ap not (and_both (below_of_key good.owner_below)
            (test_of (decides_found (level_address g slot 0) (walk g disk owner).end) good.owner_found)),
        tt,
      ),
    ),
  )

-- ---- the check and the invariant ----

-- the first number below an entry, by its node's
pub index_first :
    (g : Geometry) (level above place : ℕ) →
    (above * entries_in g level + place) * span g level ≡ above * span g (suc level) + place * span g level
index_first g level above place =
    add-mul (above * entries_in g level) place (span g level)
    ∙ ap (λ (n : ℕ). n + place * span g level)
    (mul_assoc above (entries_in g level) (span g level)
    ∙ ap (λ (n : ℕ). above * n) (mul_comm (entries_in g level) (span g level) ∙ sym (span_suc g level)))

module _ (g : Geometry) (f : Fits g) (disk : Bytes) where
  -- what the check meets at an entry with an index, and below it
  abbrev met_of : (level index : ℕ) → (entry : DiskAddress) → List MetEntry
  met_of level index entry =
      let met = indexed g level index entry in
      met_with g met (below_entry g disk met)

  -- at a place of a node with an index
  met_at_index : (level above place : ℕ) (node : Bytes) →
      met_at g disk level (above * span g (suc level)) node place ≡
      met_of level (above * entries_in g level + place) (entry_at place node)
  met_at_index level above place node =
      ap (λ (first : ℕ).
      met_with g (met_entry level first (entry_at place node))
      (below_entry g disk (met_entry level first (entry_at place node))))
      (sym (index_first g level above place))

  passes_node : (level above place : ℕ) (node : Bytes) →
      Passes g disk (met_below g disk (suc level) (above * span g (suc level)) node) →
      place < entries_in g level →
      Passes g disk (met_of level (above * entries_in g level + place) (entry_at place node))
  passes_node level above place node p h =
      let first = above * span g (suc level) in
      subst (Passes g disk) (met_at_index level above place node)
      (rw (zero-add place) at (passes_place g disk (met_at g disk level first node) (entries_in g level) 0 place
      (subst (Passes g disk) (met_below_suc g disk level first node) p) h))

  node_passes : (level above : ℕ) (node : Bytes) →
      ((place : ℕ) → place < entries_in g level →
      Passes g disk (met_of level (above * entries_in g level + place) (entry_at place node))) →
      Passes g disk (met_below g disk (suc level) (above * span g (suc level)) node)
  node_passes level above node each =
      let first = above * span g (suc level) in
      subst (Passes g disk) (sym (met_below_suc g disk level first node))
      (passes_turns g disk (met_at g disk level first node) (entries_in g level) 0
      (λ place h.
      rw (zero-add place)
      (subst (Passes g disk) (sym (met_at_index level above place node)) (each place h))))

  -- the root's numbers begin with 0
  abbrev root : Bytes
  root = block_at (block_width g) disk (root_address g)

  root_is : (level : ℕ) → suc level ≡ g.height →
      met_entries g disk ≡ met_below g disk (suc level) (0 * span g (suc level)) root
  root_is level e =
      ap₂ (λ (n first : ℕ). met_below g disk n first root) (sym e) (sym (zero-mul (span g (suc level))))

  -- ---- a drive that passes ----

  module _ (passed : Passes g disk (met_entries g disk)) where
    passes_met : (level index : ℕ) (entry : DiskAddress) → Met g disk level index entry →
        Passes g disk (met_of level index entry)
    passes_met level index entry (in_root e h p) =
        let none : 0 * entries_in g level + index ≡ index = omega (arith, zero-mul (entries_in g level)) in
        subst (λ (at : ℕ). Passes g disk (met_of level index at)) (sym p)
        (subst (λ (n : ℕ). Passes g disk (met_of level n (entry_at index root))) none
        (passes_node level 0 index root (subst (Passes g disk) (root_is level e) passed) h))
    passes_met level index entry (in_node {above = above} {node = node} {place = place} met formed h e p) =
        let some : node ≢ 0 =
        λ z. true_is_not_false formed (is_slot_block_below g (suc level) node (omega arith)) in
        let at = indexed g (suc level) above node in
        subst (λ (address : ℕ). Passes g disk (met_of level index address)) (sym p)
        (subst
        (λ (n : ℕ). Passes g disk (met_of level n (entry_at place (block_at (block_width g) disk node)))) (sym e)
        (passes_node level above place (block_at (block_width g) disk node)
        (passes_below g disk at (below_entry g disk at) some formed
        (passes_met (suc level) above node met)) h))

    pub sound_of_passes : HiddenInvariant g disk
    sound_of_passes =
        record {
          good_entries = λ level index entry met ne.
              let at = indexed g level index entry in
              good_of_passed g f disk level index entry
              (passes_own g disk at (below_entry g disk at) ne (passes_met level index entry met));
        }

  -- ---- a drive with the invariant ----

  module _ (sound : HiddenInvariant g disk) where
    -- every entry of a node is met
    abbrev AllMet : (level above : ℕ) → (node : Bytes) → Type 0
    AllMet level above node =
        (place : ℕ) → place < entries_in g level →
        Met g disk level (above * entries_in g level + place) (entry_at place node)

    met_passes :
        (level index : ℕ) (entry : DiskAddress) → Met g disk level index entry →
        (is_well_formed g level entry ≡ true →
        Passes g disk (below_entry g disk (indexed g level index entry))) →
        Passes g disk (met_of level index entry)
    met_passes level index entry met below =
        let at = indexed g level index entry in
        passes_with g disk at (below_entry g disk at)
        (λ ne.
        let good = sound.good_entries level index entry met ne in
        (passed_of_good g f disk level index entry good, below good.well_formed))

    all_pass : (level above : ℕ) (node : Bytes) → AllMet level above node →
        Passes g disk (met_below g disk (suc level) (above * span g (suc level)) node)
    unfolding met_checks
    all_pass zero above node all =
        node_passes zero above node
        (λ place h. met_passes 0 (above * entries_in g 0 + place) (entry_at place node) (all place h)
        (λ formed. subst (Passes g disk) (sym (met_below-zero g disk _ _)) tt))
    all_pass (suc level) above node all =
        node_passes (suc level) above node
        (λ place h.
        let index = above * entries_in g (suc level) + place in
        let entry = entry_at place node in
        met_passes (suc level) index entry (all place h)
        (λ formed. all_pass level index (block_at (block_width g) disk entry)
        (λ lower k. in_node (all place h) formed k refl refl)))

    pub passes_of_sound : Passes g disk (met_entries g disk)
    passes_of_sound =
        let level = g.height - 1 in
        let e : suc level ≡ g.height = omega (arith, f.height_low) in
        subst (Passes g disk) (sym (root_is level e))
        (all_pass level 0 root
        (λ place h.
        let none : 0 * entries_in g level + place ≡ place = omega (arith, zero-mul (entries_in g level)) in
        subst (λ (n : ℕ). Met g disk level n (entry_at place root)) (sym none) (in_root e h refl)))
