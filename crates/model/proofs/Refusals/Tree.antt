-- Refusals 13 to 15: the chain of the entries that the whole-tree check meets answers their conditions.
-- Assumes nothing.
use mathlib.Core.Path.{refl, ap, ◌∙◌}
use mathlib.Core.Logic.{◌≢◌, ◌⊎◌}
use mathlib.Core.Bool.{Bool, true, false, cond, not}
use mathlib.Core.List.{List, [], ◌∷◌, ◌++◌}
use Prim.Native.Nat.{ℕ, zero, suc, ◌≤◌, ◌<◌}
use native.Mathlib.Omega.{arith}
use lib.Dec.{leb, eqb}
use borrow.Author.Tests.{not-true, not-false}
use Rattle.laws.proofs.Cases.{true_is_not_false}
use Rattle.laws.proofs.Checks.{zero_of_passed}
use Rattle.laws.proofs.Decides.{Decides, decides_le, decides_same, decides_not_and}
use Rattle.laws.proofs.Members.{All, all_append, all_map}
use Rattle.model.specs.Geometry.{Geometry, Fits, root_address, block_width}
use Rattle.model.specs.Blocks.{Bytes, block_at}
use Rattle.model.specs.Layout.{geometry_in, slot_of, level_place, level_address, is_well_formed}
use Rattle.model.specs.HiddenTree.{owner_of, found, walk}
use Rattle.model.specs.Refusals.{drive_checks, drive_refusal}
use Rattle.model.specs.Conditions.{Answers, drive_conditions}
use Rattle.model.specs.TreeCheck.{MetEntry, met_in_turn, met_with, entry_in, met_below, met_entries, met_at}
use Rattle.model.specs.TreeCheck.{is_owned, entry_checks, met_checks, tree_checks, tree_refusal}
use Rattle.model.specs.TreeConditions.{Below, entry_conditions, met_conditions, tree_conditions}
use Rattle.model.specs.Invariants.{entries_in}
use Rattle.model.proofs.Laws.Slots.{slot_block_of, is_well_formed-level_address}
use Rattle.model.proofs.Laws.Refusals.{accepted_of_refusal}
use Rattle.model.proofs.Laws.TreeCheck.{decides_found, decides_below, below_entry}
use Rattle.model.proofs.Tree.Keys.{span_positive}
use Rattle.model.proofs.Refusals.Answers.{Judges, judges_append, answers_of_judges}
use Rattle.model.proofs.Refusals.Drive.{judges_drive}

-- ---- one entry ----

module _ (g : Geometry) (disk : Bytes) (met : MetEntry) where
  abbrev slot : ℕ
  slot = slot_of g met.entry

  abbrev owner : ℕ
  owner = owner_of g disk slot

  decides_unowned :
      Decides (not (is_owned g disk met))
      ((Below g met.level met.first owner → ⊥) ⊎
      ((walk g disk owner).end ≢ found (level_address g slot 0)))
  unfolding is_owned
  decides_unowned =
      decides_not_and (decides_below g met.level met.first owner)
      (decides_found (level_address g slot 0) (walk g disk owner).end)

  -- an ill-formed entry is no slot's block of its level
  decides_ill_formed :
      met.level < g.height →
      Decides (not (is_well_formed g met.level met.entry))
      ((other : ℕ) → other < g.slots → met.entry ≢ level_address g other met.level)
  decides_ill_formed inside =
      record {
        holds = λ e other h p.
            true_is_not_false
            (ap (is_well_formed g met.level) p ∙ is_well_formed-level_address g other met.level h inside)
            (not-true _ e);
        fails = λ e none.
            let block = slot_block_of g (level_place g met.level) met.entry (not-false _ e) in
            none slot block.slot_inside block.address_is;
      }

  -- the first number below an entry is the least of them
  decides_past : Fits g →
      Decides (leb g.hidden met.first)
      ((number : ℕ) → Below g met.level met.first number → g.hidden ≤ number)
  decides_past f =
      decides_same (decides_le g.hidden met.first) (λ h number below. omega (arith, below.0))
      (λ all. all met.first (omega arith, omega (arith, span_positive g f met.level)))

  judges_entry : Fits g → met.level < g.height →
      Judges (entry_checks g disk met) (entry_conditions g disk met)
  unfolding entry_checks
  judges_entry f inside =
      (refl, decides_ill_formed inside, λ e. (refl, decides_past f, λ p. (refl, decides_unowned, λ q. tt)))

-- ---- every entry ----

module _ (g : Geometry) (disk : Bytes) where
  all-in_turn :
      (P : MetEntry → Type 0) (at : ℕ → List MetEntry) → ((place : ℕ) → All P (at place)) →
      (count place : ℕ) → All P (met_in_turn at count place)
  unfolding met_in_turn
  all-in_turn P at each zero place = tt
  all-in_turn P at each (suc count) place =
      all_append P (at place) (met_in_turn at count (suc place)) (each place)
      (all-in_turn P at each count (suc place))

  all_with : (P : MetEntry → Type 0) (met : MetEntry) (below : List MetEntry) → P met → All P below →
      All P (met_with g met below)
  unfolding met_with
  all_with P met below h k = by (eqb met.entry 0) (is_well_formed g met.level met.entry)
    where
      by : (is_zero isFormed : Bool) → All P (cond is_zero [] (met ∷ cond isFormed below []))
      by true isFormed = tt
      by false true = (h, k)
      by false false = (h, tt)

  -- every entry met below a block has a lower level
  all_lower : (level first : ℕ) (block : Bytes) →
      All (λ met. met.level < level) (met_below g disk level first block)
  unfolding met_below
  all_lower zero first block = tt
  all_lower (suc level) first node =
      all-in_turn (λ met. met.level < suc level) (met_at g disk level first node)
      (λ place.
      let met = entry_in g level first node place in
      all_with (λ met. met.level < suc level) met (below_entry g disk met) (omega arith)
      (all_map (λ met. met.level < level) (λ met. met.level < suc level) (below_entry g disk met)
      (λ lower h. omega arith)
      (all_lower level met.first (block_at (block_width g) disk met.entry))))
      (entries_in g level) 0

  judges_met : Fits g → (mets : List MetEntry) → All (λ met. met.level < g.height) mets →
      Judges (met_checks g disk mets) (met_conditions g disk mets)
  unfolding met_checks met_conditions
  judges_met f [] h = tt
  judges_met f (met ∷ later) h =
      judges_append (entry_checks g disk met) (met_checks g disk later) (entry_conditions g disk met)
      (met_conditions g disk later) (judges_entry g disk met f h.0) (λ p. judges_met f later h.1)

-- ---- the call ----

pub answers_tree : (disk : Bytes) →
    Answers (drive_conditions disk ++ tree_conditions (geometry_in disk) disk) (tree_refusal disk)
unfolding tree_refusal drive_refusal
answers_tree disk =
    let g = geometry_in disk in
    answers_of_judges (drive_checks disk ++ tree_checks g disk) _
    (judges_append (drive_checks disk) (tree_checks g disk) (drive_conditions disk) (tree_conditions g disk)
    (judges_drive disk)
    (λ p. judges_met g disk (accepted_of_refusal disk (zero_of_passed (drive_checks disk) p)).sized.fits
    (met_entries g disk) (all_lower g disk g.height 0 (block_at (block_width g) disk (root_address g)))))
