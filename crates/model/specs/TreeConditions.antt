-- The conditions of refusals 13 to 15 as propositions in document 02's words (K1), in the order in which the
-- check meets the entries. Assumes nothing.
use Rattle.std.specs.Prelude.{◌≢◌, ◌⊎◌, List, [], ◌∷◌, ◌++◌, ℕ, ◌+◌, ◌≤◌, ◌<◌}
use Rattle.model.specs.Geometry.{Geometry}
use Rattle.model.specs.Blocks.{Bytes}
use Rattle.model.specs.Layout.{slot_of, level_address}
use Rattle.model.specs.HiddenTree.{owner_of, span, walk, found}
use Rattle.model.specs.Conditions.{Condition, condition}
use Rattle.model.specs.TreeCheck.{MetEntry, met_entries}

-- a number is one of those below an entry of a level whose numbers begin with this one
abbrev pub Below : Geometry → (level first number : ℕ) → Type 0
Below g level first number = (first ≤ number) × (number < first + span g level)

-- 13 to 15: of an entry that is not 0
abbrev pub entry_conditions : Geometry → (disk : Bytes) → MetEntry → List Condition
entry_conditions g disk met =
    let slot = slot_of g met.entry in
    let owner = owner_of g disk slot in
    condition 13 ((other : ℕ) → other < g.slots → met.entry ≢ level_address g other met.level) ∷
    condition 14 ((number : ℕ) → Below g met.level met.first number → g.hidden ≤ number) ∷
    condition 15
    ((Below g met.level met.first owner → ⊥) ⊎
    ((walk g disk owner).end ≢ found (level_address g slot 0))) ∷ []

unfoldable pub met_conditions : Geometry → (disk : Bytes) → List MetEntry → List Condition
met_conditions g disk [] = []
met_conditions g disk (met ∷ later) = entry_conditions g disk met ++ met_conditions g disk later

-- 13 to 15: of every entry that is met
abbrev pub tree_conditions : Geometry → (disk : Bytes) → List Condition
tree_conditions g disk = met_conditions g disk (met_entries g disk)
