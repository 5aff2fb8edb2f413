-- The conditions of refusals 1 to 12 as propositions in document 01's words ("Public numbers and hidden
-- outcomes") and of 16 in document 02's (K3), and what it means that a number answers a list of them. Assumes
-- nothing.
use Rattle.std.specs.Prelude.{◌≡◌, true, false, cond, ◌≢◌, ◌⊎◌, ℕ, ◌+◌, ◌*◌, ◌-◌, ◌^◌, ◌≤◌, ◌<◌, length}
use mathlib.Core.List.{List, [], ◌∷◌, ◌++◌, Memᴰ}
use Rattle.model.specs.Geometry.{Geometry, tree_capacity, block_count, drive_size}
use Rattle.model.specs.Blocks.{Bytes, DiskAddress}
use Rattle.model.specs.Layout.{geometry_in, head_in, slot_start, round_slot, is_one_block, is_allocated}
use Rattle.model.specs.Layout.{map_entry}
use Rattle.model.specs.HiddenTree.{walk, damaged}
use Rattle.model.specs.Line.{Offer, most_offers}

-- ---- answers ----

-- a refusal's number and when it is given
pub record Condition : Type 1 where
  pub number : ℕ
  pub Holds : Type 0

abbrev pub condition : (number : ℕ) → (Holds : Type 0) → Condition
condition number Holds = record { number = number; Holds = Holds }

-- the answer is the number of the first condition that holds, and 0 exactly if none does
abbrev pub Answers : List Condition → (answer : ℕ) → Type 0
Answers [] answer = answer ≡ 0
Answers (c ∷ cs) answer = (c.Holds × (answer ≡ c.number)) ⊎ ((c.Holds → ⊥) × Answers cs answer)

-- ---- the conditions ----

-- a geometry inside the limits of "The disk"
pub record InsideLimits (g : Geometry) : Type 0 where
  pub size_power : (exponent : ℕ) × (g.block_size ≡ 2 ^ exponent)
  pub size_range : (32 ≤ g.block_size) × (g.block_size ≤ 4096)
  pub height_range : (2 ≤ g.height) × (g.height ≤ 4)
  pub some_public : 1 ≤ g.publics
  pub some_hidden : 1 ≤ g.hidden
  pub more_slots : (g.publics < g.slots) × (g.hidden < g.slots)
  pub tree_room : g.hidden ≤ tree_capacity g
  pub addressable : block_count g ≤ 2 ^ 31 - 1

-- 1 and 2: of so many bytes, for a geometry
abbrev pub size_conditions : (bytes : ℕ) → Geometry → List Condition
size_conditions bytes g =
    condition 1 ((bytes < 24) ⊎ (InsideLimits g → ⊥)) ∷ condition 2 (bytes ≢ drive_size g) ∷ []

-- 1 to 3
abbrev pub drive_conditions : (disk : Bytes) → List Condition
drive_conditions disk =
    size_conditions (length disk) (geometry_in disk) ++
    (condition 3 ((geometry_in disk).slots ≤ head_in disk) ∷ [])

-- 4 to 6: of a public number and the length of its data or blank
abbrev pub place_conditions : Geometry → (disk : Bytes) → (number size : ℕ) → List Condition
place_conditions g disk number size =
    condition 4 (g.publics ≤ number) ∷ condition 5 (size ≢ g.block_size) ∷
    condition 6
    ((map_entry g disk number ≢ 0) ×
    ((slot : ℕ) → slot < g.slots → is_allocated g disk slot ≡ true →
    map_entry g disk number ≢ slot_start g slot)) ∷ []

-- so many rounds: the least number from 1 on for which slot (h + number − 1) mod M is free
pub record TakesRounds (g : Geometry) (disk : Bytes) (rounds : ℕ) : Type 0 where
  pub at_least_one : 1 ≤ rounds
  pub last_free : is_allocated g disk (round_slot g (head_in disk) rounds) ≡ false
  pub others_allocated :
      (round : ℕ) → 1 ≤ round → round < rounds →
      is_allocated g disk (round_slot g (head_in disk) round) ≡ true

-- the stores of so many rounds, the last in this slot: k + 3 for each but the last, k + 5 for the last, or
-- k + 6 where the number's new and old bit lie in two bitmap blocks (document 02, K2)
abbrev pub stores_of : Geometry → (rounds : ℕ) → (entry : DiskAddress) → (slot : ℕ) → ℕ
stores_of g rounds entry slot =
    (rounds - 1) * (g.height + 3) + cond (is_one_block g entry slot) (g.height + 5) (g.height + 6)

-- 7 to 9: of a write with random bytes and a list of these lengths
abbrev pub round_conditions : Geometry → (disk : Bytes) → (number random room : ℕ) → List Condition
round_conditions g disk number random room =
    condition 7 ((slot : ℕ) → slot < g.slots → is_allocated g disk slot ≡ true) ∷
    condition 8 ((rounds : ℕ) × TakesRounds g disk rounds × (random < rounds * g.height * g.block_size)) ∷
    condition 9
    ((rounds : ℕ) × TakesRounds g disk rounds ×
    (room < stores_of g rounds (map_entry g disk number) (round_slot g (head_in disk) rounds))) ∷ []

-- 10 and 11: of a hidden number and the length of its data or blank
abbrev pub hidden_conditions : Geometry → (number size : ℕ) → List Condition
hidden_conditions g number size = condition 10 (g.hidden ≤ number) ∷ condition 11 (size ≢ g.block_size) ∷ []

-- 12: by the very walk that the check makes, of which there is no second account; figures pin the walk
abbrev pub walk_conditions : Geometry → (disk : Bytes) → (number : ℕ) → List Condition
walk_conditions g disk number = condition 12 ((walk g disk number).end ≡ damaged) ∷ []

-- ---- the line ----

-- an offer's block lies wholly inside the lent blocks
abbrev pub IsInside : Geometry → (blocks : Bytes) → Offer → Type 0
IsInside g blocks offer = (offer.place + 1) * g.block_size ≤ length blocks

-- 10 and 11: of an offer
abbrev pub offer_conditions : Geometry → (blocks : Bytes) → Offer → List Condition
offer_conditions g blocks offer =
    condition 10 (g.hidden ≤ offer.number) ∷ condition 11 (IsInside g blocks offer → ⊥) ∷ []

-- no offer of a line is this number's
abbrev pub NoneOf : (number : ℕ) → (line : List Offer) → Type 0
NoneOf number line = (offer : Offer) → Memᴰ offer line → offer.number ≢ number

-- 16: of a number that does not wait, where 16 offers wait or the lent line, of this length, is full
abbrev pub room_conditions : (line : List Offer) → (number room : ℕ) → List Condition
room_conditions line number room =
    condition 16 (NoneOf number line × ((most_offers ≤ length line) ⊎ (room ≤ length line))) ∷ []

-- a block waits under a number: its first offer in the line is one that 10 and 11 do not meet
pub record WaitsUnder (g : Geometry) (blocks : Bytes) (line : List Offer) (number : ℕ) : Type 0 where
  pub offer : Offer
  pub earlier : List Offer
  pub later : List Offer
  pub line_is : line ≡ earlier ++ (offer ∷ later)
  pub first_is : NoneOf number earlier
  pub number_is : offer.number ≡ number
  pub number_inside : number < g.hidden
  pub block_inside : IsInside g blocks offer

-- 12 of a read through a line: only where no block waits under the number
abbrev pub line_read_conditions :
    Geometry → (disk : Bytes) → (number : ℕ) → (blocks : Bytes) → (line : List Offer) → List Condition
line_read_conditions g disk number blocks line =
    condition 12 ((WaitsUnder g blocks line number → ⊥) × ((walk g disk number).end ≡ damaged)) ∷ []
