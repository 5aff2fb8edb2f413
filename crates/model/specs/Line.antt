-- The line of waiting offers (document 02, K3): which offers of a line handed over count on a drive, in which
-- turn, which are left once some are placed, and how one enters. Assumes nothing.
use Rattle.std.specs.Prelude.{Bool, false, cond, not, ◌&&◌, ◌||◌, List, [], ◌∷◌, ◌++◌, ℕ, leb, eqb, length, take}
use Rattle.std.proofs.Math.Option.{Option, none, some}
use Rattle.laws.specs.Checks.{Check, check, first_of}
use Rattle.model.specs.Geometry.{Geometry}
use Rattle.model.specs.Blocks.{Bytes, block_at}
use Rattle.model.specs.Layout.{geometry_in}
use Rattle.model.specs.HiddenHalf.{HiddenWrite}
use Rattle.model.specs.Refusals.{drive_checks, hidden_checks, hidden_write_refusal}

-- a hidden number and the place of its block among the lent blocks, counted in blocks
pub record Offer : Type 0 where
  pub number : ℕ
  pub place : ℕ

-- how many offers a line has at most
abbrev pub most_offers : ℕ
most_offers = 16

-- the line that is handed over: of the lent offers so many, at most 16
abbrev pub handed_over : (waiting : ℕ) → (lent : List Offer) → List Offer
handed_over waiting lent = take waiting (take most_offers lent)

-- ---- which offers count, and in which turn ----

-- the offers of other numbers
unfoldable pub without : (number : ℕ) → List Offer → List Offer
without number [] = []
without number (offer ∷ later) = cond (eqb offer.number number) [] (offer ∷ []) ++ without number later

-- of each number the first offer
unfoldable pub first_offers : List Offer → List Offer
first_offers [] = []
first_offers (offer ∷ later) = offer ∷ without offer.number (first_offers later)

-- an offer's hidden write on a drive: its block among the lent ones, a short one where the place is outside
abbrev pub hidden_write_of : Geometry → (blocks : Bytes) → Offer → HiddenWrite
hidden_write_of g blocks offer =
    record { number = offer.number; content = block_at g.block_size blocks offer.place }

-- 10 or 11 of an offer on a drive, 0 for a good one
abbrev pub line_offer_refusal : Geometry → (blocks : Bytes) → Offer → ℕ
line_offer_refusal g blocks offer =
    hidden_write_refusal g offer.number (block_at g.block_size blocks offer.place)

-- those that 10 and 11 do not meet
unfoldable pub good_offers : Geometry → (blocks : Bytes) → List Offer → List Offer
good_offers g blocks [] = []
good_offers g blocks (offer ∷ later) =
    cond (eqb (line_offer_refusal g blocks offer) 0) (offer ∷ []) [] ++ good_offers g blocks later

-- the offers that count on a drive, in their turn
abbrev pub turns : Geometry → (blocks : Bytes) → (line : List Offer) → List Offer
turns g blocks line = good_offers g blocks (first_offers line)

unfoldable pub hidden_writes_of : Geometry → (blocks : Bytes) → List Offer → List HiddenWrite
hidden_writes_of g blocks [] = []
hidden_writes_of g blocks (offer ∷ later) = hidden_write_of g blocks offer ∷ hidden_writes_of g blocks later

-- ---- what is left ----

-- the line once these are placed: every offer of their numbers leaves, the others keep their turn
unfoldable pub left_after : (placed line : List Offer) → List Offer
left_after [] line = line
left_after (offer ∷ later) line = left_after later (without offer.number line)

-- ---- entering ----

unfoldable pub is_waiting_in : (line : List Offer) → (number : ℕ) → Bool
is_waiting_in [] number = false
is_waiting_in (offer ∷ later) number = eqb offer.number number || is_waiting_in later number

-- 16: a new number, where 16 wait or the lent line is full
abbrev pub room_checks : (line : List Offer) → (number room : ℕ) → List Check
room_checks line number room =
    check
    (not (is_waiting_in line number) && (leb most_offers (length line) || leb room (length line)))
    16 ∷ []

unfoldable pub enter_refusal :
    (disk : Bytes) → Offer → (blocks : Bytes) → (line : List Offer) → (room : ℕ) → ℕ
enter_refusal disk offer blocks line room =
    let g = geometry_in disk in
    first_of
    (drive_checks disk ++
    (hidden_checks g offer.number (length (block_at g.block_size blocks offer.place)) ++
    room_checks line offer.number room))

-- an offer in its number's turn, or at the end
unfoldable pub with_offer : Offer → (line : List Offer) → List Offer
with_offer offer [] = offer ∷ []
with_offer offer (first ∷ later) =
    cond (eqb first.number offer.number) (offer ∷ later) (first ∷ with_offer offer later)

-- the line that entering leaves, in a lent line of this length
unfoldable pub entered :
    (disk : Bytes) → Offer → (blocks : Bytes) → (line : List Offer) → (room : ℕ) → List Offer
entered disk offer blocks line room =
    cond (eqb (enter_refusal disk offer blocks line room) 0) (with_offer offer line) line

-- ---- what waits under a number ----

-- an offer's block, none where 10 or 11 meets it
unfoldable pub good_block : Geometry → (blocks : Bytes) → Offer → Option Bytes
good_block g blocks offer =
    cond (eqb (line_offer_refusal g blocks offer) 0) (some (block_at g.block_size blocks offer.place)) none

-- the block that waits under a number on a drive: that of its first offer, if it counts there
unfoldable pub waiting_for :
    Geometry → (blocks : Bytes) → (line : List Offer) → (number : ℕ) → Option Bytes
waiting_for g blocks [] number = none
waiting_for g blocks (offer ∷ later) number =
    cond (eqb offer.number number) (good_block g blocks offer) (waiting_for g blocks later number)
