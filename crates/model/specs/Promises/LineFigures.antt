-- What document 02 says of a line of waiting offers (K3), worked out by hand: lines with two offers, with a
-- number twice and with offers that are passed over, reads through a line, damage, and entering; on document
-- 01's geometry, slot 0 being blocks 4 to 6, slot 1 blocks 7 to 9, and on two others. Assumes nothing.
use Rattle.std.specs.Prelude.{◌≡◌, List, [], ◌∷◌, ◌++◌, ℕ, length, replicate}
use Rattle.laws.specs.Lists.{over}
use Rattle.model.specs.Blocks.{Bytes, DiskAddress, set_block, set_entry}
use Rattle.model.specs.Layout.{head_in}
use Rattle.model.specs.Stores.{addresses}
use Rattle.model.specs.Line.{Offer, handed_over, enter_refusal, entered}
use Rattle.model.specs.Calls.{formatted, hidden_read, outcome_number, in_line, Written, written}
use Rattle.model.specs.Calls.{written_disk, line_left, line_read_refusal, line_read}
use Rattle.model.specs.Promises.Figures.{geometry, small, fresh, filled, four_written}

-- ---- lines ----

abbrev pub offer_at : (number place : ℕ) → Offer
offer_at number place = record { number = number; place = place }

-- three lent blocks, of bytes 9, 10 and 11
abbrev pub three_blocks : Bytes
three_blocks = filled 9 ++ filled 10 ++ filled 11

-- hidden 0 with the first of them, then hidden 1 with the second
abbrev pub two_wait : List Offer
two_wait = offer_at 0 0 ∷ offer_at 1 1 ∷ []

-- hidden 0 twice, then hidden 1
abbrev pub zero_twice : List Offer
zero_twice = offer_at 0 0 ∷ offer_at 0 1 ∷ offer_at 1 2 ∷ []

-- number 2, which is H, and hidden 1 with a place outside; then hidden 0 behind them
abbrev pub passed_over : List Offer
passed_over = offer_at 2 0 ∷ offer_at 1 5 ∷ []

abbrev pub zero_behind : List Offer
zero_behind = offer_at 2 0 ∷ offer_at 1 5 ∷ offer_at 0 1 ∷ []

-- hidden 0 with a place outside, then with a good one
abbrev pub zero_outside : List Offer
zero_outside = offer_at 0 5 ∷ offer_at 0 1 ∷ []

-- numbers 0 to 15
abbrev pub sixteen_wait : List Offer
sixteen_wait =
    (offer_at 0 0 ∷ offer_at 1 0 ∷ offer_at 2 0 ∷ offer_at 3 0 ∷ offer_at 4 0 ∷ offer_at 5 0 ∷ []) ++
    (offer_at 6 0 ∷ offer_at 7 0 ∷ offer_at 8 0 ∷ offer_at 9 0 ∷ offer_at 10 0 ∷ offer_at 11 0 ∷ []) ++
    (offer_at 12 0 ∷ offer_at 13 0 ∷ offer_at 14 0 ∷ offer_at 15 0 ∷ [])

-- ---- calls with a line and these blocks ----

-- a write of bytes 7 with 256 random bytes of 165 and a list of 23
abbrev pub line_written : (disk : Bytes) → (number : ℕ) → (line : List Offer) → Written
line_written disk number line = written disk number (filled 7) (replicate 256 165) 23 (in_line three_blocks line)

abbrev pub line_stores : (disk : Bytes) → (number : ℕ) → (line : List Offer) → List DiskAddress
line_stores disk number line = addresses (line_written disk number line).trace

abbrev pub line_outcome : (disk : Bytes) → (number : ℕ) → (line : List Offer) → ℕ
line_outcome disk number line = outcome_number (line_written disk number line).outcome

abbrev pub disk_after_line : (disk : Bytes) → (number : ℕ) → (line : List Offer) → Bytes
disk_after_line disk number line = written_disk (line_written disk number line) disk

abbrev pub left_by : (disk : Bytes) → (number : ℕ) → (line : List Offer) → List Offer
left_by disk number line = line_left (line_written disk number line) disk three_blocks line

-- reads with a blank of bytes 5
abbrev pub hidden_shown : (disk : Bytes) → (number : ℕ) → Bytes
hidden_shown disk number = hidden_read disk number (filled 5)

abbrev pub line_shown : (disk : Bytes) → (number : ℕ) → (line : List Offer) → Bytes
line_shown disk number line = line_read disk number (filled 5) three_blocks line

abbrev pub line_answer : (disk : Bytes) → (number : ℕ) → (line : List Offer) → ℕ
line_answer disk number line = line_read_refusal disk number (filled 5) three_blocks line

-- an offer enters a lent line of four on a fresh drive
abbrev pub with_entered : (offer : Offer) → (line : List Offer) → List Offer
with_entered offer line = entered fresh offer three_blocks line 4

-- ---- drives ----

-- the first of two writes with two offers
abbrev pub first_placed : Bytes
first_placed = disk_after_line fresh 0 two_wait

-- the first root entry is hidden data's address, so that the walks below it are damaged; the slots' blocks
-- are bytes 165, so that nobody owns them
abbrev pub with_bad_entry : (disk : Bytes) → Bytes
with_bad_entry disk = set_block 32 disk 3 (set_entry 0 6 (filled 0))

abbrev pub damaged_drive : Bytes
damaged_drive = with_bad_entry (formatted (replicate 512 165) small)

-- k 2, P 1, H 8, M 9: hidden 0 is below the first root entry, hidden 7 below the second
abbrev pub eight_hidden : Bytes
eight_hidden = with_bad_entry (formatted (replicate 992 165) (geometry 32 2 1 8 9))

-- k 2, P 1, H 18, M 19
abbrev pub eighteen_hidden : Bytes
eighteen_hidden = formatted (replicate 1952 0) (geometry 32 2 1 18 19)

-- an offer to the sixteen, in a lent line of 17
abbrev pub seventeenth_answer : (number place : ℕ) → ℕ
seventeenth_answer number place =
    enter_refusal eighteen_hidden (offer_at number place) three_blocks sixteen_wait 17

-- ---- the figures ----

pub record LineFigures : Type 0 where
  -- two wait, one round: the first is placed, the other keeps its turn, and the next write places it
  pub first_answer : (line_written fresh 0 two_wait).answer ≡ 0
  pub first_stores : line_stores fresh 0 two_wait ≡ 4 ∷ 5 ∷ 6 ∷ 3 ∷ 1 ∷ 2 ∷ 0 ∷ []
  pub first_outcome : line_outcome fresh 0 two_wait ≡ 1
  pub first_placed_lem : (line_written fresh 0 two_wait).placed ≡ 1
  pub first_left : left_by fresh 0 two_wait ≡ offer_at 1 1 ∷ []
  pub first_head : head_in first_placed ≡ 1
  pub next_stores : line_stores first_placed 0 (offer_at 1 1 ∷ []) ≡ 7 ∷ 8 ∷ 9 ∷ 3 ∷ 1 ∷ 2 ∷ 0 ∷ []
  pub next_placed : (line_written first_placed 0 (offer_at 1 1 ∷ [])).placed ≡ 1
  pub next_left : left_by first_placed 0 (offer_at 1 1 ∷ []) ≡ []
  pub next_zero : hidden_shown (disk_after_line first_placed 0 (offer_at 1 1 ∷ [])) 0 ≡ filled 9
  pub next_one : hidden_shown (disk_after_line first_placed 0 (offer_at 1 1 ∷ [])) 1 ≡ filled 10
  -- three rounds place both, with the stores of a write with nothing offered
  pub both_rounds : (line_written four_written 2 two_wait).rounds ≡ 3
  pub both_stores :
      line_stores four_written 2 two_wait ≡
      (4 ∷ 5 ∷ 6 ∷ 3 ∷ 0 ∷ 7 ∷ 8 ∷ 9 ∷ 3 ∷ 0 ∷ []) ++ (10 ∷ 11 ∷ 12 ∷ 3 ∷ 1 ∷ 2 ∷ 0 ∷ [])
  pub both_outcome : line_outcome four_written 2 two_wait ≡ 1
  pub both_placed : (line_written four_written 2 two_wait).placed ≡ 2
  pub both_left : left_by four_written 2 two_wait ≡ []
  pub both_zero : hidden_shown (disk_after_line four_written 2 two_wait) 0 ≡ filled 9
  pub both_one : hidden_shown (disk_after_line four_written 2 two_wait) 1 ≡ filled 10
  -- a number twice: the first counts, the other leaves with it; the lent line keeps what lies past those left
  pub twice_placed : (line_written fresh 0 zero_twice).placed ≡ 1
  pub twice_left : left_by fresh 0 zero_twice ≡ offer_at 1 2 ∷ []
  pub twice_lent : over 0 (left_by fresh 0 zero_twice) zero_twice ≡ offer_at 1 2 ∷ offer_at 0 1 ∷ offer_at 1 2 ∷ []
  pub twice_shown : hidden_shown (disk_after_line fresh 0 zero_twice) 0 ≡ filled 9
  -- passed over: 2 is not below H, place 5 lies outside; they stay, and alone they are none to wait for
  pub passed_placed : (line_written fresh 0 zero_behind).placed ≡ 1
  pub passed_left : left_by fresh 0 zero_behind ≡ passed_over
  pub passed_outcome : line_outcome (disk_after_line fresh 0 zero_behind) 0 passed_over ≡ 0
  pub passed_none : (line_written (disk_after_line fresh 0 zero_behind) 0 passed_over).placed ≡ 0
  pub passed_stay : left_by (disk_after_line fresh 0 zero_behind) 0 passed_over ≡ passed_over
  -- where the first of a number is passed over, the number is
  pub outside_outcome : line_outcome fresh 0 zero_outside ≡ 0
  pub outside_placed : (line_written fresh 0 zero_outside).placed ≡ 0
  pub outside_shown : line_shown fresh 0 zero_outside ≡ filled 5
  -- a read shows the waiting block and gives no 12; of a number that does not wait it gives 12
  pub waiting_shown : line_shown damaged_drive 0 (offer_at 0 0 ∷ []) ≡ filled 9
  pub waiting_answer : line_answer damaged_drive 0 (offer_at 0 0 ∷ []) ≡ 0
  pub other_answer : line_answer damaged_drive 1 (offer_at 0 0 ∷ []) ≡ 12
  pub damaged_outcome : line_outcome damaged_drive 0 (offer_at 0 0 ∷ []) ≡ 12
  pub damaged_placed : (line_written damaged_drive 0 (offer_at 0 0 ∷ [])).placed ≡ 0
  -- a damaged first one is not passed over; behind another it waits for the round after
  pub damaged_first : line_outcome eight_hidden 0 (offer_at 0 0 ∷ offer_at 7 1 ∷ []) ≡ 12
  pub damaged_first_placed : (line_written eight_hidden 0 (offer_at 0 0 ∷ offer_at 7 1 ∷ [])).placed ≡ 0
  pub damaged_first_left :
      left_by eight_hidden 0 (offer_at 0 0 ∷ offer_at 7 1 ∷ []) ≡ offer_at 0 0 ∷ offer_at 7 1 ∷ []
  pub damaged_later : line_outcome eight_hidden 0 (offer_at 7 1 ∷ offer_at 0 0 ∷ []) ≡ 1
  pub damaged_later_placed : (line_written eight_hidden 0 (offer_at 7 1 ∷ offer_at 0 0 ∷ [])).placed ≡ 1
  pub damaged_later_left : left_by eight_hidden 0 (offer_at 7 1 ∷ offer_at 0 0 ∷ []) ≡ offer_at 0 0 ∷ []
  pub damaged_next :
      line_outcome (disk_after_line eight_hidden 0 (offer_at 7 1 ∷ offer_at 0 0 ∷ [])) 0 (offer_at 0 0 ∷ []) ≡ 12
  -- entering: a new number at the end, a waiting one in its turn
  pub enter_first : with_entered (offer_at 0 0) [] ≡ offer_at 0 0 ∷ []
  pub enter_next : with_entered (offer_at 1 1) (offer_at 0 0 ∷ []) ≡ two_wait
  pub enter_again : with_entered (offer_at 0 2) two_wait ≡ offer_at 0 2 ∷ offer_at 1 1 ∷ []
  pub entered-zero : line_shown fresh 0 (offer_at 0 2 ∷ offer_at 1 1 ∷ []) ≡ filled 11
  pub entered_one : line_shown fresh 1 (offer_at 0 2 ∷ offer_at 1 1 ∷ []) ≡ filled 10
  -- 16 for a seventeenth number, after 10 and 11; not for a waiting one
  pub seventeenth : seventeenth_answer 16 0 ≡ 16
  pub seventeenth_outside : seventeenth_answer 16 3 ≡ 11
  pub seventeenth_past : seventeenth_answer 18 3 ≡ 10
  pub waiting_again : seventeenth_answer 3 2 ≡ 0
  pub still_sixteen : length (entered eighteen_hidden (offer_at 3 2) three_blocks sixteen_wait 17) ≡ 16
  -- 16 for a new number where the lent line is full
  pub no_room : enter_refusal fresh (offer_at 1 0) three_blocks (offer_at 0 0 ∷ []) 1 ≡ 16
  -- of what is lent at most 16 are handed over, and no more than wait
  pub handed_most : handed_over 20 (sixteen_wait ++ two_wait) ≡ sixteen_wait
  pub handed_waiting : handed_over 1 two_wait ≡ offer_at 0 0 ∷ []
