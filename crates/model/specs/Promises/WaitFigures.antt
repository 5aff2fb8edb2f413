-- What document 02 says of how long an offer waits (K12), worked out by hand: a drive of eight slots with
-- seven hidden numbers, all of them placed and its head at slot 0, so that slot 7 alone is not live; every
-- write is of the one public number and has one round. Assumes nothing.
use Rattle.std.specs.Prelude.{◌≡◌, List, [], ◌∷◌, ◌++◌, ℕ, zero, suc, ◌+◌, replicate}
use Rattle.model.specs.Geometry.{Geometry}
use Rattle.model.specs.Blocks.{Bytes}
use Rattle.model.specs.Layout.{head_in}
use Rattle.model.specs.HiddenHalf.{HiddenWrite}
use Rattle.model.specs.Line.{Offer}
use Rattle.model.specs.Calls.{formatted, Offered, nothing, one, in_line, Written, written, written_disk}
use Rattle.model.specs.Calls.{outcome_number, line_left}
use Rattle.model.specs.Waits.{wait_rounds, offers_before}
use Rattle.model.specs.Promises.Figures.{geometry, filled}
use Rattle.model.specs.Promises.LineFigures.{offer_at, three_blocks}

abbrev pub seven : Geometry
seven = geometry 32 2 1 7 8

-- a write of bytes 7 with 64 random bytes of 165 and a list of 8
abbrev pub seven_written : (disk : Bytes) → Offered → Written
seven_written disk offer = written disk 0 (filled 7) (replicate 64 165) 8 offer

abbrev pub seven_after : (disk : Bytes) → Offered → Bytes
seven_after disk offer = written_disk (seven_written disk offer) disk

abbrev pub nines : (number : ℕ) → HiddenWrite
nines number = record { number = number; content = filled 9 }

abbrev pub of_nines : (number : ℕ) → Offered
of_nines number = one (nines number)

-- so many numbers offered, each with one write, from a number on
unfoldable pub offered_from : (count number : ℕ) → (disk : Bytes) → Bytes
offered_from zero number disk = disk
offered_from (suc count) number disk = offered_from count (suc number) (seven_after disk (of_nines number))

-- 0 to 6 placed in slots 0 to 6, and one write more, which fills slot 7
abbrev pub seven_live : Bytes
seven_live = seven_after (offered_from 7 0 (formatted (replicate 896 0) seven)) nothing

-- what has become of what the same write offers, so many times
unfoldable pub outcomes_of : (times : ℕ) → Offered → (disk : Bytes) → List ℕ
outcomes_of zero offer disk = []
outcomes_of (suc times) offer disk =
    outcome_number (seven_written disk offer).outcome ∷ outcomes_of times offer (seven_after disk offer)

-- in which round each offer of a line is placed that so many writes carry, each with what the last one left
unfoldable pub placed_in : (times done : ℕ) → (line : List Offer) → (disk : Bytes) → List ℕ
placed_in zero done line disk = []
placed_in (suc times) done line disk =
    let result = seven_written disk (in_line three_blocks line) in
    let rounds = done + result.rounds in
    replicate result.placed rounds ++
    placed_in times rounds (line_left result disk three_blocks line) (written_disk result disk)

-- hidden 6, then hidden 5; hidden 3, then hidden 2
abbrev pub six_five : List Offer
six_five = offer_at 6 0 ∷ offer_at 5 1 ∷ []

abbrev pub three_two : List Offer
three_two = offer_at 3 0 ∷ offer_at 2 1 ∷ []

pub record WaitFigures : Type 0 where
  -- slots 0 to 6 are live: the first one waiting is placed in round 8, which is H + 1
  pub head : head_in seven_live ≡ 0
  pub rounds : wait_rounds seven seven_live ≡ 8
  -- one write later it is one round less
  pub rounds_later : wait_rounds seven (seven_after seven_live nothing) ≡ 7
  -- hidden 3 waits with seven writes and is placed with the eighth
  pub three_told : outcomes_of 8 (of_nines 3) seven_live ≡ 2 ∷ 2 ∷ 2 ∷ 2 ∷ 2 ∷ 2 ∷ 2 ∷ 1 ∷ []
  -- hidden 6 goes to slot 7, so that slot 6, which it had, comes last: the next one waits for 2 × H rounds
  -- and is placed in round 2 × H + 1
  pub six_five_lem : placed_in 16 0 six_five seven_live ≡ 8 ∷ 15 ∷ []
  -- hidden 3 had slot 3, which comes sooner
  pub three_two_lem : placed_in 12 0 three_two seven_live ≡ 8 ∷ 12 ∷ []
  -- how many stand in front: of a number twice its first is meant, all of them where it is not there
  pub first_place_lem : offers_before 6 six_five ≡ 0
  pub second_place : offers_before 5 six_five ≡ 1
  pub place_twice : offers_before 2 (offer_at 3 0 ∷ offer_at 2 1 ∷ offer_at 2 0 ∷ []) ≡ 1
  pub place_absent : offers_before 4 six_five ≡ 2
