-- When a line that writes carry along waits as long as its row says. Assumes nothing.
use Rattle.std.specs.Prelude.{None}
use Rattle.std.specs.Prelude.{Bool, ◌&&◌, cond, List, ℕ, zero, suc, ◌+◌, ◌*◌, ◌^◌, ◌≤◌, eqb, ltb, length}
use Rattle.model.specs.Blocks.{Bytes}
use Rattle.model.specs.Table.{digit}
use Rattle.model.specs.Line.{Offer}
use Rattle.model.specs.Calls.{outcome_number}
use Rattle.model.specs.Promises.LineFigures.{line_written}
use Rattle.line.specs.Offers.{line_of}
use Rattle.line_cases.specs.Offers.{line_said}
use Rattle.line_cases.specs.Cases.{Case, case_on, written_case}
use Rattle.wait_figures.specs.Drives.{live_drive}
use Rattle.wait_figures.specs.declared.carries.Carried.{Carried}
use Rattle.wait_figures.specs.declared.carries.CarryRow.{CarryRow}

-- ---- writes ----

-- a drive and a line, the rounds so far, and how many writes told that one waits
pub record Carry : Type 0 where
  pub case : Case
  pub rounds : ℕ
  pub waits : ℕ

-- what a declared one says, with its drive
abbrev pub carry_of : (disk : Bytes) → Carried → Carry
carry_of disk carried =
    record {
      case = case_on disk (line_of carried.line);
      rounds = carried.rounds;
      waits = carried.waits;
    }

-- before the first write
abbrev pub carry_on : (disk : Bytes) → (line : List Offer) → Carry
carry_on disk line = record { case = case_on disk line; rounds = 0; waits = 0 }

-- one write more
abbrev pub carry_more : Carry → Carry
carry_more carry =
    let made = line_written carry.case.disk 0 carry.case.line in
    record {
      case = written_case 0 carry.case;
      rounds = carry.rounds + made.rounds;
      waits = carry.waits + digit (eqb (outcome_number made.outcome) 2);
    }

-- until no more than so many offers are left, at most so many writes
unfoldable pub carry_until : (most left : ℕ) → Carry → Carry
carry_until zero left carry = carry
carry_until (suc most) left carry =
    cond (ltb left (length carry.case.line)) (carry_until most left (carry_more carry)) carry

-- few enough to be counted: what so many writes can have come to
pub record Few (times : ℕ) (carried : Carried) : Type 0 where
  pub rounds_few : carried.rounds ≤ times * 2 ^ 32
  pub waits_few : carried.waits ≤ times

-- ---- a row ----

unfoldable pub carry_agrees : CarryRow → Bool
carry_agrees row =
    let carry = carry_until 20 row.1 (carry_on (live_drive None) (line_of (line_said row.0))) in
    eqb row.2 carry.rounds && eqb row.3 carry.waits
