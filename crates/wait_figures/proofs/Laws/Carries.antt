-- The writes that carry a line along, one after another. Assumes nothing.
use mathlib.Core.Path.{◌≡◌, refl, sym, ap, ◌∙◌}
use mathlib.Core.Bool.{Bool, ◌&&◌}
use mathlib.Core.List.{List}
use Prim.Native.Nat.{ℕ, zero, suc, ◌+◌, ◌-◌, ◌≤◌, ◌<◌}
use native.Mathlib.Omega.{arith}
use lib.Dec.{eqb}
use lib.ListN.{length}
use Rattle.std.specs.Prelude.{None, Result}
use Rattle.layout.specs.declared.refusals.Refusal.{Refusal}
use Rattle.std.specs.Int.{from_bool}
use borrow.Author.Tests.{lt-ltb, le-ltb}
use Rattle.laws.proofs.Cases.{cond_true, cond_false}
use Rattle.model.specs.Blocks.{Bytes, DiskAddress}
use Rattle.model.specs.Table.{digit}
use Rattle.model.specs.Calls.{outcome_number}
use Rattle.model.specs.Promises.LineFigures.{three_blocks, line_written}
use Rattle.line.specs.declared.offers.Line.{Line}
use Rattle.line.specs.Offers.{line_of}
use Rattle.mapper.specs.declared.write.LineWritten.{LineWritten}
use Rattle.mapper.specs.Writes.{LineAnswered, told_by_line_write}
use Rattle.answers_c.specs.declared.line_writes.LineWritten.{LineWritten as Flat}
use Rattle.answers_c.specs.LineWrites.{line_written_said}
use Rattle.figure_lines.proofs.Laws.Counts.{from_digit, digit_most}
use Rattle.line_cases.specs.Offers.{line_said}
use Rattle.line_cases.specs.Cases.{case_on}
use Rattle.wait_figures.specs.declared.carries.Carried.{Carried}
use Rattle.wait_figures.specs.declared.carries.CarryRow.{CarryRow}
use Rattle.wait_figures.specs.Drives.{live_drive}
use Rattle.wait_figures.specs.Carries.{Carry, carry_of, carry_on, carry_more, carry_until, Few}
use Rattle.wait_figures.specs.Carries.{carry_agrees}

-- ---- one write ----

-- one write tells it once at most
pub from_bool_most : (b : Bool) → from_bool b ≤ 1
from_bool_most b = rw (from_digit b) (digit_most b)

pub carried_more :
    {disk after : Bytes} {list listAfter : List DiskAddress} {made : Result LineWritten Refusal} {told : Flat}
    {left : Line} {more one : ℕ} (carried : Carried) →
    LineAnswered (line_written disk 0 (line_of carried.line)) disk list three_blocks carried.line after
    listAfter made →
    told ≡ line_written_said (told_by_line_write carried.line made) →
    left ≡ (told_by_line_write carried.line made).line →
    more ≡ told.rounds → one ≡ from_bool (eqb told.outcome 2) →
    carry_of after
    (record { line = left; rounds = carried.rounds + more; waits = carried.waits + one }) ≡
    carry_more (carry_of disk carried)
carried_more {disk} {told = told} {one = one} carried good told_is left_is ran counted =
    let outcome_is : told.outcome ≡ outcome_number (line_written disk 0 (line_of carried.line)).outcome =
    rw told_is (ap outcome_number good.outcome_is) in
    let rounds_are : told.rounds ≡ (line_written disk 0 (line_of carried.line)).rounds =
    rw told_is good.rounds_are in
    let waits_are : carried.waits + one ≡ (carry_more (carry_of disk carried)).waits =
    ap (λ (n : ℕ). carried.waits + n) (counted ∙ from_digit (eqb told.outcome 2))
    ∙ ap (λ (n : ℕ). carried.waits + digit (eqb n 2)) outcome_is in
    let left_lem = ap (λ (line : Line). line_of line) left_is ∙ good.line_left_lem in
    λ i. record {
      case = case_on (good.stored i) (left_lem i);
      rounds = carried.rounds + (ran ∙ rounds_are) i;
      waits = waits_are i;
    }

-- ---- until few are left ----

module _ (left : ℕ) (carry : Carry) where
  pub carry_until-zero : carry_until zero left carry ≡ carry
  unfolding carry_until
  carry_until-zero = refl

  pub carry_until_left :
      (most : ℕ) → length carry.case.line ≤ left → carry_until (suc most) left carry ≡ carry
  unfolding carry_until
  carry_until_left most few = cond_false _ _ (le-ltb left (length carry.case.line) few)

  pub carry_until_more :
      (most : ℕ) → left < length carry.case.line →
      carry_until (suc most) left carry ≡ carry_until most left (carry_more carry)
  unfolding carry_until
  carry_until_more most many = cond_true _ _ (lt-ltb left (length carry.case.line) many)

-- so many writes are made, and the rest of them is still to come; the disk keeps its length
pub record Followed (left : ℕ) (start : Carry) (size i : ℕ) (disk : Bytes) (carried : Carried) : Type 0 where
  pub within : i ≤ 20
  pub few : Few i carried
  pub goes_on : carry_until 20 left start ≡ carry_until (20 - i) left (carry_of disk carried)
  pub same_size : length disk ≡ size

pub followed_start :
    (left : ℕ) (disk : Bytes) (line : Line) →
    Followed left (carry_on disk (line_of line)) (length disk) 0 disk
    (record { line = line; rounds = 0; waits = 0 })
followed_start left disk line =
    record {
      within = omega arith;
      few = record { rounds_few = omega arith; waits_few = omega arith };
      goes_on = refl;
      same_size = refl;
    }

module _ {left : ℕ} {start : Carry} {size i : ℕ} {disk : Bytes} {carried : Carried}
    (so_far : Followed left start size i disk carried) where
  -- few enough for one write more
  pub few_more : i < 20 → Few 20 carried
  few_more more =
      record {
        rounds_few = omega (arith, so_far.few.rounds_few);
        waits_few = omega (arith, so_far.few.waits_few);
      }

  -- one write more
  pub followed_more :
      {after : Bytes} {next : Carried} → i < 20 → left < length (line_of carried.line) →
      carry_of after next ≡ carry_more (carry_of disk carried) → Few (i + 1) next →
      length after ≡ length disk → Followed left start size (i + 1) after next
  followed_more {after} {next} more many made few kept =
      let one : 20 - i ≡ suc (20 - (i + 1)) = omega arith in
      record {
        within = omega arith;
        few = few;
        goes_on =
            so_far.goes_on
            ∙ ap (λ (n : ℕ). carry_until n left (carry_of disk carried)) one
            ∙ carry_until_more left (carry_of disk carried) (20 - (i + 1)) many
            ∙ ap (carry_until (20 - (i + 1)) left) (sym made);
        same_size = kept ∙ so_far.same_size;
      }

  -- where few are left
  pub followed_left :
      i < 20 → length (line_of carried.line) ≤ left → carry_of disk carried ≡ carry_until 20 left start
  followed_left more few =
      let one : 20 - i ≡ suc (20 - (i + 1)) = omega arith in
      sym (so_far.goes_on ∙ ap (λ (n : ℕ). carry_until n left (carry_of disk carried)) one
      ∙ carry_until_left left (carry_of disk carried) (20 - (i + 1)) few)

  -- after all writes
  pub followed_all : 20 ≤ i → carry_of disk carried ≡ carry_until 20 left start
  followed_all end =
      let none : 20 - i ≡ 0 = omega arith in
      sym (so_far.goes_on ∙ ap (λ (n : ℕ). carry_until n left (carry_of disk carried)) none
      ∙ carry_until-zero left (carry_of disk carried))

-- ---- a row ----

pub carried_agrees :
    {disk after : Bytes} {line : Line} {ran told : Bool} (row : CarryRow) (carried : Carried) →
    disk ≡ live_drive None → line ≡ line_said row.0 →
    carry_of after carried ≡ carry_until 20 row.1 (carry_on disk (line_of line)) →
    ran ≡ eqb row.2 carried.rounds → told ≡ eqb row.3 carried.waits →
    (ran && told) ≡ carry_agrees row
unfolding carry_agrees
carried_agrees {disk} {line = line} row carried drive-is line_is made ran-is told_is =
    rw (ran-is, told_is)
    (ap (λ (carry : Carry). eqb row.2 carry.rounds && eqb row.3 carry.waits)
    (made
    ∙ ap (λ (drive : Bytes). carry_until 20 row.1 (carry_on drive (line_of line))) drive-is
    ∙ ap (λ (said : Line). carry_until 20 row.1 (carry_on (live_drive None) (line_of said))) line_is))
