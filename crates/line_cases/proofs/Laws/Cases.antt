-- The writes that go before, one after another. Assumes nothing.
use mathlib.Core.Path.{◌≡◌, refl, ap, ◌∙◌}
use mathlib.Core.List.{List, []}
use Prim.Native.Nat.{ℕ, suc, ◌+◌, ◌-◌, ◌≤◌, ◌<◌, min}
use native.Mathlib.Omega.{arith}
use lib.ListN.{length, replicate}
use Rattle.model.specs.Blocks.{Bytes, DiskAddress}
use Rattle.model.specs.Line.{Offer}
use Rattle.model.specs.Calls.{in_line, written}
use Rattle.model.specs.Promises.Figures.{filled}
use Rattle.model.specs.Promises.LineFigures.{three_blocks, line_written, disk_after_line, left_by}
use Rattle.std.specs.Prelude.{Result}
use Rattle.layout.specs.declared.refusals.Refusal.{Refusal}
use Rattle.line.specs.declared.offers.Line.{Line}
use Rattle.line.specs.Offers.{line_of, no_line}
use Rattle.mapper.specs.declared.write.LineWritten.{LineWritten}
use Rattle.mapper.specs.Writes.{LineAnswered, told_by_line_write}
use Rattle.line_cases.specs.Offers.{line_said}
use Rattle.line_cases.specs.declared.cases.Start.{Start}
use Rattle.line_cases.specs.Cases.{case_drive, written_with, Case, case_on, written_case, case_after}
use Rattle.line_cases.specs.Cases.{CaseLeft, case_from}

-- a write of the same
same_disk :
    {disk same after : Bytes} {line equal : List Offer} {number other : ℕ} →
    disk ≡ same → line ≡ equal → number ≡ other → after ≡ disk_after_line disk number line →
    after ≡ disk_after_line same other equal
same_disk disk_is line_is number_is made = rw (disk_is, line_is, number_is) at made

same_left :
    {disk same : Bytes} {line equal left : List Offer} {number other : ℕ} →
    disk ≡ same → line ≡ equal → number ≡ other → left ≡ left_by disk number line →
    left ≡ left_by same other equal
same_left disk_is line_is number_is made = rw (disk_is, line_is, number_is) at made

pub case_is :
    {case : Case} {disk : Bytes} {line : Line} → CaseLeft case disk line → case_on disk (line_of line) ≡ case
case_is left = rw (left.disk_is, left.line_is)

-- the blocks lent are the three
pub written_with_lem :
    {disk after blocks : Bytes} {line : Line} {list listAfter : List DiskAddress}
    {made : Result LineWritten Refusal} (number : ℕ) → blocks ≡ three_blocks →
    LineAnswered
    (written disk number (filled 7) (replicate 256 165) (length list) (in_line blocks (line_of line)))
    disk list blocks line after listAfter made →
    LineAnswered (written_with disk number (line_of line) (length list)) disk list three_blocks line after
    listAfter made
written_with_lem number blocks-are wrote = rw blocks-are at wrote

-- a write leaves the case after it
pub case_written :
    {case : Case} {disk after : Bytes} {line : Line} {list listAfter : List DiskAddress}
    {made : Result LineWritten Refusal} {number other : ℕ} → CaseLeft case disk line → number ≡ other →
    LineAnswered (line_written disk number (line_of line)) disk list three_blocks line after listAfter made →
    CaseLeft (written_case other case) after (told_by_line_write line made).line
case_written left number_is made =
    record {
      disk_is = same_disk left.disk_is left.line_is number_is made.stored;
      line_is = same_left left.disk_is left.line_is number_is made.line_left_lem;
    }

-- so many writes are made, and the disk keeps its length
pub record Carrying (from to last : ℕ) (start : Case) (size i : ℕ) (disk : Bytes) (left : Line) : Type 0 where
  pub low : from ≤ i
  pub within : i - from ≤ to - from
  pub reached : CaseLeft (case_after from (i - from) last start) disk left
  pub same_size : length disk ≡ size

pub carrying_start :
    (from to last : ℕ) (disk : Bytes) (line : Line) →
    Carrying from to last (case_on disk (line_of line)) (length disk) from disk line
unfolding case_after
carrying_start from to last disk line =
    let none : from - from ≡ 0 = omega arith in
    record {
      low = omega arith;
      within = omega arith;
      reached = rw none (record { disk_is = refl; line_is = refl });
      same_size = refl;
    }

module _ {from to last : ℕ} {start : Case} {size i : ℕ} {disk : Bytes} {left : Line}
    (so_far : Carrying from to last start size i disk left) where
  -- one write more
  pub carrying_more :
      {after : Bytes} {list listAfter : List DiskAddress} {made : Result LineWritten Refusal} {number : ℕ}
      {next : Line} → i < to →
      number ≡ min i last →
      LineAnswered (line_written disk number (line_of left)) disk list three_blocks left after listAfter
      made →
      next ≡ (told_by_line_write left made).line → length after ≡ length disk →
      Carrying from to last start size (i + 1) after next
  unfolding case_after
  carrying_more {after = after} more number_is made next_is kept =
      let one : i + 1 - from ≡ suc (i - from) = omega (arith, so_far.low) in
      let here : i ≡ from + (i - from) = omega (arith, so_far.low) in
      record {
        low = omega arith;
        within = omega (arith, so_far.low);
        reached =
            rw (one, next_is)
            (case_written so_far.reached (number_is ∙ ap (λ (n : ℕ). min n last) here) made);
        same_size = kept ∙ so_far.same_size;
      }

  -- all writes, where the loop ends
  pub carrying_end : to ≤ i → CaseLeft (case_after from (to - from) last start) disk left
  carrying_end end =
      let all : to - from ≡ i - from = omega (arith, so_far.low, so_far.within) in rw all so_far.reached

-- the drive made, the writes with an empty line, and then those with the line that is said
pub case_prepared :
    {made plain after : Bytes} {none line left rest : Line} (start : Start) (disk : Bytes) →
    made ≡ case_drive start disk → none ≡ no_line →
    CaseLeft (case_after 0 (start.plain - 0) start.last (case_on made (line_of none))) plain rest →
    line ≡ line_said start.line →
    CaseLeft
    (case_after start.plain (start.writes - start.plain) start.last (case_on plain (line_of line)))
    after left →
    CaseLeft (case_from start disk) after left
unfolding case_from
case_prepared {plain = plain} start disk made-is none_is written line_is carried =
    let whole : start.plain - 0 ≡ start.plain = omega arith in
    let plain-is :
    plain ≡ (case_after 0 start.plain start.last (case_on (case_drive start disk) [])).disk =
    rw (whole, made-is, none_is) at written.disk_is in
    rw (plain-is, line_is) at carried
