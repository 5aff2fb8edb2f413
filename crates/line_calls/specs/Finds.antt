-- Where a hidden number's block is, where offers wait: at a place among the lent blocks, or as a read of the
-- drive finds it. Then what a read shows of it. Assumes nothing.
use Rattle.std.specs.Prelude.{◌≡◌, cond, List, ℕ, ◌+◌, ◌*◌, ◌≤◌, eqb, length, Result, Ok, Err}
use Rattle.std.proofs.Math.Option.{Option, none, some}
use Rattle.model.specs.Geometry.{block_width}
use Rattle.model.specs.Blocks.{Bytes, block_at}
use Rattle.model.specs.Layout.{geometry_in}
use Rattle.model.specs.Refusals.{drive_refusal}
use Rattle.model.specs.Line.{Offer}
use Rattle.model.specs.Calls.{line_read_refusal}
use Rattle.layout.specs.declared.refusals.Refusal.{Refusal}
use Rattle.layout.specs.Refusals.{refusal_number}
use Rattle.line.specs.Waiting.{counting_offer}
use Rattle.reads.specs.Finds.{Find, refused_find, blank_find, block_find, hidden_find, refusal_of, shown_find}
use Rattle.reads.specs.Finds.{BlockInside}
use Rattle.line_calls.specs.declared.finds.LineFind as declared
use Rattle.line_calls.specs.declared.finds.LineFind.TheVariants.{Blank, Drive, Lent}

pub data LineFind : Type 0 where
  drive_find : (find : Find) → LineFind
  lent_find : (place : ℕ) → LineFind

-- what the answer of a find says
abbrev pub line_find_of : Result declared.LineFind Refusal → LineFind
line_find_of (Err refusal) = drive_find (refused_find (refusal_number refusal))
line_find_of (Ok Blank) = drive_find blank_find
line_find_of (Ok (Drive address)) = drive_find (block_find address.0)
line_find_of (Ok (Lent place)) = lent_find place

-- the place of the offer that counts, or else what is found on the drive
abbrev pub offer_find : (counting : Option Offer) → (otherwise : Find) → LineFind
offer_find none otherwise = drive_find otherwise
offer_find (some offer) otherwise = lent_find offer.place

-- where a hidden number's block is, or the refusal where there is one
unfoldable pub line_find :
    (disk : Bytes) → (number : ℕ) → (blank blocks : Bytes) → (line : List Offer) → LineFind
line_find disk number blank blocks line =
    let refusal = line_read_refusal disk number blank blocks line in
    cond (eqb refusal 0)
    (offer_find (counting_offer (geometry_in disk) blocks line number) (hidden_find disk number blank))
    (drive_find (refused_find refusal))

-- ---- what a find tells and shows ----

-- its refusal, 0 where it is not refused
abbrev pub line_refusal_of : LineFind → ℕ
line_refusal_of (drive_find find) = refusal_of find
line_refusal_of (lent_find place) = 0

-- the block at its place, or what is shown of the drive
abbrev pub shown_line_find : LineFind → (disk blank blocks : Bytes) → Bytes
shown_line_find (drive_find find) disk blank blocks = shown_find find disk blank
shown_line_find (lent_find place) disk blank blocks = block_at (block_width (geometry_in disk)) blocks place

-- a block wholly among the lent ones, by the block size of a disk that refusals 1 to 3 do not meet
pub record AmongLent (disk blocks : Bytes) (place : ℕ) : Type 0 where
  pub accepted : drive_refusal disk ≡ 0
  pub inside : (place + 1) * block_width (geometry_in disk) ≤ length blocks

-- a block that is found is on the drive, or wholly among the lent ones
abbrev pub FoundInside : LineFind → (disk blocks : Bytes) → Type 0
FoundInside (drive_find find) disk blocks = BlockInside find disk
FoundInside (lent_find place) disk blocks = AmongLent disk blocks place
