-- Where a number's block is, in either volume: refused, never placed, or at an address, by the public map's
-- entry or the hidden walk's end. Then what a read shows of it. Assumes nothing.
use Rattle.std.specs.Prelude.{◌≡◌, cond, [], ℕ, ◌<◌, eqb, Option, Some, None, Result, Ok, Err}
use Rattle.model.specs.Geometry.{block_count, block_width}
use Rattle.model.specs.Blocks.{Bytes, DiskAddress, block_at}
use Rattle.model.specs.Layout.{geometry_in, map_entry}
use Rattle.model.specs.HiddenTree.{End, found, unmapped, damaged, walk}
use Rattle.model.specs.Refusals.{drive_refusal, public_read_refusal, hidden_read_refusal}
use Rattle.layout.specs.declared.numbers.DiskAddress as declared
use Rattle.layout.specs.declared.refusals.Refusal.{Refusal}
use Rattle.layout.specs.Refusals.{refusal_number}

pub data Find : Type 0 where
  refused_find : (fault : ℕ) → Find
  blank_find : Find
  block_find : (address : DiskAddress) → Find

-- what the answer of a find says
abbrev pub find_of : Result (Option declared.DiskAddress) Refusal → Find
find_of (Err refusal) = refused_find (refusal_number refusal)
find_of (Ok None) = blank_find
find_of (Ok (Some address)) = block_find address.0

-- what is found, or the refusal where there is one
unfoldable pub unless_refused : (refusal : ℕ) → Find → Find
unless_refused refusal find = cond (eqb refusal 0) find (refused_find refusal)

-- ---- the two volumes ----

-- by a public number's map entry
unfoldable pub entry_find : (entry : DiskAddress) → Find
entry_find entry = cond (eqb entry 0) blank_find (block_find entry)

-- where a public number's block is
abbrev pub public_find : (disk : Bytes) → (number : ℕ) → (blank : Bytes) → Find
public_find disk number blank =
    unless_refused (public_read_refusal disk number blank) (entry_find (map_entry (geometry_in disk) disk number))

-- by where the walk for a hidden number ends
abbrev pub end_find : End → Find
end_find (found address) = block_find address
end_find unmapped = blank_find
end_find damaged = refused_find 12

-- where a hidden number's block is
abbrev pub hidden_find : (disk : Bytes) → (number : ℕ) → (blank : Bytes) → Find
hidden_find disk number blank =
    unless_refused (hidden_read_refusal disk number blank) (end_find (walk (geometry_in disk) disk number).end)

-- ---- what a find tells and shows ----

-- its refusal, 0 where it is not refused
abbrev pub refusal_of : Find → ℕ
refusal_of (refused_find fault) = fault
refusal_of blank_find = 0
refusal_of (block_find address) = 0

-- the block at its address, the caller's blank, or nothing where it is refused
abbrev pub shown_find : Find → (disk blank : Bytes) → Bytes
shown_find (refused_find fault) disk blank = []
shown_find blank_find disk blank = blank
shown_find (block_find address) disk blank = block_at (block_width (geometry_in disk)) disk address

-- a block of a disk that refusals 1 to 3 do not meet
pub record OnDrive (disk : Bytes) (address : DiskAddress) : Type 0 where
  pub accepted : drive_refusal disk ≡ 0
  pub inside : address < block_count (geometry_in disk)

-- a block that is found is on the drive
abbrev pub BlockInside : Find → (disk : Bytes) → Type 0
BlockInside (refused_find fault) disk = Unit {0}
BlockInside blank_find disk = Unit {0}
BlockInside (block_find address) disk = OnDrive disk address
