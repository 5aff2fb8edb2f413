-- The write of one line of the listing's input, and its line of output (document 01, "Figures to hold
-- against"). Assumes nothing.
use Rattle.std.specs.Prelude.{◌≡◌, List, ℕ, ◌%◌, replicate, take}
use Rattle.std.proofs.Math.Option.{Option, none, some}
use Rattle.model.specs.Blocks.{Bytes}
use Rattle.model.specs.Layout.{head_in}
use Rattle.model.specs.Stores.{addresses}
use Rattle.model.specs.Calls.{Offered, nothing, one, Written, written, written_disk, outcome_number}
use Rattle.mapper.specs.Writes.{WriteTold}
use Rattle.script.specs.Texts.{Put}
use Rattle.script.specs.Reports.{report_line}

-- ---- what a write gets ----

-- B bytes, each the line's number mod 256
abbrev pub line_data : (line : ℕ) → Bytes
line_data line = replicate 32 (line % 256)

-- 256 bytes, each 165
abbrev pub random_bytes : Bytes
random_bytes = replicate 256 165

-- entries of the list
abbrev pub list_room : ℕ
list_room = 23

-- the hidden write of these bytes, where a number is offered
abbrev pub offered_with : (content : Bytes) → (offer : Option ℕ) → Offered
offered_with content none = nothing
offered_with content (some number) = one (record { number = number; content = content })

-- the hidden write that a line offers, if any
abbrev pub offered_write : (line : ℕ) → (offer : Option ℕ) → Offered
offered_write line offer = offered_with (line_data line) offer

-- ---- what it does and prints ----

-- the write of a line with this number
unfoldable pub line_write : (disk : Bytes) → (line number : ℕ) → (offer : Option ℕ) → Written
line_write disk line number offer =
    written disk number (line_data line) random_bytes list_room (offered_write line offer)

-- the disk that it leaves
abbrev pub line_disk : (disk : Bytes) → (line number : ℕ) → (offer : Option ℕ) → Bytes
line_disk disk line number offer = written_disk (line_write disk line number offer) disk

-- a write's line of output, with the disk that it leaves
abbrev pub write_text : (line : ℕ) → Written → (disk_after : Bytes) → Bytes
write_text line result disk_after =
    report_line line result.answer result.rounds (outcome_number result.outcome) (head_in disk_after)
    (addresses result.trace)

-- the line of output of a line with this number
abbrev pub line_text : (disk : Bytes) → (line number : ℕ) → (offer : Option ℕ) → Bytes
line_text disk line number offer =
    write_text line (line_write disk line number offer) (line_disk disk line number offer)

-- ---- what the code says ----

-- the line of output of what a write told, of its stores at the front of a list
abbrev pub told_text : (line : ℕ) → WriteTold → (head : ℕ) → (list : List ℕ) → Bytes
told_text line told head list =
    report_line line told.answer told.rounds (outcome_number told.outcome) head (take told.stores list)

-- the disk is written and the line of output stands at the front of the buffer
pub record Reported (line number : ℕ) (offer : Option ℕ) (disk disk_after out outAfter : Bytes)
    (next : ℕ) : Type 0 where
  pub stored : disk_after ≡ line_disk disk line number offer
  pub put : Put (line_text disk line number offer) out 0 outAfter next
