-- When a row of a write agrees with the model. Assumes nothing.
use Rattle.std.specs.Prelude.{Bool, ◌&&◌, List, ◌≡◌, ℕ, eqb, length, take, replicate, Option, Some, None}
use Rattle.model.specs.Blocks.{Bytes, DiskAddress}
use Rattle.model.specs.Refusals.{write_refusal}
use Rattle.model.specs.Calls as model
use Rattle.model.specs.Calls.{Written, written, written_disk, written_list, outcome_number, one, nothing}
use Rattle.model.specs.Promises.Figures.{filled}
use Rattle.figure_lines.specs.Counts.{is_listed}
use Rattle.figures.specs.Drives.{drive_on, row_drive}
use Rattle.figures.specs.declared.drives.Drive.{Drive}
use Rattle.figures.specs.declared.drives.Made.{Made}
use Rattle.figures.specs.declared.drives.Made.TheVariants.{Moved}
use Rattle.figures.specs.declared.writes.Offered.{Offered}
use Rattle.figures.specs.declared.writes.RefusedRow.{RefusedRow}
use Rattle.figures.specs.declared.writes.WriteRow.{WriteRow}
use Rattle.figures.specs.declared.writes.Write.{Write}
use Rattle.figures.specs.declared.writes.Said.{Said}

-- ---- a write ----

-- what is offered: so many of these bytes to a hidden number, or nothing
abbrev pub offer_from : Option Offered → (bytes : Bytes) → model.Offered
offer_from None bytes = nothing
offer_from (Some offer) bytes = one (record { number = offer.0; content = take offer.1 bytes })

abbrev pub content_of : Write → Bytes
content_of write = take write.content (filled 7)

abbrev pub random_of : Write → Bytes
random_of write = take write.random (replicate 256 165)

-- the refusal, asked without writing
abbrev pub fault_agrees : (disk : Bytes) → (list : List DiskAddress) → Write → (answer : ℕ) → Bool
fault_agrees disk list write answer =
    eqb answer (write_refusal disk write.number (content_of write) (length (random_of write)) (length list))

unfoldable pub result_of : (disk : Bytes) → (list : List DiskAddress) → Write → Written
result_of disk list write =
    written disk write.number (content_of write) (random_of write) (length list)
    (offer_from write.offer (replicate 33 9))

abbrev pub said_agrees : Said → (answer rounds stores outcome : ℕ) → Bool
said_agrees said answer rounds stores outcome =
    eqb said.answer answer && eqb said.rounds rounds && eqb said.stores stores &&
    eqb said.outcome outcome

-- the refusal, the four figures of the write, and the list after it
abbrev pub result_agrees :
    Said → (stored : List DiskAddress) → (disk : Bytes) → (list : List DiskAddress) → Write → Written → Bool
result_agrees said stored disk list write result =
    fault_agrees disk list write said.answer &&
    said_agrees said result.answer result.rounds (length result.trace)
    (outcome_number result.outcome) &&
    is_listed stored (written_list result list)

-- a write that is held to what is said: whether it agrees, and the disk and the list that it leaves
pub record RowWrote (write : Write) (said : Said) (stored : List DiskAddress) (disk : Bytes)
    (list : List DiskAddress) (disk_after : Bytes) (listAfter : List DiskAddress) (agreed : Bool) :
    Type 0 where
  pub agrees_is : agreed ≡ result_agrees said stored disk list write (result_of disk list write)
  pub disk_is : disk_after ≡ written_disk (result_of disk list write) disk
  pub list_is : listAfter ≡ written_list (result_of disk list write) list

-- ---- its drive and its list ----

abbrev pub list_of : (room : ℕ) → List DiskAddress
list_of room = take room (replicate 23 99)

unfoldable pub agrees_on : (room : ℕ) → Write → Said → (stored : List DiskAddress) → (disk : Bytes) → Bool
agrees_on room write said stored disk =
    result_agrees said (take said.stores stored) disk (list_of room) write
    (result_of disk (list_of room) write)

-- the same with a list of so much room and as many stored as are said
pub record RowWroteOn (room : ℕ) (write : Write) (said : Said) (stored : List DiskAddress)
    (disk disk_after : Bytes) (agreed : Bool) : Type 0 where
  pub agrees_is : agreed ≡ agrees_on room write said stored disk
  pub disk_is : disk_after ≡ written_disk (result_of disk (list_of room) write) disk

-- zeros for a drive: 9760 bytes for one that is moved, else 512
abbrev pub zeros_for : Made → Bytes
zeros_for (Moved times) = replicate 9760 0
zeros_for _ = replicate 512 0

abbrev pub write_agrees : Drive → (bytes room : ℕ) → Write → Said → (stored : List DiskAddress) → Bool
write_agrees drive bytes room write said stored =
    agrees_on room write said stored (take bytes (drive_on drive (zeros_for drive.made)))

-- ---- a row ----

abbrev pub row_write : (number content : ℕ) → Option Offered → (random : ℕ) → Write
row_write number content offer random =
    record { number = number; content = content; offer = offer; random = random }

abbrev pub said_of : (answer rounds stores outcome : ℕ) → Said
said_of answer rounds stores outcome =
    record { answer = answer; rounds = rounds; stores = stores; outcome = outcome }

unfoldable pub refused_agrees : RefusedRow → Bool
refused_agrees row =
    write_agrees (row_drive row.0 row.1) row.2 row.6 (row_write row.3 row.4 None row.5)
    (said_of row.7 0 0 3) (replicate 17 0)

unfoldable pub accepted_agrees : WriteRow → Bool
accepted_agrees row =
    write_agrees (row_drive row.0 row.1) row.2 row.6 (row_write row.3 32 row.4 row.5)
    (said_of 0 row.7 row.8 row.9) row.10
