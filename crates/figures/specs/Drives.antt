-- The drive of a row. Assumes nothing.
use Rattle.std.specs.Prelude.{ℕ, zero, suc, min, take, replicate, Option, None}
use Rattle.model.specs.Blocks.{Bytes, set_entry}
use Rattle.model.specs.Calls.{formatted}
use Rattle.model.specs.Promises.Figures.{small}
use Rattle.model.specs.Calls.{nothing}
use Rattle.model.specs.Promises.Limits.{listed_on, two_bitmaps}
use Rattle.figure_lines.specs.declared.lines.Put.{Put}
use Rattle.figure_lines.specs.Counts.{puts_said}
use Rattle.recovery_figures.specs.Listed.{three_written, five_written}
use Rattle.figures.specs.declared.drives.Drive.{Drive}
use Rattle.figures.specs.declared.drives.Made.{Made}
use Rattle.figures.specs.declared.drives.Made.TheVariants.{Fresh, Slot, Three, Five, Written, Moved}

-- ---- how it is made ----

-- formatted, public number 0 in slot 0, that slot's bit set, the root's first entry its leaf; block A starts
-- with a 7, the leaf's first entry is the hidden data, which starts with an 8
abbrev pub slot_made : (disk : Bytes) → Bytes
slot_made disk =
    set_entry 48 8 (set_entry 40 6 (set_entry 32 7
    (set_entry 24 5 (set_entry 16 1 (set_entry 8 4 (formatted disk small))))))

-- so many writes of bytes 7, to numbers 0, 1 and so on up to the last, and then to the last
unfoldable pub disk_written_on : (times last : ℕ) → (disk : Bytes) → Bytes
disk_written_on zero last disk = disk
disk_written_on (suc times) last disk = listed_on (disk_written_on times last disk) 7 (min times last) nothing

unfoldable pub made_by : Made → (disk : Bytes) → Bytes
made_by Fresh disk = formatted disk small
made_by Slot disk = slot_made disk
made_by Three disk = three_written (formatted disk small)
made_by Five disk = five_written disk
made_by (Written times) disk = disk_written_on times 2 (formatted disk small)
made_by (Moved times) disk = disk_written_on times 0 (formatted disk two_bitmaps)

-- ---- what is put and lent ----

unfoldable pub drive_on : Drive → (disk : Bytes) → Bytes
drive_on drive disk =
    puts_said drive.later (puts_said drive.put (made_by drive.made disk))

-- a drive with one entry put, or none
abbrev pub row_drive : Made → Option Put → Drive
row_drive made put = record { made = made; put = put; later = None }

-- a drive on a disk of 512 bytes, and the first so many bytes of it
abbrev pub small_drive : Drive → Bytes
small_drive drive = drive_on drive (replicate 512 0)

abbrev pub lent_of : Drive → (bytes : ℕ) → Bytes
lent_of drive bytes = take bytes (small_drive drive)
