-- The listing, byte by byte and as a whole (document 01, "Figures to hold against"): where it stands, what
-- each byte of input and the end of the input do to it, and what they print. Assumes nothing.
use Rattle.std.specs.Prelude.{◌≡◌, ◌⊎◌, Bool, true, false, cond, List, [], ◌∷◌, ◌++◌, map, ℕ, ◌+◌, ◌≤◌, eqb}
use Rattle.std.specs.Prelude.{length, take, replicate}
use Rattle.model.specs.Blocks.{Bytes}
use Rattle.model.specs.Calls.{formatted}
use Rattle.model.specs.Promises.Figures.{small, fresh}
use Rattle.script.specs.Texts.{Put}
use Rattle.script.specs.Lines.{Line, good, bad, line_in}
use Rattle.script.specs.Reports.{heading, report_room}
use Rattle.script.specs.Feeding.{Reading, no_line, in_line, at_end, step, finish, line_room, cut, reading_in}
use Rattle.script.specs.Feeding.{value_lines}
use Rattle.listing.specs.Writes.{list_room, line_disk, line_text}
use Rattle.listing.specs.declared.progress.Progress as declared

-- ---- where it stands ----

-- where the bytes so far end, whether more lines are taken, the number of the next line, and the disk
pub record Listing : Type 0 where
  pub reading : Reading
  pub is_open : Bool
  pub line : ℕ
  pub disk : Bytes

-- nothing is read, and the disk is formatted for the examples' geometry
abbrev pub begun : (disk : Bytes) → Listing
begun disk = record { reading = no_line; is_open = true; line = 1; disk = formatted disk small }

-- ---- a line ----

-- a good line is written, another one ends the listing
abbrev pub after_line : Line → Reading → (line : ℕ) → (disk : Bytes) → Listing
after_line (good number offer) reading line disk =
    record { reading = reading; is_open = true; line = line + 1; disk = line_disk disk line number offer }
after_line bad reading line disk = record { reading = reading; is_open = false; line = line; disk = disk }

-- what a line prints: a good one its line of output, another one nothing
abbrev pub text_of_line : Line → (line : ℕ) → (disk : Bytes) → Bytes
text_of_line (good number offer) line disk = line_text disk line number offer
text_of_line bad line disk = []

-- ---- bytes ----

-- the bytes end here now; a line that has just ended is taken
abbrev pub after_move : Reading → (line : ℕ) → (disk : Bytes) → Listing
after_move no_line line disk = record { reading = no_line; is_open = true; line = line; disk = disk }
after_move (in_line bytes) line disk =
    record { reading = in_line bytes; is_open = true; line = line; disk = disk }
after_move (at_end bytes) line disk = after_line (line_in bytes) (at_end bytes) line disk

-- what going on to here prints
abbrev pub text_of_move : Reading → (line : ℕ) → (disk : Bytes) → Bytes
text_of_move no_line line disk = []
text_of_move (in_line bytes) line disk = []
text_of_move (at_end bytes) line disk = text_of_line (line_in bytes) line disk

-- one more byte, of which nothing comes once the listing has ended
unfoldable pub after_byte : Listing → (byte : ℕ) → Listing
after_byte at byte = cond at.is_open (after_move (cut (step at.reading byte)) at.line at.disk) at

-- what one more byte prints
unfoldable pub text_of_byte : Listing → (byte : ℕ) → Bytes
text_of_byte at byte = cond at.is_open (text_of_move (cut (step at.reading byte)) at.line at.disk) []

-- bytes one after another
unfoldable pub after_bytes : Listing → Bytes → Listing
after_bytes at [] = at
after_bytes at (byte ∷ bytes) = after_bytes (after_byte at byte) bytes

-- what they print, in order
unfoldable pub text_of_bytes : Listing → Bytes → Bytes
text_of_bytes at [] = []
text_of_bytes at (byte ∷ bytes) = text_of_byte at byte ++ text_of_bytes (after_byte at byte) bytes

-- ---- the end of the input ----

-- no more lines are taken
abbrev pub closed : Listing → Listing
closed at = record { reading = at.reading; is_open = false; line = at.line; disk = at.disk }

-- a last line without its newline is taken, and no other
unfoldable pub after_end : Listing → Listing
after_end at = closed (cond at.is_open (after_move (finish at.reading) at.line at.disk) at)

-- what the end of the input prints
unfoldable pub text_of_end : Listing → Bytes
text_of_end at = cond at.is_open (text_of_move (finish at.reading) at.line at.disk) []

-- ---- the input as a whole ----

-- what lines print, the first of them with this number
unfoldable pub text_of_lines : (disk : Bytes) → (line : ℕ) → List Line → Bytes
text_of_lines disk line [] = []
text_of_lines disk line (good number offer ∷ lines) =
    line_text disk line number offer ++ text_of_lines (line_disk disk line number offer) (line + 1) lines
text_of_lines disk line (bad ∷ lines) = []

-- all that the listing prints, as the lines of the input say
abbrev pub listing : (input : Bytes) → Bytes
listing input = heading ++ text_of_lines fresh 1 (map line_in (value_lines input))

-- all that the steps print: the heading, what comes of each byte, and what comes of the end
abbrev pub printed : (input : Bytes) → Bytes
printed input =
    let start = begun (replicate 512 0) in
    heading ++ (text_of_bytes start input ++ text_of_end (after_bytes start input))

-- ---- what the code is lent ----

-- a buffer for the line that is held, a disk with a header, and room for a line of output
pub record Lent (buffer disk out : Bytes) : Type 0 where
  pub buffer_whole : length buffer ≡ line_room
  pub header_inside : 24 ≤ length disk
  pub line_fits : report_room list_room ≤ length out

-- ---- what the code says ----

-- where a declared progress, the buffer of the line that is held and a disk stand
abbrev pub listing_of : declared.Progress → (buffer disk : Bytes) → Listing
listing_of progress buffer disk =
    record {
      reading = reading_in progress.feed buffer;
      is_open = progress.is_open;
      line = progress.line;
      disk = disk;
    }

-- the listing goes on to here, and what is to be printed stands at the front of the buffer
pub record WentOn (after : Listing) (text : Bytes) (buffer disk out outAfter : Bytes)
    (progress : declared.Progress) : Type 0 where
  pub stands : listing_of progress buffer disk ≡ after
  pub put : Put text out 0 outAfter progress.put

-- a front of the piece is taken, or the end of the input where nothing was read
pub record Fed (start : Listing) (piece : Bytes) (after : Listing) : Type 0 where
  pub count : ℕ
  pub fed : after ≡ cond (eqb count 0) (after_end start) (after_bytes start (take count piece))

-- the listing stands where some input, whole or not, leads it
pub record Led (start after : Listing) : Type 0 where
  pub input : Bytes
  pub led : (after ≡ after_bytes start input) ⊎ (after ≡ after_end (after_bytes start input))
