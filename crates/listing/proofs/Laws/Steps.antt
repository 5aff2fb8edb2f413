-- Laws of the steps of a listing: a line that has ended, a place that the bytes end at, one more byte, and
-- the end of the input; and that a step goes on by at most one line. Assumes nothing.
use mathlib.Core.Path.{◌≡◌, refl, sym, ap, ◌∙◌}
use mathlib.Core.Logic.{◌⊎◌, inl, inr}
use mathlib.Core.Bool.{true, false}
use mathlib.Core.List.{[]}
use mathlib.Core.Option.{Option}
use Prim.Native.Nat.{ℕ, ◌+◌, ◌≤◌}
use native.Mathlib.Omega.{arith}
use lib.ListN.{length, take, length-append}
use Rattle.laws.specs.Lists.{over}
use Rattle.laws.proofs.Cases.{bool_cases}
use Rattle.laws.proofs.Lists.{over_nil, over_is}
use Rattle.model.specs.Blocks.{Bytes}
use Rattle.script.specs.declared.feeding.Feed.{Feed}
use Rattle.script.specs.declared.feeding.Feed.TheVariants.{NoLine, Inside, Ended}
use Rattle.script.specs.Texts.{Put}
use Rattle.script.specs.Lines.{Line, good, bad, line_in}
use Rattle.script.specs.Feeding.{Reading, no_line, in_line, at_end, step, finish, cut, reading_in}
use Rattle.listing.specs.Writes.{Reported}
use Rattle.listing.specs.Listings.{Listing, after_line, text_of_line, after_move, text_of_move, after_byte}
use Rattle.listing.specs.Listings.{text_of_byte, closed, after_end, text_of_end, Lent, listing_of, WentOn}
use Rattle.listing.specs.declared.progress.Progress.{Progress}

-- ---- buffers ----

pub lent_again :
    {buffer disk out bufferAfter disk_after outAfter : Bytes} → Lent buffer disk out →
    length bufferAfter ≡ length buffer → length disk_after ≡ length disk → length outAfter ≡ length out →
    Lent bufferAfter disk_after outAfter
lent_again lent buffer-same disk_same out-same =
    record {
      buffer_whole = buffer-same ∙ lent.buffer_whole;
      header_inside = rw disk_same lent.header_inside;
      line_fits = rw out-same lent.line_fits;
    }

put_nothing : (out : Bytes) → Put [] out 0 out 0
put_nothing out = record { placed = sym (over_nil 0 out (omega arith)); ended = refl }

-- what is put at the front of a buffer ends inside it
pub put_inside :
    {text out outAfter : Bytes} {next : ℕ} → Put text out 0 outAfter next → length outAfter ≡ length out →
    next ≤ length outAfter
put_inside {text} {out} {outAfter} put same =
    let whole : length outAfter ≡ length (over 0 text out) = ap length put.placed in
    omega (arith, put.ended, simp (over_is, length-append) at whole)

-- a step with the length that `print_front` answers, which is that of its text
pub step-printed :
    {after : Listing} {text buffer disk out outAfter : Bytes} {progress : Progress} {put : ℕ} →
    WentOn after text buffer disk out outAfter progress → put ≡ progress.put →
    WentOn after text buffer disk out outAfter
    (record {
      feed = progress.feed;
      is_open = progress.is_open;
      line = progress.line;
      put = put;
    })
step-printed stepped all = record { stands = stepped.stands; put = rw all stepped.put }

-- ---- a line ----

module _ {said : Line} {line : ℕ} {disk out : Bytes} where
  pub took_good :
      {number : ℕ} {offer : Option ℕ} {disk_after outAfter : Bytes} {put : ℕ} → said ≡ good number offer →
      Reported line number offer disk disk_after out outAfter put → (feed : Feed) (buffer : Bytes) →
      WentOn (after_line said (reading_in feed buffer) line disk) (text_of_line said line disk) buffer
      disk_after out outAfter (record { feed = feed; is_open = true; line = line + 1; put = put })
  took_good e reported feed buffer =
      rw e (record { stands = rw reported.stored; put = reported.put })

  pub took_bad :
      said ≡ bad → (feed : Feed) (buffer : Bytes) →
      WentOn (after_line said (reading_in feed buffer) line disk) (text_of_line said line disk) buffer
      disk out out (record { feed = feed; is_open = false; line = line; put = 0 })
  took_bad e feed buffer = rw e (record { stands = refl; put = put_nothing out })

-- ---- where the bytes end ----

module _ (feed : Feed) (line : ℕ) (buffer disk out : Bytes) where
  pub moved_names :
      feed ≡ NoLine →
      WentOn (after_move (reading_in feed buffer) line disk) (text_of_move (reading_in feed buffer) line disk)
      buffer disk out out (record { feed = feed; is_open = true; line = line; put = 0 })
  moved_names e = rw e (record { stands = refl; put = put_nothing out })

  pub moved_inside :
      {held : ℕ} → feed ≡ Inside held →
      WentOn (after_move (reading_in feed buffer) line disk) (text_of_move (reading_in feed buffer) line disk)
      buffer disk out out (record { feed = feed; is_open = true; line = line; put = 0 })
  moved_inside e = rw e (record { stands = refl; put = put_nothing out })

  pub moved_ended :
      {held : ℕ} {said : Line} {disk_after outAfter : Bytes} {progress : Progress} → feed ≡ Ended held →
      said ≡ line_in (take held buffer) →
      WentOn (after_line said (at_end (take held buffer)) line disk) (text_of_line said line disk) buffer
      disk_after out outAfter progress →
      WentOn (after_move (reading_in feed buffer) line disk) (text_of_move (reading_in feed buffer) line disk)
      buffer disk_after out outAfter progress
  moved_ended e means stepped = rw e (rw means at stepped)

-- ---- one more byte, and the end ----

module _ (progress : Progress) (buffer disk out : Bytes) where
  module _ (over : progress.is_open ≡ false) (after : Progress) (nothing : after.put ≡ 0)
      (same : listing_of after buffer disk ≡ listing_of progress buffer disk) where
    pub byte_after_all :
        (byte : ℕ) →
        WentOn (after_byte (listing_of progress buffer disk) byte)
        (text_of_byte (listing_of progress buffer disk) byte) buffer disk out out after
    unfolding after_byte text_of_byte
    byte_after_all byte = rw over (record { stands = same ∙ rw over; put = rw nothing (put_nothing out) })

    pub end_after_all :
        WentOn (after_end (listing_of progress buffer disk)) (text_of_end (listing_of progress buffer disk))
        buffer disk out out after
    unfolding after_end text_of_end
    end_after_all = rw over (record { stands = same ∙ rw over; put = rw nothing (put_nothing out) })

  module _ (goes_on : progress.is_open ≡ true) (reading : Reading) (disk_after outAfter : Bytes)
      (after : Progress) where
    pub byte_taken :
        (byte : ℕ) (bufferAfter : Bytes) → reading ≡ cut (step (reading_in progress.feed buffer) byte) →
        WentOn (after_move reading progress.line disk) (text_of_move reading progress.line disk)
        bufferAfter disk_after out outAfter after →
        WentOn (after_byte (listing_of progress buffer disk) byte)
        (text_of_byte (listing_of progress buffer disk) byte) bufferAfter disk_after out outAfter after
    unfolding after_byte text_of_byte
    byte_taken byte bufferAfter leads stepped = rw goes_on (rw leads at stepped)

    pub end_taken :
        reading ≡ finish (reading_in progress.feed buffer) →
        WentOn (after_move reading progress.line disk) (text_of_move reading progress.line disk)
        buffer disk_after out outAfter after →
        WentOn (after_end (listing_of progress buffer disk)) (text_of_end (listing_of progress buffer disk))
        buffer disk_after out outAfter
        (record { feed = after.feed; is_open = false; line = after.line; put = after.put })
    unfolding after_end text_of_end
    end_taken leads stepped =
        let moved = rw leads at stepped in
        rw goes_on (record { stands = ap closed moved.stands; put = moved.put })

-- ---- lines are counted ----

line_after_line :
    (said : Line) (reading : Reading) (line : ℕ) (disk : Bytes) →
    (after_line said reading line disk).line ≤ line + 1
line_after_line (good number offer) reading line disk = omega arith
line_after_line bad reading line disk = omega arith

line_after_move :
    (reading : Reading) (line : ℕ) (disk : Bytes) → (after_move reading line disk).line ≤ line + 1
line_after_move no_line line disk = omega arith
line_after_move (in_line bytes) line disk = omega arith
line_after_move (at_end bytes) line disk = line_after_line (line_in bytes) (at_end bytes) line disk

pub line_after_byte : (at : Listing) (byte : ℕ) → (after_byte at byte).line ≤ at.line + 1
unfolding after_byte
line_after_byte at byte = by (bool_cases at.is_open)
  where
    by : (at.is_open ≡ true) ⊎ (at.is_open ≡ false) → (after_byte at byte).line ≤ at.line + 1
    by (inl e) = rw e (line_after_move (cut (step at.reading byte)) at.line at.disk)
    by (inr e) = rw e (omega arith)

pub line_after_end : (at : Listing) → (after_end at).line ≤ at.line + 1
unfolding after_end
line_after_end at = by (bool_cases at.is_open)
  where
    by : (at.is_open ≡ true) ⊎ (at.is_open ≡ false) → (after_end at).line ≤ at.line + 1
    by (inl e) = rw e (line_after_move (finish at.reading) at.line at.disk)
    by (inr e) = rw e (omega arith)
