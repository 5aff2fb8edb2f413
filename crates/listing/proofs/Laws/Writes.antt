-- Laws of a line's write: what the call answers is the write of the line, its stores fit the list, and the
-- line that is put from its answer is the line of output. Assumes nothing.
use mathlib.Core.Path.{◌≡◌, sym, ◌∙◌}
use mathlib.Core.List.{List}
use mathlib.Core.Option.{Option}
use Prim.Native.Nat.{ℕ, ◌≤◌}
use native.Mathlib.Omega.{arith}
use lib.ListN.{length, take}
use Rattle.std.specs.Prelude.{Option as Maybe, Result}
use Rattle.laws.proofs.Lists.{take_over}
use Rattle.model.specs.Blocks.{Bytes, DiskAddress}
use Rattle.model.specs.Layout.{head_in}
use Rattle.model.specs.Stores.{addresses}
use Rattle.model.specs.Calls.{Offered, written}
use Rattle.model.proofs.Laws.Stores.{length-addresses}
use Rattle.model.proofs.Refusals.Writes.{stores_written_le}
use Rattle.mapper.specs.declared.write.Written.{Written}
use Rattle.mapper.specs.Writes.{told_by_write, WriteAnswered}
use Rattle.layout.specs.declared.numbers.HiddenNumber.{HiddenNumber}
use Rattle.layout.specs.declared.refusals.Refusal.{Refusal}
use Rattle.script.specs.Texts.{Put}
use Rattle.script.specs.Lines.{plain_offer}
use Rattle.listing.specs.Writes.{line_data, random_bytes, list_room, offered_write, line_write, line_text}
use Rattle.listing.specs.Writes.{told_text}
use Rattle.listing.specs.Writes.{Reported}

-- ---- the call ----

pub line_answered :
    (disk : Bytes) (line number : ℕ) (offer : Maybe HiddenNumber) (list : List DiskAddress)
    (disk_after : Bytes) (listAfter : List DiskAddress) (answer : Result Written Refusal) →
    length list ≡ list_room → (offered : Offered) → offered ≡ offered_write line (plain_offer offer) →
    WriteAnswered (written disk number (line_data line) random_bytes (length list) offered) disk list
    disk_after listAfter answer →
    WriteAnswered (line_write disk line number (plain_offer offer)) disk list disk_after listAfter answer
unfolding line_write
line_answered disk line number offer list disk_after listAfter answer room offered same answered =
    rw (room, same) at answered

-- ---- the line of output ----

module _ (disk : Bytes) (line number : ℕ) (offer : Option ℕ) (list : List DiskAddress) (disk_after : Bytes)
    (listAfter : List DiskAddress) (answer : Result Written Refusal) (room : length list ≡ list_room)
    (answered : WriteAnswered (line_write disk line number offer) disk list disk_after listAfter answer) where
  stores_le : length (line_write disk line number offer).trace ≤ list_room
  unfolding line_write
  stores_le =
      stores_written_le disk number (line_data line) random_bytes list_room (offered_write line offer)

  pub line_stores_fit : (told_by_write answer).stores ≤ list_room
  line_stores_fit = omega (arith, answered.stores_are, stores_le)

  stores_listed :
      take (told_by_write answer).stores listAfter ≡ addresses (line_write disk line number offer).trace
  stores_listed =
      let trace = (line_write disk line number offer).trace in
      let count : (told_by_write answer).stores ≡ length (addresses trace) =
      answered.stores_are ∙ sym (length-addresses trace) in
      let fits : length (addresses trace) ≤ length list =
      omega (arith, length-addresses trace, stores_le, room) in
      rw (answered.listed, count) (take_over (addresses trace) list fits)

  text_told :
      (head : ℕ) → head ≡ head_in disk_after →
      told_text line (told_by_write answer) head listAfter ≡ line_text disk line number offer
  text_told head first =
      rw (
        stores_listed,
        first,
        answered.answered,
        answered.rounds_are,
        answered.outcome_is,
        answered.stored,
      )

  pub line_reported :
      (head : ℕ) (out outAfter : Bytes) (next : ℕ) → head ≡ head_in disk_after →
      Put (told_text line (told_by_write answer) head listAfter) out 0 outAfter next →
      Reported line number offer disk disk_after out outAfter next
  line_reported head out outAfter next first put =
      record { stored = answered.stored; put = rw (text_told head first) at put }
