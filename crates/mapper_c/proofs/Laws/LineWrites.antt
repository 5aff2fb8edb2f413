-- Laws of the write with a line for C: what is told, and the answer of a lent line that is loaded and saved.
-- Assumes nothing.
use mathlib.Core.Path.{◌≡◌, refl, sym, ap, ◌∙◌}
use mathlib.Core.Logic.{◌≢◌}
use mathlib.Core.List.{List}
use Prim.Native.Nat.{ℕ, ◌≤◌}
use native.Mathlib.Omega.{arith}
use lib.ListN.{length}
use Rattle.std.specs.Prelude.{Result, Ok, Err}
use Rattle.model.specs.Blocks.{Bytes, DiskAddress}
use Rattle.model.specs.Line as model
use Rattle.model.specs.Calls.{Written, written, in_line, written_disk, written_list, line_left}
use Rattle.model.proofs.Laws.LineLengths.{line_left_le}
use Rattle.layout.specs.declared.refusals.Refusal.{Refusal}
use Rattle.line.specs.declared.offers.Offer.{Offer}
use Rattle.line.specs.declared.offers.Line.{Line}
use Rattle.line.specs.Offers.{offers_of, line_of}
use Rattle.lent_line.specs.Lent.{loaded_line, saved_offers}
use Rattle.lent_line.proofs.Laws.Lent.{loaded_line_is, handed_fits, saved_left, saved_kept}
use Rattle.mapper.specs.declared.write.LineWritten.{LineWritten}
use Rattle.mapper.specs.Writes.{told_by_line_write, LineAnswered}
use Rattle.answers_c.specs.LineWrites.{line_written_said}
use Rattle.mapper_c.specs.LineWrites.{line_numbers, LentWritten}

-- ---- what is told ----

-- the numbers of the model's write
told :
    {result : Written} (disk : Bytes) (list : List DiskAddress) (blocks : Bytes) (line : Line)
    (answer : Result LineWritten Refusal) {disk_after : Bytes} {listAfter : List DiskAddress} →
    LineAnswered result disk list blocks line disk_after listAfter answer →
    line_written_said (told_by_line_write line answer) ≡
    line_numbers result (line_left result disk blocks (line_of line))
told disk list blocks line answer half =
    rw (
      half.answered,
      half.rounds_are,
      half.stores_are,
      half.outcome_is,
      half.placed_are,
      half.line_left_lem,
    )

-- a refused write leaves the line as it was
told_kept :
    (line : Line) (answer : Result LineWritten Refusal) →
    (line_written_said (told_by_line_write line answer)).answer ≢ 0 →
    (told_by_line_write line answer).line ≡ line
told_kept line (Ok made) refused = absurd (refused refl)
told_kept line (Err refusal) refused = refl

-- ---- a lent line ----

-- the line that is answered is saved, and where the write is refused the lent one is as it was
module _ (lent : List Offer) (waiting : ℕ) (held : Line) (loaded : held ≡ loaded_line waiting lent)
    (answer : Result LineWritten Refusal) (saved : List Offer) where
  pub saved_written :
      (made : LineWritten) → answer ≡ Ok made → saved ≡ saved_offers made.line lent →
      saved ≡ saved_offers (told_by_line_write held answer).line lent
  saved_written made e is =
      is ∙ ap (λ (r : Result LineWritten Refusal). saved_offers (told_by_line_write held r).line lent) (sym e)

  pub saved_unwritten :
      (refusal : Refusal) → answer ≡ Err refusal → saved ≡ lent →
      saved ≡ saved_offers (told_by_line_write held answer).line lent
  saved_unwritten refusal e is =
      is ∙ sym (saved_kept lent (saved_offers held lent) waiting held held loaded refl refl)
      ∙ ap (λ (r : Result LineWritten Refusal). saved_offers (told_by_line_write held r).line lent) (sym e)

module _ (disk : Bytes) (number : ℕ) (content blocks random : Bytes) (list : List DiskAddress) where
  -- what a write does with a line that is handed over
  abbrev written_with : List model.Offer → Written
  written_with handed = written disk number content random (length list) (in_line blocks handed)

  pub written_of_held :
      (lent : List Offer) (waiting : ℕ) (held : Line) (answer : Result LineWritten Refusal)
      (saved : List Offer) {disk_after : Bytes} {listAfter : List DiskAddress} →
      held ≡ loaded_line waiting lent →
      LineAnswered (written_with (line_of held)) disk list blocks held disk_after listAfter answer →
      saved ≡ saved_offers (told_by_line_write held answer).line lent →
      LentWritten (written_with (model.handed_over waiting (offers_of lent))) disk list blocks
      (model.handed_over waiting (offers_of lent)) lent disk_after listAfter saved
      (line_written_said (told_by_line_write held answer))
  written_of_held lent waiting held answer saved {disk_after} {listAfter} loaded half saved-is =
      let handed : List model.Offer = model.handed_over waiting (offers_of lent) in
      let same : line_of held ≡ handed = ap line_of loaded ∙ loaded_line_is waiting lent in
      let left : List model.Offer = line_left (written_with handed) disk blocks handed in
      let after : Line = (told_by_line_write held answer).line in
      let left_is : line_of after ≡ left =
      half.line_left_lem
      ∙ ap (λ (xs : List model.Offer). line_left (written_with xs) disk blocks xs) same in
      let fits : length left ≤ length lent =
      omega (arith, line_left_le (written_with handed) disk blocks handed, (handed_fits waiting lent).1) in
      record {
        answered =
            told disk list blocks held answer half
            ∙ ap (λ (xs : List model.Offer).
            line_numbers (written_with xs) (line_left (written_with xs) disk blocks xs))
            same;
        line_left_lem = saved_left lent saved after left saved-is left_is fits;
        line_kept = λ refused.
            saved_kept lent saved waiting held after loaded saved-is (told_kept held answer refused);
        stored = half.stored ∙ ap (λ (xs : List model.Offer). written_disk (written_with xs) disk) same;
        listed = half.listed ∙ ap (λ (xs : List model.Offer). written_list (written_with xs) list) same;
      }
