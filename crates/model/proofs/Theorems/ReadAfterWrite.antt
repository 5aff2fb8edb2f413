-- Demand 2: every call keeps the two volumes sound, and a good read shows the block last placed under its
-- number. Assumes nothing.
use mathlib.Core.Path.{◌≡◌, ap, ◌∙◌}
use mathlib.Core.List.{List}
use mathlib.Core.Option.{none}
use Rattle.model.specs.Geometry.{Geometry}
use Rattle.model.specs.Blocks.{Bytes}
use Rattle.model.specs.Refusals.{format_refusal}
use Rattle.model.specs.Calls.{formatted, or_else}
use Rattle.model.specs.Runs.{Call}
use Rattle.model.specs.Promises.ReadAfterWrite.{last_public, last_hidden, ReadsBack, ReadAfterWrite}
use Rattle.model.proofs.Volumes.Fresh.{formatted_sound, public_read-formatted, hidden_read-formatted}
use Rattle.model.proofs.Volumes.Placed.{told_of-written, one_placed}
use Rattle.model.proofs.Volumes.Lists.{reads_back_of_steps}
use Rattle.model.proofs.Volumes.Calls.{call_keeps_public, call_keeps_bitmap, call_keeps_hidden}
use Rattle.model.proofs.Volumes.Calls.{call_stepped, readable_of_sound}

-- reads after calls on a fresh drive
reads_from_fresh :
    (disk : Bytes) (g : Geometry) (calls : List Call) → format_refusal disk g ≡ 0 →
    ReadsBack g (formatted disk g) calls
reads_from_fresh disk g calls good =
    reads_back_of_steps g (call_stepped g) (readable_of_sound g) (formatted disk g) calls
    (formatted_sound disk g good)

pub read_after_write : ReadAfterWrite
read_after_write =
    record {
      told = told_of-written;
      one_placed = one_placed;
      public_kept = call_keeps_public;
      bitmap_kept = call_keeps_bitmap;
      hidden_kept = call_keeps_hidden;
      fresh_sound = formatted_sound;
      fresh_public = λ disk g number blank good. public_read-formatted disk g good number blank;
      fresh_hidden = λ disk g number blank good. hidden_read-formatted disk g good number blank;
      reads_back = λ g. reads_back_of_steps g (call_stepped g) (readable_of_sound g);
      public_from_fresh = λ disk g calls number blank good inside whole.
          let reads = reads_from_fresh disk g calls good in (
            reads.readable.public_answer number blank inside whole,
            reads.public_shown number blank inside whole
                ∙ ap (or_else (last_public number none (formatted disk g) calls))
                (public_read-formatted disk g good number blank inside whole),
          );
      hidden_from_fresh = λ disk g calls number blank good inside whole.
          let reads = reads_from_fresh disk g calls good in (
            reads.readable.hidden_answer number blank inside whole,
            reads.hidden_shown_lem number blank inside whole
                ∙ ap (or_else (last_hidden number none (formatted disk g) calls))
                (hidden_read-formatted disk g good number blank inside whole),
          );
    }
