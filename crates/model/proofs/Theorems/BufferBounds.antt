-- How long a write can be: M rounds on any drive, P + 1 where each set bit is that of a public number's
-- place; and buffers for so many rounds are never too short. Assumes nothing.
use mathlib.Core.Path.{◌≡◌, sym, subst}
use Prim.Native.Nat.{ℕ, ◌+◌, ◌≤◌}
use native.Mathlib.Omega.{arith}
use lib.ListN.{length}
use Rattle.model.specs.Geometry.{Geometry}
use Rattle.model.specs.Blocks.{Bytes}
use Rattle.model.specs.Layout.{geometry_in}
use Rattle.model.specs.Refusals.{round_count, drive_refusal}
use Rattle.model.specs.Calls.{Written}
use Rattle.model.specs.Invariants.{BitmapInvariant}
use Rattle.model.specs.Promises.BufferBounds.{AtMost, BufferBounds}
use Rattle.model.proofs.Laws.Refusals.{accepted_of_refusal}
use Rattle.model.proofs.Laws.Calls.{answer_written, written_cases}
use Rattle.model.proofs.Refusals.Circle.{round_count_le}
use Rattle.model.proofs.Refusals.Writes.{rounds_done}
use Rattle.model.proofs.Refusals.Mapped.{round_count_le_of_mapped}
use Rattle.model.proofs.Refusals.Bounds.{never_eight_of_rounds, never_nine_of_rounds}

-- no write takes more rounds than the head finds
at_most_of_rounds :
    (disk : Bytes) (most : ℕ) → round_count (geometry_in disk) disk ≤ most → AtMost most (geometry_in disk) disk
at_most_of_rounds disk most few number content random room offer =
    record {
      rounds =
          written_cases disk number content random room offer (λ (w : Written). w.rounds ≤ most)
          (λ e. rw (rounds_done disk number content random room offer e) few) (λ f. omega arith);
      never_eight = λ h.
          rw (answer_written disk number content random room offer)
          (never_eight_of_rounds disk most few number content (length random) room h);
      never_nine = λ h.
          rw (answer_written disk number content random room offer)
          (never_nine_of_rounds disk most few number content (length random) room h);
    }

at_most_of_mapped :
    (disk : Bytes) → drive_refusal disk ≡ 0 → BitmapInvariant (geometry_in disk) disk →
    AtMost ((geometry_in disk).publics + 1) (geometry_in disk) disk
at_most_of_mapped disk e v =
    let a = accepted_of_refusal disk e in
    at_most_of_rounds disk ((geometry_in disk).publics + 1)
    (round_count_le_of_mapped (geometry_in disk) a.sized.fits disk v a.head_inside)

pub buffer_bounds : BufferBounds
buffer_bounds =
    record {
      mapped_bits = λ g disk same e v.
          subst (λ (h : Geometry). AtMost (h.publics + 1) h disk) same
          (at_most_of_mapped disk e (subst (λ (h : Geometry). BitmapInvariant h disk) (sym same) v));
      any_drive = λ disk.
          at_most_of_rounds disk (geometry_in disk).slots
          (round_count_le (geometry_in disk) disk);
    }
