-- Reads through a line as it was lent, on a drive on which a write with it was cut and that is recovered:
-- they show what they did, since a number under which a block waits shows that block, and any other is none
-- of those that the write placed. Assumes nothing.
use mathlib.Core.Path.{◌≡◌, refl, sym, ap, subst, ◌∙◌}
use mathlib.Core.List.{List}
use mathlib.Core.Option.{Option, none, some}
use Prim.Native.Nat.{ℕ, ◌<◌}
use lib.ListN.{length}
use Rattle.model.specs.Geometry.{Geometry}
use Rattle.model.specs.Blocks.{Bytes}
use Rattle.model.specs.Layout.{geometry_in}
use Rattle.model.specs.Refusals.{drive_refusal}
use Rattle.model.specs.Line.{Offer, waiting_for}
use Rattle.model.specs.Calls.{hidden_read, line_read, or_else, in_line}
use Rattle.model.specs.Promises.Waiting.{PublicHalf}
use Rattle.model.proofs.Laws.Accepted.{AcceptedHidden}
use Rattle.model.proofs.Laws.LineCalls.{line_read_disk, line_read_refusal_waiting, line_read_waiting}
use Rattle.model.proofs.Volumes.LineReads.{shown_after_unwaited}
use Rattle.recovery_model.specs.Cuts.{placed_within}
use Rattle.recovery_model.specs.Promises.Recovery.{Recoverable, Recovers, after_cut}
use Rattle.recovery_model.proofs.Volumes.Recoverable.{accepted_of_recoverable}

module _ (g : Geometry) (blocks : Bytes) (line : List Offer) (asked : ℕ) (blank : Bytes)
    (low : asked < g.hidden) (sized : length blank ≡ g.block_size) where
  -- ---- a drive of the geometry ----

  module _ (disk : Bytes) (states : geometry_in disk ≡ g) where
    waits_there : (waits : Option Bytes) → waiting_for g blocks line asked ≡ waits →
        waiting_for (geometry_in disk) blocks line asked ≡ waits
    waits_there waits e = ap (λ (stated : Geometry). waiting_for stated blocks line asked) states ∙ e

    shows_waiting :
        (block : Bytes) → drive_refusal disk ≡ 0 → waiting_for g blocks line asked ≡ some block →
        line_read disk asked blank blocks line ≡ block
    shows_waiting block accepted e =
        let there = waits_there (some block) e in
        let good =
        subst (λ (stated : Geometry). AcceptedHidden stated asked (length blank)) (sym states)
        (record { number_inside = low; block_sized = sized }) in
        line_read_waiting disk asked blank blocks line block there
        (line_read_refusal_waiting disk asked blank blocks line block there accepted good)

    shows_disk :
        waiting_for g blocks line asked ≡ none →
        line_read disk asked blank blocks line ≡ hidden_read disk asked blank
    shows_disk e = line_read_disk disk asked blank blocks line (waits_there none e)

  -- ---- cut and recovered ----

  module _ (disk : Bytes) (half : PublicHalf) (bound : ℕ) (whole : Recoverable g disk)
      (recovers : Recovers g disk half (in_line blocks line) bound) where
    abbrev after : Bytes
    after = after_cut bound half disk (in_line blocks line)

    pub line_read-recovered : line_read after asked blank blocks line ≡ line_read disk asked blank blocks line
    line_read-recovered = by (waiting_for g blocks line asked) refl
      where
        by : (waits : Option Bytes) → waiting_for g blocks line asked ≡ waits →
            line_read after asked blank blocks line ≡ line_read disk asked blank blocks line
        by none e =
            shows_disk after recovers.sound.geometry e ∙ recovers.hidden_shown_lem asked blank low sized
            ∙ ap (λ (value : Option Bytes). or_else value (hidden_read disk asked blank))
            (shown_after_unwaited g blocks asked (placed_within bound half disk (in_line blocks line)) none line
            e)
            ∙ sym (shows_disk disk whole.geometry e)
        by (some block) e =
            shows_waiting after recovers.sound.geometry block recovers.sound.accepted e
            ∙ sym (shows_waiting disk whole.geometry block (accepted_of_recoverable g disk whole) e)
