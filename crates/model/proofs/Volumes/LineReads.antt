-- Reads through a line on a drive whose hidden volume is sound: what they show, that what a write places is
-- none of a number under which nothing waits, and that a write with the line changes none of them, since what
-- it places leaves the line. Assumes nothing.
use mathlib.Core.Path.{◌≡◌, refl, sym, ap, ap₂, subst, ◌∙◌}
use mathlib.Core.Bool.{Bool, true, false, cond}
use mathlib.Core.List.{List, [], ◌∷◌}
use mathlib.Core.Option.{Option, none, some}
use Prim.Native.Nat.{ℕ, zero, suc, ◌<◌}
use lib.Dec.{eqb}
use lib.ListN.{length, take, drop}
use borrow.Author.Tests.{eqb-true}
use Rattle.laws.proofs.Cases.{none_is_not_some}
use Rattle.laws.proofs.Members.{All}
use Rattle.model.specs.Geometry.{Geometry, Fits}
use Rattle.model.specs.Blocks.{Bytes, block_at}
use Rattle.model.specs.Layout.{geometry_in}
use Rattle.model.specs.Rounds.{Run}
use Rattle.model.specs.Refusals.{drive_refusal}
use Rattle.model.specs.Line.{Offer, without, first_offers, line_offer_refusal, turns, hidden_writes_of}
use Rattle.model.specs.Line.{left_after, good_block, waiting_for}
use Rattle.model.specs.Calls.{in_line, offered_writes, Written, written, written_disk, line_left, or_else}
use Rattle.model.specs.Calls.{line_read}
use Rattle.model.specs.Promises.ReadAfterWrite.{shown_after, Sound}
use Rattle.model.proofs.Laws.Accepted.{AcceptedHidden}
use Rattle.model.proofs.Laws.Lines.{good_offers_good}
use Rattle.model.proofs.Laws.LineTurns.{NoneTwice, apart_turns, turns_left}
use Rattle.model.proofs.Laws.Offers.{offered_writes-in_line}
use Rattle.model.proofs.Laws.LineWaits.{good_block_good, waiting_for-turns, waiting_for-without_same}
use Rattle.model.proofs.Laws.LineCalls.{line_read_disk, line_read_refusal_waiting, line_read_waiting}
use Rattle.model.proofs.Tree.Ghost.{Tree, Ghost, value_of}
use Rattle.model.proofs.Tree.FromInvariant.{tree_of, ghost_of_hidden_invariant}
use Rattle.model.proofs.Volumes.Reads.{hidden_read_shows}
use Rattle.model.proofs.Volumes.Progress.{shows_of_progress}
use Rattle.model.proofs.Volumes.Writes.{final_disk, Leaves, fits_of_accepted, write_cases}

-- ---- what a read shows ----

module _ (g : Geometry) (disk : Bytes) (states : geometry_in disk ≡ g) (accepted : drive_refusal disk ≡ 0)
    (number : ℕ) (blank : Bytes) (sized : length blank ≡ g.block_size) (f : Fits g) (tree : Tree)
    (ghost : Ghost g disk tree) (counted : number < g.hidden) (blocks : Bytes) (line : List Offer) where
  -- the block that waits, else the tree's, else the blank
  abbrev shown : (waits : Option Bytes) → Bytes
  shown waits = or_else waits (or_else (value_of g disk tree number) blank)

  good : AcceptedHidden (geometry_in disk) number (length blank)
  good =
      subst (λ (stated : Geometry). AcceptedHidden stated number (length blank)) (sym states)
      (record { number_inside = counted; block_sized = sized })

  stated : waiting_for (geometry_in disk) blocks line number ≡ waiting_for g blocks line number
  stated = ap (λ (given : Geometry). waiting_for given blocks line number) states

  line_read_shows : line_read disk number blank blocks line ≡ shown (waiting_for g blocks line number)
  line_read_shows = by (waiting_for g blocks line number) refl
    where
      by : (waits : Option Bytes) → waiting_for g blocks line number ≡ waits →
          line_read disk number blank blocks line ≡ shown (waiting_for g blocks line number)
      by none e =
          line_read_disk disk number blank blocks line (stated ∙ e)
          ∙ hidden_read_shows g disk states accepted number blank sized f tree ghost counted
          ∙ ap shown (sym e)
      by (some block) e =
          line_read_waiting disk number blank blocks line block (stated ∙ e)
          (line_read_refusal_waiting disk number blank blocks line block (stated ∙ e) accepted good)
          ∙ ap shown (sym e)

-- ---- blocks that move from the line to the drive ----

module _ (g : Geometry) (blocks : Bytes) (number : ℕ) (blank : Bytes) where
  -- a number's offer leaves the turns behind it without the number
  unwaited :
      (offer : Offer) (later : List Offer) → without offer.number later ≡ later →
      offer.number ≡ number → waiting_for g blocks later number ≡ none
  unwaited offer later apart e =
      ap (λ (xs : List Offer). waiting_for g blocks xs number) (sym apart)
      ∙ ap (λ (n : ℕ). waiting_for g blocks (without n later) number) e
      ∙ waiting_for-without_same g blocks number later

  -- the first so many of the turns, once placed, are shown as before
  moved_shown :
      (count : ℕ) (xs : List Offer) (old : Option Bytes) → NoneTwice xs →
      All (λ (offer : Offer). line_offer_refusal g blocks offer ≡ 0) xs →
      or_else (waiting_for g blocks (drop count xs) number)
      (or_else (shown_after (take count (hidden_writes_of g blocks xs)) number old) blank) ≡
      or_else (waiting_for g blocks xs number) (or_else old blank)
  unfolding shown_after hidden_writes_of waiting_for
  moved_shown zero xs old apart good = refl
  moved_shown (suc count) [] old apart good = refl
  moved_shown (suc count) (offer ∷ xs) old apart good =
      moved_shown count xs (cond (eqb offer.number number) (some block) old) apart.1 good.1
      ∙ by (eqb offer.number number) refl
    where
      block : Bytes
      block = block_at g.block_size blocks offer.place

      by : (is_same : Bool) → eqb offer.number number ≡ is_same →
          or_else (waiting_for g blocks xs number) (or_else (cond is_same (some block) old) blank) ≡
          or_else (cond is_same (good_block g blocks offer) (waiting_for g blocks xs number)) (or_else old blank)
      by true e =
          ap (λ (waits : Option Bytes). or_else waits block)
          (unwaited offer xs apart.0 (eqb-true offer.number number e))
          ∙ sym (ap (λ (waits : Option Bytes). or_else waits (or_else old blank))
          (good_block_good g blocks offer good.0))
      by false e = refl

-- ---- a number under which nothing waits ----

module _ (g : Geometry) (blocks : Bytes) (number count : ℕ) (old : Option Bytes) where
  -- it is none of the turns'
  unwaited_shown :
      (count : ℕ) (xs : List Offer) → All (λ (offer : Offer). line_offer_refusal g blocks offer ≡ 0) xs →
      waiting_for g blocks xs number ≡ none →
      shown_after (take count (hidden_writes_of g blocks xs)) number old ≡ old
  unfolding shown_after hidden_writes_of waiting_for
  unwaited_shown zero xs good e = refl
  unwaited_shown (suc count) [] good e = refl
  unwaited_shown (suc count) (offer ∷ xs) good e =
      by (eqb offer.number number) e (unwaited_shown count xs good.1)
    where
      block : Bytes
      block = block_at g.block_size blocks offer.place

      by : (is_same : Bool) →
          cond is_same (good_block g blocks offer) (waiting_for g blocks xs number) ≡ none →
          (waiting_for g blocks xs number ≡ none →
          shown_after (take count (hidden_writes_of g blocks xs)) number old ≡ old) →
          shown_after (take count (hidden_writes_of g blocks xs)) number (cond is_same (some block) old) ≡ old
      by true e later = none_is_not_some block (sym e ∙ good_block_good g blocks offer good.0)
      by false e later = later e

  -- so what a write with the line places leaves it as it was
  pub shown_after_unwaited :
      (line : List Offer) → waiting_for g blocks line number ≡ none →
      shown_after (take count (offered_writes g (in_line blocks line))) number old ≡ old
  shown_after_unwaited line e =
      ap (λ writes. shown_after (take count writes) number old) (offered_writes-in_line g blocks line)
      ∙ unwaited_shown count (turns g blocks line) (good_offers_good g blocks (first_offers line))
      (sym (waiting_for-turns g blocks number line) ∙ e)

-- ---- a write with a line ----

module _ (g : Geometry) (disk : Bytes) (sound : Sound g disk) (blocks : Bytes) (line : List Offer) (asked : ℕ)
    (blank : Bytes) (sized : length blank ≡ g.block_size) (low : asked < g.hidden) where
  abbrev tree : Tree
  tree = tree_of g disk

  f : Fits g
  f = fits_of_accepted g disk sound.geometry sound.accepted

  ghost : Ghost g disk tree
  ghost = ghost_of_hidden_invariant g f disk sound.hidden_sound

  -- what the drive shows before, by the turns
  shown_before :
      line_read disk asked blank blocks line ≡
      or_else (waiting_for g blocks (turns g blocks line) asked) (or_else (value_of g disk tree asked) blank)
  shown_before =
      line_read_shows g disk sound.geometry sound.accepted asked blank sized f tree ghost low blocks line
      ∙ ap (λ (waits : Option Bytes). or_else waits (or_else (value_of g disk tree asked) blank))
      (waiting_for-turns g blocks asked line)

  module _ (number : ℕ) (content random : Bytes) (room : ℕ) where
    -- the line that is left once so many are placed
    abbrev left_of : (count : ℕ) → List Offer
    left_of count = left_after (take count (turns g blocks line)) line

    abbrev Unseen : Written → (final : Bytes) → Type 0
    Unseen made final =
        line_read final asked blank blocks (left_of made.placed) ≡ line_read disk asked blank blocks line

    done_unseen :
        (run : Run) → Leaves g disk number content (in_line blocks line) run →
        line_read (final_disk g disk run) asked blank blocks (left_of run.state.placed) ≡
        line_read disk asked blank blocks line
    unfolding offered_writes
    done_unseen run leaves =
        let grew = leaves.grew tree ghost in
        let count = run.state.placed in
        let xs = turns g blocks line in
        line_read_shows g (final_disk g disk run) leaves.geometry leaves.accepted asked blank sized f
        grew.grown grew.ghost low blocks (left_of count)
        ∙ ap₂ (λ (waits value : Option Bytes). or_else waits (or_else value blank))
        (waiting_for-turns g blocks asked (left_of count)
        ∙ ap (λ (left : List Offer). waiting_for g blocks left asked) (turns_left g blocks count line))
        (shows_of_progress g run.state (value_of g disk tree)
        (value_of g (final_disk g disk run) grew.grown) asked low (hidden_writes_of g blocks xs)
        grew.progress)
        ∙ moved_shown g blocks asked blank count xs (value_of g disk tree asked) (apart_turns g blocks line)
        (good_offers_good g blocks (first_offers line))
        ∙ sym shown_before

    abbrev result : Written
    result = written disk number content random room (in_line blocks line)

    write_unseen : Unseen result (written_disk result disk)
    unfolding left_after
    write_unseen =
        write_cases g disk sound.geometry sound.accepted number content random room (in_line blocks line)
        Unseen (λ ne. refl) done_unseen

    -- no read through the line changes, refused or not
    pub write_keeps_shown :
        line_read (written_disk result disk) asked blank blocks (line_left result disk blocks line) ≡
        line_read disk asked blank blocks line
    unfolding line_left
    write_keeps_shown =
        ap (λ (given : Geometry).
        line_read (written_disk result disk) asked blank blocks
        (left_after (take result.placed (turns given blocks line)) line)) sound.geometry
        ∙ write_unseen
