-- The line of waiting offers: each field by the laws of lines, of reads through them and of placed hidden
-- writes. Assumes nothing.
use mathlib.Core.Path.{◌≡◌, refl, sym, ap, ◌∙◌}
use mathlib.Core.Logic.{◌≢◌, ⊎_elim}
use mathlib.Core.Bool.{Bool, true, false, cond}
use mathlib.Core.List.{List, [], ◌∷◌, ◌++◌}
use mathlib.Core.Option.{some}
use Prim.Native.Nat.{ℕ}
use native.Mathlib.Omega.{arith}
use lib.Dec.{eqb}
use lib.ListN.{length, take, drop, length-drop}
use Rattle.laws.proofs.Cases.{eq_cases}
use Rattle.model.specs.Geometry.{Geometry}
use Rattle.model.specs.Blocks.{Bytes, block_at}
use Rattle.model.specs.Layout.{geometry_in}
use Rattle.model.specs.HiddenHalf.{HiddenWrite}
use Rattle.model.specs.Line.{Offer, first_offers, good_offers, hidden_write_of, line_offer_refusal, turns}
use Rattle.model.specs.Line.{hidden_writes_of, enter_refusal, entered, waiting_for, without}
use Rattle.model.specs.Calls.{one, in_line, offer_refusal, offered_writes, Written, written}
use Rattle.model.specs.Calls.{line_left, line_read_refusal}
use Rattle.model.specs.Promises.LineOfOffers.{LineReads, LineKept, Entering, LineOfOffers}
use Rattle.model.proofs.Laws.Accepted.{AcceptedHidden, accepted_of_hidden_write}
use Rattle.model.proofs.Laws.Calls.{written_alike}
use Rattle.model.proofs.Laws.Offers.{offered_writes-in_line}
use Rattle.model.proofs.Laws.LineTurns.{turns_left, turns-left_after, length-hidden_writes_of}
use Rattle.model.proofs.Laws.LineWaits.{good_block_good, waiting_for-with_offer_same}
use Rattle.model.proofs.Laws.LineWaits.{waiting_for-with_offer_other}
use Rattle.model.proofs.Laws.LineCalls.{line_read_refusal_disk, line_read_disk, line_read_refusal_waiting}
use Rattle.model.proofs.Laws.LineCalls.{line_read_waiting, line_read_refusal_same, line_read_same}
use Rattle.model.proofs.Laws.LineCalls.{entered_done, entered_refused, entered_fits}
use Rattle.model.proofs.Laws.LineCalls.{drive_refusal_of_enter, offer_refusal_of_enter}
use Rattle.model.proofs.Laws.LineCalls.{written_empty_line, line_left_is}
use Rattle.model.proofs.Refusals.Lines.{some_of_waits, none_of_unwaited}
use Rattle.model.proofs.Volumes.Placed.{placed_le}
use Rattle.model.proofs.Volumes.LineReads.{write_keeps_shown}
use Rattle.model.proofs.Theorems.LineFigures.{line_figures}

-- ---- reads ----

line_reads :
    (disk : Bytes) (number : ℕ) (blank blocks : Bytes) (line : List Offer) →
    LineReads disk number blank blocks line
line_reads disk number blank blocks line =
    let g = geometry_in disk in
    record {
      waiting_shown = λ waits good.
          line_read_waiting disk number blank blocks line
          (block_at g.block_size blocks waits.offer.place)
          (some_of_waits g blocks number line waits) good;
      disk_answer = λ unwaited.
          line_read_refusal_disk disk number blank blocks line (none_of_unwaited g blocks number line unwaited);
      disk_shown = λ unwaited.
          line_read_disk disk number blank blocks line (none_of_unwaited g blocks number line unwaited);
    }

-- ---- what a write places and leaves ----

line_kept :
    (disk : Bytes) (number : ℕ) (content random : Bytes) (room : ℕ) (blocks : Bytes) (line : List Offer) →
    let result = written disk number content random room (in_line blocks line) in
    LineKept (geometry_in disk) blocks line (line_left result disk blocks line) result
line_kept disk number content random room blocks line =
    record {
      counts_kept =
          let all : length (turns g blocks left) ≡ length (drop result.placed xs) = ap length kept in
          let most : length (offered_writes g (in_line blocks line)) ≡ length xs =
          ap length (offered_writes-in_line g blocks line) ∙ length-hidden_writes_of g blocks xs in
          omega (
            arith,
            length-drop result.placed xs,
            placed_le disk number content random room (in_line blocks line),
          );
      turns_kept = kept;
      turns_elsewhere = λ drive others.
          ap (turns drive others) (line_left_is result disk blocks line)
          ∙ turns-left_after drive others (take result.placed xs) line;
    }
  where
    g : Geometry
    g = geometry_in disk

    result : Written
    result = written disk number content random room (in_line blocks line)

    xs : List Offer
    xs = turns g blocks line

    left : List Offer
    left = line_left result disk blocks line

    kept : turns g blocks left ≡ drop result.placed xs
    kept =
        ap (turns g blocks) (line_left_is result disk blocks line)
        ∙ turns_left g blocks result.placed line

-- ---- entering ----

module _ (disk : Bytes) (offer : Offer) (blocks : Bytes) (line : List Offer) (room : ℕ) where
  abbrev left : List Offer
  left = entered disk offer blocks line room

  module _ (e : enter_refusal disk offer blocks line room ≡ 0) where
    -- what enters waits
    entered_waits :
        waiting_for (geometry_in disk) blocks left offer.number ≡
        some (block_at (geometry_in disk).block_size blocks offer.place)
    entered_waits =
        ap (λ (xs : List Offer). waiting_for (geometry_in disk) blocks xs offer.number)
        (entered_done disk offer blocks line room e)
        ∙ waiting_for-with_offer_same (geometry_in disk) blocks offer line
        ∙ good_block_good (geometry_in disk) blocks offer (offer_refusal_of_enter disk offer blocks line room e)

    entered_accepted :
        (blank : Bytes) → length blank ≡ (geometry_in disk).block_size →
        AcceptedHidden (geometry_in disk) offer.number (length blank)
    entered_accepted blank sized =
        let good =
        accepted_of_hidden_write (geometry_in disk) offer.number
        (block_at (geometry_in disk).block_size blocks offer.place)
        (offer_refusal_of_enter disk offer blocks line room e) in
        record { number_inside = good.number_inside; block_sized = sized }

  -- and under another number the same waits
  waits_as_before :
      (asked : ℕ) → asked ≢ offer.number →
      waiting_for (geometry_in disk) blocks left asked ≡ waiting_for (geometry_in disk) blocks line asked
  waits_as_before asked ne = ⊎_elim
      (λ e.
      ap (λ (xs : List Offer). waiting_for (geometry_in disk) blocks xs asked)
      (entered_done disk offer blocks line room e)
      ∙ waiting_for-with_offer_other (geometry_in disk) blocks offer line asked ne)
      (λ f.
      ap (λ (xs : List Offer). waiting_for (geometry_in disk) blocks xs asked)
      (entered_refused disk offer blocks line room f))
      (eq_cases (enter_refusal disk offer blocks line room) 0)

  entering : Entering disk offer blocks line left room (enter_refusal disk offer blocks line room)
  entering =
      record {
        enter_fits = λ most fits. entered_fits disk offer blocks line room (most, fits);
        enter_shows = λ blank e sized.
            line_read_waiting disk offer.number blank blocks left _ (entered_waits e)
            (answered blank e sized);
        enter_answer = answered;
        enter_keeps_others = λ asked blank ne.
            line_read_same disk asked blank blocks left line (waits_as_before asked ne);
        enter_keeps_answers = λ asked blank ne.
            line_read_refusal_same disk asked blank blocks left line (waits_as_before asked ne);
      }
    where
      answered : (blank : Bytes) → enter_refusal disk offer blocks line room ≡ 0 →
          length blank ≡ (geometry_in disk).block_size →
          line_read_refusal disk offer.number blank blocks left ≡ 0
      answered blank e sized =
          line_read_refusal_waiting disk offer.number blank blocks left _ (entered_waits e)
          (drive_refusal_of_enter disk offer blocks line room e) (entered_accepted e blank sized)

-- ---- a line of one ----

module _ (disk : Bytes) (number : ℕ) (content random : Bytes) (room : ℕ) (blocks : Bytes) where
  one_offer_lem :
      (offer : Offer) → line_offer_refusal (geometry_in disk) blocks offer ≡ 0 →
      written disk number content random room (in_line blocks (offer ∷ [])) ≡
      written disk number content random room (one (hidden_write_of (geometry_in disk) blocks offer))
  unfolding offer_refusal offered_writes first_offers good_offers hidden_writes_of without
  one_offer_lem offer e =
      written_alike disk number content random room (in_line blocks (offer ∷ []))
      (one (hidden_write_of (geometry_in disk) blocks offer)) (sym e)
      (by (eqb (line_offer_refusal (geometry_in disk) blocks offer) 0))
    where
      write : HiddenWrite
      write = hidden_write_of (geometry_in disk) blocks offer

      by : (isGood : Bool) →
          hidden_writes_of (geometry_in disk) blocks (cond isGood (offer ∷ []) [] ++ []) ≡
          cond isGood (write ∷ []) []
      by true = refl
      by false = refl

pub line_of_offers : LineOfOffers
line_of_offers =
    record {
      figures = line_figures;
      reads = line_reads;
      write_keeps_shown = λ g disk number content random room blocks line asked blank sound low sized.
          write_keeps_shown g disk sound blocks line asked blank sized low number content random room;
      kept = line_kept;
      entering = entering;
      one_offer_lem = one_offer_lem;
      no_offer_lem = written_empty_line;
    }
