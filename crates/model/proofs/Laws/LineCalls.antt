-- Laws of the calls with a line: what a read through it is, refused or done, and when it is the read of the
-- disk; what entering leaves and what an offer that enters is; and what a write leaves. Assumes nothing.
use mathlib.Core.Path.{◌≡◌, refl, ap, ap₂, ◌∙◌}
use mathlib.Core.Logic.{◌≢◌, ⊎_elim}
use mathlib.Core.Bool.{Bool, true, false, cond, ◌||◌}
use mathlib.Core.List.{List, [], ◌∷◌, ◌++◌}
use mathlib.Core.Option.{Option, none, some}
use Prim.Native.Nat.{ℕ, suc, ◌≤◌, ◌<◌}
use native.Mathlib.Omega.{arith}
use lib.Dec.{leb, eqb}
use lib.ListN.{length, take}
use borrow.Author.Tests.{leb-false, eq-eqb, ne_eqb}
use Rattle.laws.specs.Checks.{Check, first_of}
use Rattle.laws.proofs.Cases.{bool_cases, eq_cases, or_false_left, or_false_right, cond_true, cond_false}
use Rattle.laws.proofs.Checks.{Passed, numbered-append, passed_append, passed_front, passed_rest}
use Rattle.laws.proofs.Checks.{zero_of_passed}
use Rattle.model.specs.Blocks.{Bytes, block_at}
use Rattle.model.specs.Layout.{geometry_in}
use Rattle.model.specs.HiddenTree.{walk}
use Rattle.model.specs.Refusals.{drive_checks, drive_refusal, hidden_checks, hidden_read_refusal}
use Rattle.model.specs.Refusals.{hidden_write_refusal}
use Rattle.model.specs.Line.{Offer, most_offers, line_offer_refusal, first_offers, good_offers, turns}
use Rattle.model.specs.Line.{hidden_writes_of, left_after, is_waiting_in, room_checks, enter_refusal}
use Rattle.model.specs.Line.{with_offer, entered, waiting_for}
use Rattle.model.specs.Calls.{shown_at, hidden_read, nothing, in_line, offer_refusal, offered_writes}
use Rattle.model.specs.Calls.{Written, written, line_left, or_else, disk_checks, line_read_refusal, line_read}
use Rattle.model.proofs.Laws.Refusals.{after_drive_pass, drive_refusal_of_chain, passed_after_drive}
use Rattle.model.proofs.Laws.Accepted.{AcceptedHidden, numbered_hidden, passed_of_hidden_checks}
use Rattle.model.proofs.Laws.Calls.{written_alike}

-- ---- the read ----

module _ (disk : Bytes) (number : ℕ) (blank blocks : Bytes) (line : List Offer) where
  -- what it shows where it is not refused
  abbrev shown : (waits : Option Bytes) → Bytes
  shown waits = or_else waits (shown_at (geometry_in disk) disk blank (walk (geometry_in disk) disk number).end)

  pub line_read_done :
      line_read_refusal disk number blank blocks line ≡ 0 →
      line_read disk number blank blocks line ≡ shown (waiting_for (geometry_in disk) blocks line number)
  unfolding line_read
  line_read_done e = cond_true _ _ (eq-eqb (line_read_refusal disk number blank blocks line) 0 e)

  pub line_read_when_refused :
      line_read_refusal disk number blank blocks line ≢ 0 → line_read disk number blank blocks line ≡ []
  unfolding line_read
  line_read_when_refused f = cond_false _ _ (ne_eqb (line_read_refusal disk number blank blocks line) 0 f)

  -- its checks by what waits
  abbrev refusal_by : (waits : Option Bytes) → ℕ
  refusal_by waits =
      let g = geometry_in disk in
      first_of (drive_checks disk ++ (hidden_checks g number (length blank) ++ disk_checks waits g disk number))

  -- where no block waits it is the hidden read
  module _ (nothing_waits : waiting_for (geometry_in disk) blocks line number ≡ none) where
    pub line_read_refusal_disk :
        line_read_refusal disk number blank blocks line ≡ hidden_read_refusal disk number blank
    unfolding line_read_refusal hidden_read_refusal disk_checks
    line_read_refusal_disk = ap refusal_by nothing_waits

    pub line_read_disk : line_read disk number blank blocks line ≡ hidden_read disk number blank
    unfolding line_read hidden_read
    line_read_disk =
        ap₂ (λ (refusal : ℕ) (waits : Option Bytes). cond (eqb refusal 0) (shown waits) [])
        line_read_refusal_disk nothing_waits

  -- where one waits it is refused only by 1 to 3, 10 and 11, and shows it
  module _ (block : Bytes) (waits : waiting_for (geometry_in disk) blocks line number ≡ some block) where
    pub line_read_refusal_checks :
        line_read_refusal disk number blank blocks line ≡
        first_of (drive_checks disk ++ (hidden_checks (geometry_in disk) number (length blank) ++ []))
    unfolding line_read_refusal disk_checks
    line_read_refusal_checks = ap refusal_by waits

    pub line_read_refusal_waiting :
        drive_refusal disk ≡ 0 → AcceptedHidden (geometry_in disk) number (length blank) →
        line_read_refusal disk number blank blocks line ≡ 0
    line_read_refusal_waiting accepted good =
        line_read_refusal_checks ∙ after_drive_pass disk _ accepted
        ∙ zero_of_passed _
        (passed_append (hidden_checks (geometry_in disk) number (length blank)) []
        (passed_of_hidden_checks (geometry_in disk) number (length blank) good) tt)

    pub line_read_waiting :
        line_read_refusal disk number blank blocks line ≡ 0 → line_read disk number blank blocks line ≡ block
    line_read_waiting e = line_read_done e ∙ ap shown waits

-- a number under which the same waits is read alike
module _ (disk : Bytes) (number : ℕ) (blank blocks : Bytes) (line other : List Offer)
    (same :
    waiting_for (geometry_in disk) blocks line number ≡
    waiting_for (geometry_in disk) blocks other number) where
  pub line_read_refusal_same :
      line_read_refusal disk number blank blocks line ≡ line_read_refusal disk number blank blocks other
  unfolding line_read_refusal
  line_read_refusal_same = ap (refusal_by disk number blank blocks line) same

  pub line_read_same : line_read disk number blank blocks line ≡ line_read disk number blank blocks other
  unfolding line_read
  line_read_same =
      ap₂ (λ (refusal : ℕ) (waits : Option Bytes).
      cond (eqb refusal 0) (shown disk number blank blocks line waits) [])
      line_read_refusal_same same

-- ---- entering ----

length-with_offer :
    (offer : Offer) (line : List Offer) →
    length (with_offer offer line) ≡
    cond (is_waiting_in line offer.number) (length line) (suc (length line))
unfolding with_offer is_waiting_in
length-with_offer offer [] = refl
length-with_offer offer (first ∷ later) =
    by (length-with_offer offer later) (eqb first.number offer.number)
  where
    one_more : (is_waiting : Bool) →
        suc (cond is_waiting (length later) (suc (length later))) ≡
        cond is_waiting (suc (length later)) (suc (suc (length later)))
    one_more true = refl
    one_more false = refl

    by : length (with_offer offer later) ≡
        cond (is_waiting_in later offer.number) (length later) (suc (length later)) →
        (is_same : Bool) →
        length (cond is_same (offer ∷ later) (first ∷ with_offer offer later)) ≡
        cond (is_same || is_waiting_in later offer.number) (suc (length later)) (suc (suc (length later)))
    by e true = refl
    by e false = ap suc e ∙ one_more (is_waiting_in later offer.number)

module _ (disk : Bytes) (offer : Offer) (blocks : Bytes) (line : List Offer) (room : ℕ) where
  pub entered_done :
      enter_refusal disk offer blocks line room ≡ 0 →
      entered disk offer blocks line room ≡ with_offer offer line
  unfolding entered
  entered_done e = cond_true _ _ (eq-eqb (enter_refusal disk offer blocks line room) 0 e)

  pub entered_refused :
      enter_refusal disk offer blocks line room ≢ 0 → entered disk offer blocks line room ≡ line
  unfolding entered
  entered_refused f = cond_false _ _ (ne_eqb (enter_refusal disk offer blocks line room) 0 f)

  abbrev own_checks : List Check
  own_checks =
      hidden_checks (geometry_in disk) offer.number
      (length (block_at (geometry_in disk).block_size blocks offer.place))

  abbrev last_checks : List Check
  last_checks = room_checks line offer.number room

  -- on an accepted drive, an offer that 10 and 11 do not meet, and a new one only where there is room
  module _ (e : enter_refusal disk offer blocks line room ≡ 0) where
    pub drive_refusal_of_enter : drive_refusal disk ≡ 0
    unfolding enter_refusal
    drive_refusal_of_enter = drive_refusal_of_chain disk _ e

    passed_of_enter : Passed (own_checks ++ last_checks)
    unfolding enter_refusal
    passed_of_enter =
        passed_after_drive disk (own_checks ++ last_checks)
        (numbered-append own_checks last_checks (numbered_hidden (geometry_in disk) offer.number _)
        (λ z. omega arith, tt)) e

    pub offer_refusal_of_enter : line_offer_refusal (geometry_in disk) blocks offer ≡ 0
    unfolding hidden_write_refusal
    offer_refusal_of_enter = zero_of_passed own_checks (passed_front own_checks last_checks passed_of_enter)

    room_of_enter :
        is_waiting_in line offer.number ≡ false → (length line < most_offers) × (length line < room)
    room_of_enter new =
        let p = passed_rest own_checks last_checks passed_of_enter in
        let q : (leb most_offers (length line) || leb room (length line)) ≡ false = rw new at p.0 in (
          leb-false most_offers (length line) (or_false_left _ _ q),
          leb-false room (length line) (or_false_right (leb most_offers (length line)) _ q),
        )

  abbrev Fits : (left : List Offer) → Type 0
  Fits left = (length left ≤ most_offers) × (length left ≤ room)

  -- no line gets too long
  pub entered_fits : Fits line → Fits (entered disk offer blocks line room)
  entered_fits fits =
      ⊎_elim (λ e. rw (entered_done e) (done e)) (λ f. rw (entered_refused f) fits)
      (eq_cases (enter_refusal disk offer blocks line room) 0)
    where
      done : enter_refusal disk offer blocks line room ≡ 0 → Fits (with_offer offer line)
      done e =
          ⊎_elim
          (λ old.
          let l : length (with_offer offer line) ≡ length line =
          length-with_offer offer line ∙ cond_true _ _ old in (omega arith, omega arith))
          (λ new.
          let l : length (with_offer offer line) ≡ suc (length line) =
          length-with_offer offer line ∙ cond_false _ _ new in
          let free = room_of_enter e new in (omega arith, omega arith))
          (bool_cases (is_waiting_in line offer.number))

-- ---- the write ----

pub line_left_is :
    (result : Written) (disk blocks : Bytes) (line : List Offer) →
    line_left result disk blocks line ≡
    left_after (take result.placed (turns (geometry_in disk) blocks line)) line
unfolding line_left
line_left_is result disk blocks line = refl

-- a write with an empty line is the write with nothing
pub written_empty_line :
    (disk : Bytes) (number : ℕ) (content random : Bytes) (room : ℕ) (blocks : Bytes) →
    written disk number content random room (in_line blocks []) ≡
    written disk number content random room nothing
unfolding offer_refusal offered_writes first_offers good_offers hidden_writes_of
written_empty_line disk number content random room blocks =
    written_alike disk number content random room (in_line blocks []) nothing refl refl

-- a write that placed none leaves the line
pub line_left_none :
    (result : Written) (disk blocks : Bytes) (line : List Offer) → result.placed ≡ 0 →
    line_left result disk blocks line ≡ line
unfolding line_left left_after
line_left_none result disk blocks line e =
    ap (λ (count : ℕ). left_after (take count (turns (geometry_in disk) blocks line)) line) e
