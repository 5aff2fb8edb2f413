-- Who stands in front of whom in a line and in its turns: an offer that counts has its turn, those in front
-- of it there stand in front of it in the line, and each one placed from there leaves fewer. Assumes nothing.
use mathlib.Core.Path.{◌≡◌, refl, sym, ap, ◌∙◌}
use mathlib.Core.Logic.{◌≢◌, ⊎_elim}
use mathlib.Core.Bool.{Bool, true, false, ◌||◌}
use mathlib.Core.List.{List, [], ◌∷◌, ◌++◌}
use mathlib.Core.Option.{none}
use Prim.Native.Nat.{ℕ, zero, suc, ◌+◌, ◌≤◌, ◌<◌}
use native.Mathlib.Omega.{arith}
use lib.ListN.{length, take}
use borrow.Author.Tests.{eq-eqb, ne_eqb}
use Rattle.laws.proofs.Cases.{cond_true, cond_false, eq_cases, or_neither, true_is_not_false}
use Rattle.model.specs.Geometry.{Geometry}
use Rattle.model.specs.Blocks.{Bytes}
use Rattle.model.specs.Line.{Offer, without, line_offer_refusal, turns, left_after, is_waiting_in, with_offer}
use Rattle.model.specs.Line.{enter_refusal, entered, waiting_for}
use Rattle.model.specs.Waits.{offers_before}
use Rattle.model.proofs.Laws.Lines.{unless, without_same, turns-without, turns-cons}
use Rattle.model.proofs.Laws.LineTurns.{NoneTwice, apart_turns}
use Rattle.model.proofs.Laws.LineWaits.{good_block_bad, waiting_for_same, waiting_for_other}
use Rattle.model.proofs.Laws.LineWaits.{waiting_for-without_other, waiting_for-turns}
use Rattle.model.proofs.Laws.LineChains.{waiting_for_nil}
use Rattle.model.proofs.Laws.LineSteps.{is_waiting_in_nil, is_waiting_in-cons, head_other, rest_none}
use Rattle.model.proofs.Laws.LineCalls.{entered_done, entered_refused}

-- ---- by the first offer ----

before_nil : (asked : ℕ) → offers_before asked [] ≡ 0
unfolding offers_before
before_nil asked = refl

before_same :
    (asked : ℕ) (offer : Offer) (later : List Offer) → offer.number ≡ asked →
    offers_before asked (offer ∷ later) ≡ 0
unfolding offers_before
before_same asked offer later e = cond_true _ _ (eq-eqb offer.number asked e)

before_other :
    (asked : ℕ) (offer : Offer) (later : List Offer) → offer.number ≢ asked →
    offers_before asked (offer ∷ later) ≡ suc (offers_before asked later)
unfolding offers_before
before_other asked offer later ne = cond_false _ _ (ne_eqb offer.number asked ne)

without_nil : (number : ℕ) → without number [] ≡ []
unfolding without
without_nil number = refl

without_out :
    (number : ℕ) (offer : Offer) (later : List Offer) → offer.number ≡ number →
    without number (offer ∷ later) ≡ without number later
unfolding without
without_out number offer later e =
    ap (λ (isOut : Bool). unless isOut offer ++ without number later) (eq-eqb offer.number number e)

without_in :
    (number : ℕ) (offer : Offer) (later : List Offer) → offer.number ≢ number →
    without number (offer ∷ later) ≡ offer ∷ without number later
unfolding without
without_in number offer later ne =
    ap (λ (isOut : Bool). unless isOut offer ++ without number later) (ne_eqb offer.number number ne)

-- ---- without a number ----

before_without :
    (asked number : ℕ) (line : List Offer) → number ≢ asked →
    offers_before asked (without number line) ≤ offers_before asked line
before_without asked number [] ne = let e = ap (offers_before asked) (without_nil number) in omega (arith, e)
before_without asked number (offer ∷ later) ne =
    ⊎_elim
    (λ same.
    let e = ap (offers_before asked) (without_in number offer later (λ z. ne (sym z ∙ same)))
    ∙ before_same asked offer (without number later) same in
    omega (arith, e))
    (λ other.
    let more = before_other asked offer later other in
    let fewer = before_without asked number later ne in
    ⊎_elim
    (λ out. let e = ap (offers_before asked) (without_out number offer later out) in
    omega (arith, e, more, fewer))
    (λ stays.
    let e = ap (offers_before asked) (without_in number offer later stays)
    ∙ before_other asked offer (without number later) other in
    omega (arith, e, more, fewer))
    (eq_cases offer.number number))
    (eq_cases offer.number asked)

-- a number in front of the one asked for makes way
before_fewer :
    (asked number : ℕ) (line : List Offer) → offers_before number line < offers_before asked line →
    suc (offers_before asked (without number line)) ≤ offers_before asked line
before_fewer asked number [] l = absurd (omega (arith, before_nil asked, l))
before_fewer asked number (offer ∷ later) l =
    ⊎_elim (λ same. absurd (omega (arith, before_same asked offer later same, l)))
    (λ other.
    let more = before_other asked offer later other in
    ⊎_elim
    (λ out.
    let e = ap (offers_before asked) (without_out number offer later out) in
    omega (arith, e, more, before_without asked number later (λ z. other (out ∙ z))))
    (λ stays.
    let e = ap (offers_before asked) (without_in number offer later stays)
    ∙ before_other asked offer (without number later) other in
    let less : offers_before number later < offers_before asked later =
    omega (arith, before_other number offer later stays, more, l) in
    omega (arith, e, more, before_fewer asked number later less))
    (eq_cases offer.number number))
    (eq_cases offer.number asked)

-- another number taken out says nothing of who is in front
before_order :
    (asked number out : ℕ) (line : List Offer) → out ≢ number → out ≢ asked →
    offers_before number (without out line) < offers_before asked (without out line) →
    offers_before number line < offers_before asked line
before_order asked number out [] apart away l =
    let e = ap (offers_before asked) (without_nil out) ∙ before_nil asked in absurd (omega (arith, e, l))
before_order asked number out (offer ∷ later) apart away l =
    ⊎_elim
    (λ same.
    let p = ap (offers_before number) (without_out out offer later same) in
    let q = ap (offers_before asked) (without_out out offer later same) in
    let less : offers_before number later < offers_before asked later =
    before_order asked number out later apart away (omega (arith, p, q, l)) in
    omega (
      arith,
      before_other number offer later (λ z. apart (sym same ∙ z)),
      before_other asked offer later (λ z. away (sym same ∙ z)),
      less,
    ))
    (λ stays.
    let p = ap (offers_before number) (without_in out offer later stays) in
    let q = ap (offers_before asked) (without_in out offer later stays) in
    ⊎_elim
    (λ same. absurd (omega (arith, q, before_same asked offer (without out later) same, l)))
    (λ other.
    let more = before_other asked offer later other in
    let mores = before_other asked offer (without out later) other in
    ⊎_elim (λ first. omega (arith, before_same number offer later first, more))
    (λ behind.
    let less : offers_before number later < offers_before asked later =
    before_order asked number out later apart away
    (omega (arith, p, q, mores, before_other number offer (without out later) behind, l)) in
    omega (arith, before_other number offer later behind, more, less))
    (eq_cases offer.number number))
    (eq_cases offer.number asked))
    (eq_cases offer.number out)

-- ---- turns ----

module _ (g : Geometry) (blocks : Bytes) (asked : ℕ) where
  -- whether the number asked for counts in a line
  abbrev Counts : (line : List Offer) → Type 0
  Counts line = waiting_for g blocks line asked ≢ none

  has_place : (line : List Offer) → Counts line → offers_before asked line < length line
  has_place [] counts = absurd (counts (waiting_for_nil g blocks asked))
  has_place (offer ∷ later) counts =
      ⊎_elim (λ same. omega (arith, before_same asked offer later same))
      (λ other.
      omega (
        arith,
        before_other asked offer later other,
        has_place later (λ e. counts (waiting_for_other g blocks offer later asked other ∙ e)),
      ))
      (eq_cases offer.number asked)

  -- one that counts has its turn
  pub has_turn : (line : List Offer) → Counts line →
      offers_before asked (turns g blocks line) < length (turns g blocks line)
  has_turn line counts =
      has_place (turns g blocks line) (λ e. counts (waiting_for-turns g blocks asked line ∙ e))

  good_of_counts :
      (offer : Offer) (later : List Offer) → offer.number ≡ asked → Counts (offer ∷ later) →
      line_offer_refusal g blocks offer ≡ 0
  good_of_counts offer later same counts =
      ⊎_elim (λ e. e)
      (λ ne.
      absurd (counts (waiting_for_same g blocks offer later asked same ∙ good_block_bad g blocks offer ne)))
      (eq_cases (line_offer_refusal g blocks offer) 0)

  module _ (offer : Offer) (later : List Offer) where
    turns_of_good :
        line_offer_refusal g blocks offer ≡ 0 →
        turns g blocks (offer ∷ later) ≡ offer ∷ without offer.number (turns g blocks later)
    turns_of_good e =
        turns-cons g blocks offer later
        ∙ ap (λ (front : List Offer). front ++ without offer.number (turns g blocks later))
        (cond_true (offer ∷ []) [] (eq-eqb (line_offer_refusal g blocks offer) 0 e))

    turns_of_bad :
        line_offer_refusal g blocks offer ≢ 0 →
        turns g blocks (offer ∷ later) ≡ without offer.number (turns g blocks later)
    turns_of_bad ne =
        turns-cons g blocks offer later
        ∙ ap (λ (front : List Offer). front ++ without offer.number (turns g blocks later))
        (cond_false (offer ∷ []) [] (ne_eqb (line_offer_refusal g blocks offer) 0 ne))

    -- behind an offer of another number, with or without its turn
    turns_behind :
        (number : ℕ) → offer.number ≢ asked → offer.number ≢ number →
        offers_before number (turns g blocks (offer ∷ later)) <
        offers_before asked (turns g blocks (offer ∷ later)) →
        offers_before number (without offer.number (turns g blocks later)) <
        offers_before asked (without offer.number (turns g blocks later))
    turns_behind number other behind l =
        ⊎_elim
        (λ good.
        let p = ap (offers_before number) (turns_of_good good) ∙ before_other number offer _ behind in
        let q = ap (offers_before asked) (turns_of_good good) ∙ before_other asked offer _ other in
        omega (arith, p, q, l))
        (λ bad.
        let p = ap (offers_before number) (turns_of_bad bad) in
        let q = ap (offers_before asked) (turns_of_bad bad) in
        omega (arith, p, q, l))
        (eq_cases (line_offer_refusal g blocks offer) 0)

  -- who has a turn in front of one that counts stands in front of it
  order_kept :
      (number : ℕ) (line : List Offer) → Counts line →
      offers_before number (turns g blocks line) < offers_before asked (turns g blocks line) →
      offers_before number line < offers_before asked line
  order_kept number [] counts l = absurd (counts (waiting_for_nil g blocks asked))
  order_kept number (offer ∷ later) counts l =
      ⊎_elim
      (λ same.
      let q = ap (offers_before asked) (turns_of_good offer later (good_of_counts offer later same counts))
      ∙ before_same asked offer _ same in
      absurd (omega (arith, q, l)))
      (λ other.
      let more = before_other asked offer later other in
      ⊎_elim (λ first. omega (arith, before_same number offer later first, more))
      (λ behind.
      let further : offers_before number (without offer.number (turns g blocks later)) <
      offers_before asked (without offer.number (turns g blocks later)) =
      turns_behind offer later number other behind l in
      let less : offers_before number later < offers_before asked later =
      order_kept number later (λ e. counts (waiting_for_other g blocks offer later asked other ∙ e))
      (before_order asked number offer.number (turns g blocks later) behind other further) in
      omega (arith, before_other number offer later behind, more, less))
      (eq_cases offer.number number))
      (eq_cases offer.number asked)

  -- ---- what is left ----

  left_of_turns :
      (count : ℕ) (xs line : List Offer) → NoneTwice xs → turns g blocks line ≡ xs → Counts line →
      count ≤ offers_before asked xs →
      count + offers_before asked (left_after (take count xs) line) ≤ offers_before asked line
  unfolding left_after
  left_of_turns zero xs line apart e counts l = omega arith
  left_of_turns (suc count) [] line apart e counts l = absurd (omega (arith, before_nil asked, l))
  left_of_turns (suc count) (offer ∷ xs) line apart e counts l =
      ⊎_elim (λ same. absurd (omega (arith, before_same asked offer xs same, l)))
      (λ other.
      let more = before_other asked offer xs other in
      let p = ap (offers_before offer.number) e ∙ before_same offer.number offer xs refl in
      let q = ap (offers_before asked) e in
      let fewer = before_fewer asked offer.number line
      (order_kept offer.number line counts (omega (arith, p, q, more))) in
      let rest = left_of_turns count xs (without offer.number line) apart.1
      (turns-without g blocks offer.number line ∙ ap (without offer.number) e
      ∙ without_same offer xs ∙ apart.0)
      (λ gone. counts (sym (waiting_for-without_other g blocks asked offer.number line other) ∙ gone))
      (omega (arith, more, l)) in
      omega (arith, fewer, rest))
      (eq_cases offer.number asked)

  -- each one placed from in front of it leaves one fewer there
  pub before_left :
      (count : ℕ) (line : List Offer) → Counts line → count ≤ offers_before asked (turns g blocks line) →
      count + offers_before asked (left_after (take count (turns g blocks line)) line) ≤ offers_before asked line
  before_left count line = left_of_turns count (turns g blocks line) line (apart_turns g blocks line) refl

  -- it has no more turns in front of it than it has offers
  pub before_turns :
      (line : List Offer) → Counts line →
      offers_before asked (turns g blocks line) ≤ offers_before asked line
  before_turns line counts =
      omega (arith, before_left (offers_before asked (turns g blocks line)) line counts (omega arith))

-- ---- placed ----

gone_without :
    (asked number : ℕ) (line : List Offer) → is_waiting_in line asked ≡ false →
    is_waiting_in (without number line) asked ≡ false
gone_without asked number [] absent =
    ap (λ (xs : List Offer). is_waiting_in xs asked) (without_nil number) ∙ absent
gone_without asked number (offer ∷ later) absent =
    let rest = gone_without asked number later (rest_none asked offer later absent) in
    ⊎_elim
    (λ out. ap (λ (xs : List Offer). is_waiting_in xs asked) (without_out number offer later out) ∙ rest)
    (λ stays.
    ap (λ (xs : List Offer). is_waiting_in xs asked) (without_in number offer later stays)
    ∙ is_waiting_in-cons offer (without number later) asked
    ∙ or_neither (head_other asked offer later absent) rest)
    (eq_cases offer.number number)

gone_same : (asked : ℕ) (line : List Offer) → is_waiting_in (without asked line) asked ≡ false
gone_same asked [] =
    ap (λ (xs : List Offer). is_waiting_in xs asked) (without_nil asked) ∙ is_waiting_in_nil asked
gone_same asked (offer ∷ later) =
    ⊎_elim
    (λ out.
    ap (λ (xs : List Offer). is_waiting_in xs asked) (without_out asked offer later out)
    ∙ gone_same asked later)
    (λ stays.
    ap (λ (xs : List Offer). is_waiting_in xs asked) (without_in asked offer later stays)
    ∙ is_waiting_in-cons offer (without asked later) asked
    ∙ or_neither (ne_eqb offer.number asked stays) (gone_same asked later))
    (eq_cases offer.number asked)

gone_left :
    (asked : ℕ) (placed line : List Offer) → is_waiting_in line asked ≡ false →
    is_waiting_in (left_after placed line) asked ≡ false
unfolding left_after
gone_left asked [] line absent = absent
gone_left asked (offer ∷ placed) line absent =
    gone_left asked placed (without offer.number line) (gone_without asked offer.number line absent)

-- a number placed has left the line
pub gone_placed :
    (asked count : ℕ) (xs line : List Offer) → offers_before asked xs < length xs →
    suc (offers_before asked xs) ≤ count → is_waiting_in (left_after (take count xs) line) asked ≡ false
unfolding left_after
gone_placed asked count [] line h l = absurd (omega arith)
gone_placed asked zero (offer ∷ xs) line h l = absurd (omega arith)
gone_placed asked (suc count) (offer ∷ xs) line h l =
    ⊎_elim
    (λ same.
    gone_left asked (take count xs) (without offer.number line)
    (ap (λ (n : ℕ). is_waiting_in (without n line) asked) same ∙ gone_same asked line))
    (λ other.
    let more = before_other asked offer xs other in
    gone_placed asked count xs (without offer.number line) (omega (arith, more, h))
    (omega (arith, more, l)))
    (eq_cases offer.number asked)

-- ---- entering ----

module _ (asked : ℕ) (offer : Offer) where
  waits_behind :
      (first : Offer) (later : List Offer) → first.number ≢ asked →
      is_waiting_in (first ∷ later) asked ≡ true → is_waiting_in later asked ≡ true
  waits_behind first later other waits =
      ap (λ (is_same : Bool). is_same || is_waiting_in later asked) (sym (ne_eqb first.number asked other))
      ∙ sym (is_waiting_in-cons first later asked) ∙ waits

  before_with_offer :
      (line : List Offer) → is_waiting_in line asked ≡ true →
      offers_before asked (with_offer offer line) ≡ offers_before asked line
  unfolding with_offer
  before_with_offer [] waits = true_is_not_false waits (is_waiting_in_nil asked)
  before_with_offer (first ∷ later) waits =
      ⊎_elim
      (λ replaced.
      ap (offers_before asked) (cond_true _ _ (eq-eqb first.number offer.number replaced))
      ∙ ⊎_elim
      (λ same.
      before_same asked offer later (sym replaced ∙ same) ∙ sym (before_same asked first later same))
      (λ other.
      before_other asked offer later (λ z. other (replaced ∙ z)) ∙ sym (before_other asked first later other))
      (eq_cases first.number asked))
      (λ behind.
      ap (offers_before asked) (cond_false _ _ (ne_eqb first.number offer.number behind))
      ∙ ⊎_elim
      (λ same.
      before_same asked first (with_offer offer later) same ∙ sym (before_same asked first later same))
      (λ other.
      before_other asked first (with_offer offer later) other
      ∙ ap suc (before_with_offer later (waits_behind first later other waits))
      ∙ sym (before_other asked first later other))
      (eq_cases first.number asked))
      (eq_cases first.number offer.number)

  -- an offer that enters goes behind one that waits, or in its number's turn
  pub before_entered :
      (disk blocks : Bytes) (line : List Offer) (room : ℕ) → is_waiting_in line asked ≡ true →
      offers_before asked (entered disk offer blocks line room) ≡ offers_before asked line
  before_entered disk blocks line room waits =
      ⊎_elim
      (λ e.
      ap (offers_before asked) (entered_done disk offer blocks line room e) ∙ before_with_offer line waits)
      (λ ne. ap (offers_before asked) (entered_refused disk offer blocks line room ne))
      (eq_cases (enter_refusal disk offer blocks line room) 0)
