-- Laws of the find where offers wait: the way to each answer, and what it tells and shows: the read's
-- refusal, what the read shows, and a block on the drive or wholly among the lent ones. Assumes nothing.
use mathlib.Core.Path.{◌≡◌, refl, sym, ap, ◌∙◌}
use mathlib.Core.Logic.{◌≢◌, ⊎_elim}
use mathlib.Core.List.{List}
use mathlib.Core.Option.{Option, none, some}
use Prim.Native.Nat.{ℕ}
use lib.ListN.{length}
use borrow.Author.Tests.{eq-eqb, ne_eqb}
use Rattle.std.specs.Prelude.{Result, Ok, Err}
use Rattle.laws.specs.Checks.{first_of}
use Rattle.laws.proofs.Cases.{cond_true, cond_false, eq_cases}
use Rattle.model.specs.Geometry.{Geometry}
use Rattle.model.specs.Blocks.{Bytes}
use Rattle.model.specs.Layout.{geometry_in}
use Rattle.model.specs.Refusals.{drive_refusal, hidden_checks, hidden_read_refusal}
use Rattle.model.specs.Line.{Offer, waiting_for}
use Rattle.model.specs.Calls.{line_read_refusal, line_read}
use Rattle.model.proofs.Laws.LineSteps.{line_offer_inside}
use Rattle.model.proofs.Laws.LineChains.{line_read_refusal_drive, drive_refusal_of-line_read}
use Rattle.model.proofs.Laws.LineChains.{line_read_refusal_number, line_read_refusal_some}
use Rattle.model.proofs.Laws.LineCalls.{line_read_when_refused, line_read_refusal_disk, line_read_disk}
use Rattle.model.proofs.Laws.LineCalls.{line_read_waiting}
use Rattle.layout.specs.declared.refusals.Refusal.{Refusal}
use Rattle.layout.specs.Refusals.{answer_number}
use Rattle.layout.specs.Drives.{RefusedBy, OpenedWith}
use Rattle.line.specs.Waiting.{counting_offer}
use Rattle.line.proofs.Laws.CountingOffer.{offer_block, waiting_for_counting, counting_offer_good}
use Rattle.reads.specs.Finds.{Find, refused_find, blank_find, block_find, hidden_find, refusal_of}
use Rattle.reads.proofs.Laws.Finds.{refusal_of-hidden_find, shown_find-hidden_find, inside_hidden_find}
use Rattle.line_calls.specs.Finds.{LineFind, drive_find, lent_find, offer_find, line_find, line_refusal_of}
use Rattle.line_calls.specs.Finds.{line_find_of, shown_line_find, FoundInside}
use Rattle.line_calls.specs.declared.finds.LineFind as declared

-- a find with a refusal is that refusal
find_refused :
    (find : Find) {refusal : ℕ} → refusal_of find ≡ refusal → refusal ≢ 0 → find ≡ refused_find refusal
find_refused (refused_find fault) e f = ap refused_find e
find_refused blank_find e f = absurd (f (sym e))
find_refused (block_find address) e f = absurd (f (sym e))

-- the answer of a find through a line is the refusal of what it says
pub line_refusal_of-line_find_of :
    (find : Result declared.LineFind Refusal) → line_refusal_of (line_find_of find) ≡ answer_number find
line_refusal_of-line_find_of (Err refusal) = refl
line_refusal_of-line_find_of (Ok declared.TheVariants.Blank) = refl
line_refusal_of-line_find_of (Ok (declared.TheVariants.Drive address)) = refl
line_refusal_of-line_find_of (Ok (declared.TheVariants.Lent place)) = refl

module _ (disk : Bytes) (number : ℕ) (blank blocks : Bytes) (line : List Offer) where
  abbrev refusal : ℕ
  refusal = line_read_refusal disk number blank blocks line

  abbrev counting : Option Offer
  counting = counting_offer (geometry_in disk) blocks line number

  abbrev found : LineFind
  found = line_find disk number blank blocks line

  -- ---- a refusal or none ----

  found_refused : {fault : ℕ} → fault ≡ refusal → fault ≢ 0 → drive_find (refused_find fault) ≡ found
  unfolding line_find
  found_refused e f =
      ap (λ (fault : ℕ). drive_find (refused_find fault)) e
      ∙ sym (cond_false _ _ (ne_eqb refusal 0 (λ z. f (e ∙ z))))

  found_good : refusal ≡ 0 → offer_find counting (hidden_find disk number blank) ≡ found
  unfolding line_find
  found_good e = sym (cond_true _ _ (eq-eqb refusal 0 e))

  -- what waits is the counting offer's block
  waits_is : {offer : Option Offer} → counting ≡ offer →
      waiting_for (geometry_in disk) blocks line number ≡ offer_block (geometry_in disk) blocks offer
  waits_is e =
      waiting_for_counting (geometry_in disk) blocks line number ∙ ap (offer_block (geometry_in disk) blocks) e

  refusal_none : counting ≡ none → refusal ≡ hidden_read_refusal disk number blank
  refusal_none e = line_read_refusal_disk disk number blank blocks line (waits_is e)

  -- what holds of a find: refused, an offer's, or the drive's
  found_cases :
      (P : LineFind → Type 0) → (refusal ≢ 0 → P (drive_find (refused_find refusal))) →
      ((offer : Offer) → counting ≡ some offer → refusal ≡ 0 → P (lent_find offer.place)) →
      (counting ≡ none → refusal ≡ 0 → P (drive_find (hidden_find disk number blank))) → P found
  found_cases P refused lent unoffered =
      ⊎_elim (λ e. rw (← found_good e) (by counting refl e)) (λ f. rw (← found_refused refl f) (refused f))
      (eq_cases refusal 0)
    where
      by : (offer : Option Offer) → counting ≡ offer → refusal ≡ 0 →
          P (offer_find offer (hidden_find disk number blank))
      by none q e = unoffered q e
      by (some offer) q e = lent offer q e

  -- ---- the way to each answer ----

  pub line_find_drive :
      {fault : ℕ} → RefusedBy (drive_refusal disk) fault → drive_find (refused_find fault) ≡ found
  line_find_drive told =
      found_refused
      (line_read_refusal_drive disk number blank blocks line told.fault_is told.fault_some)
      told.fault_some

  module _ {g : Geometry} (opened : OpenedWith (drive_refusal disk) disk g) where
    counting_is : {offer : Option Offer} → offer ≡ counting_offer g blocks line number → counting ≡ offer
    counting_is e =
        ap (λ (h : Geometry). counting_offer h blocks line number) (sym opened.same) ∙ sym e

    module _ {bad : ℕ} (e : bad ≡ first_of (hidden_checks g number (length blank))) where
      pub line_find_number : bad ≢ 0 → drive_find (refused_find bad) ≡ found
      line_find_number f =
          found_refused
          (line_read_refusal_number disk number blank blocks line opened.accepted g opened.same e f) f

      pub line_find_lent :
          bad ≡ 0 → (offer : Offer) → some offer ≡ counting_offer g blocks line number →
          lent_find offer.place ≡ found
      line_find_lent good offer q =
          let e : refusal ≡ 0 =
          line_read_refusal_some disk number blank blocks line opened.accepted g opened.same e good
          (waiting_for_counting g blocks line number ∙ ap (offer_block g blocks) (sym q)) in
          ap (λ (one : Option Offer). offer_find one (hidden_find disk number blank)) (sym (counting_is q))
          ∙ found_good e

    pub line_find_unoffered :
        none ≡ counting_offer g blocks line number → {find : Find} → find ≡ hidden_find disk number blank →
        drive_find find ≡ found
    line_find_unoffered q told =
        ap drive_find told ∙ ⊎_elim good bad (eq_cases refusal 0)
      where
        unoffered : counting ≡ none
        unoffered = counting_is q

        good : refusal ≡ 0 → drive_find (hidden_find disk number blank) ≡ found
        good e =
            ap (λ (one : Option Offer). offer_find one (hidden_find disk number blank)) (sym unoffered)
            ∙ found_good e

        bad : refusal ≢ 0 → drive_find (hidden_find disk number blank) ≡ found
        bad f =
            ap drive_find
            (find_refused (hidden_find disk number blank)
            (refusal_of-hidden_find disk number blank ∙ sym (refusal_none unoffered)) f)
            ∙ found_refused refl f

  -- ---- what it tells and shows ----

  pub line_refusal_of-line_find : line_refusal_of found ≡ refusal
  line_refusal_of-line_find =
      found_cases (λ (find : LineFind). line_refusal_of find ≡ refusal) (λ f. refl) (λ offer q e. sym e)
      (λ q e. refusal_of-hidden_find disk number blank ∙ sym (refusal_none q))

  pub shown_line_find-line_find :
      shown_line_find found disk blank blocks ≡ line_read disk number blank blocks line
  shown_line_find-line_find =
      found_cases
      (λ (find : LineFind). shown_line_find find disk blank blocks ≡ line_read disk number blank blocks line)
      (λ f. sym (line_read_when_refused disk number blank blocks line f))
      (λ offer q e. sym (line_read_waiting disk number blank blocks line _ (waits_is q) e))
      (λ q e. shown_find-hidden_find disk number blank
      ∙ sym (line_read_disk disk number blank blocks line (waits_is q)))

  pub inside_line_find : FoundInside found disk blocks
  inside_line_find =
      found_cases (λ (find : LineFind). FoundInside find disk blocks) (λ f. tt)
      (λ offer q e. record {
        accepted = accepted e;
        inside =
            line_offer_inside (geometry_in disk) blocks offer
            (counting_offer_good (geometry_in disk) blocks line number q);
      })
      (λ q e. inside_hidden_find disk number blank)
    where
      accepted : refusal ≡ 0 → drive_refusal disk ≡ 0
      accepted e = drive_refusal_of-line_read disk number blank blocks line e
