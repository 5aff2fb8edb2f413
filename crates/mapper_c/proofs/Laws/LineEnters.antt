-- Laws of entering for C: what is told, and the answer of a lent line that is loaded and saved. Assumes
-- nothing.
use mathlib.Core.Path.{◌≡◌, refl, sym, ap, ◌∙◌}
use mathlib.Core.List.{List}
use Prim.Native.Nat.{ℕ}
use lib.ListN.{length}
use Rattle.std.specs.Prelude.{Result, Ok, Err}
use Rattle.model.specs.Blocks.{Bytes}
use Rattle.model.specs.Line as model
use Rattle.model.proofs.Laws.LineCalls.{entered_fits}
use Rattle.layout.specs.declared.refusals.Refusal.{Refusal}
use Rattle.layout.specs.Refusals.{answer_number}
use Rattle.line.specs.declared.offers.Offer.{Offer}
use Rattle.line.specs.declared.offers.Line.{Line}
use Rattle.line.specs.Offers.{offers_of, line_of}
use Rattle.lent_line.specs.Lent.{loaded_line, saved_offers}
use Rattle.lent_line.proofs.Laws.Lent.{loaded_line_is, handed_fits, saved_left, saved_kept}
use Rattle.line_calls.specs.Enters.{line_entered, EnterAnswered}
use Rattle.answers_c.specs.declared.enters.Entered.{Entered}
use Rattle.answers_c.specs.Enters.{entered_said}
use Rattle.mapper_c.specs.LineEnters.{entered_numbers, LentEntered}

-- ---- what is told ----

numbers_of :
    (line : Line) (entered : Result Line Refusal) →
    entered_said line entered ≡
    record { answer = answer_number entered; waiting = length (line_of (line_entered entered line)) }
numbers_of line (Ok left) = refl
numbers_of line (Err refusal) = refl

told :
    (line : Line) (room : ℕ) (entered : Result Line Refusal) {disk : Bytes} {offer : model.Offer}
    {blocks : Bytes} →
    EnterAnswered disk offer blocks line room entered →
    entered_said line entered ≡ entered_numbers disk offer blocks (line_of line) room
told line room entered half = numbers_of line entered ∙ rw (half.answered, half.line_left_lem)

answer_said :
    (line : Line) (entered : Result Line Refusal) → (entered_said line entered).answer ≡ answer_number entered
answer_said line entered = ap (λ (said : Entered). said.answer) (numbers_of line entered)

-- ---- a lent line ----

-- the line that is answered is saved, and where the offer is refused the lent one is as it was
module _ (lent : List Offer) (waiting : ℕ) (held : Line) (loaded : held ≡ loaded_line waiting lent)
    (entered : Result Line Refusal) (saved : List Offer) where
  pub saved_entered :
      (left : Line) → entered ≡ Ok left → saved ≡ saved_offers left lent →
      saved ≡ saved_offers (line_entered entered held) lent
  saved_entered left e is =
      is ∙ ap (λ (r : Result Line Refusal). saved_offers (line_entered r held) lent) (sym e)

  pub saved_refused :
      (refusal : Refusal) → entered ≡ Err refusal → saved ≡ lent →
      saved ≡ saved_offers (line_entered entered held) lent
  saved_refused refusal e is =
      is ∙ sym (saved_kept lent (saved_offers held lent) waiting held held loaded refl refl)
      ∙ ap (λ (r : Result Line Refusal). saved_offers (line_entered r held) lent) (sym e)

pub entered_of_held :
    (lent : List Offer) (waiting : ℕ) (held : Line) (entered : Result Line Refusal) (saved : List Offer)
    {disk : Bytes} {offer : model.Offer} {blocks : Bytes} → held ≡ loaded_line waiting lent →
    EnterAnswered disk offer blocks held (length lent) entered →
    saved ≡ saved_offers (line_entered entered held) lent →
    LentEntered disk offer blocks (model.handed_over waiting (offers_of lent)) lent saved
    (entered_said held entered)
entered_of_held lent waiting held entered saved {disk} {offer} {blocks} loaded half saved-is =
    let handed : List model.Offer = model.handed_over waiting (offers_of lent) in
    let same : line_of held ≡ handed = ap line_of loaded ∙ loaded_line_is waiting lent in
    let left : List model.Offer = model.entered disk offer blocks handed (length lent) in
    let left_is : line_of (line_entered entered held) ≡ left =
    half.line_left_lem
    ∙ ap (λ (xs : List model.Offer). model.entered disk offer blocks xs (length lent)) same in
    record {
      answered =
          told held (length lent) entered half
          ∙ ap (λ (xs : List model.Offer). entered_numbers disk offer blocks xs (length lent)) same;
      line_left_lem =
          saved_left lent saved (line_entered entered held) left saved-is left_is
          (entered_fits disk offer blocks handed (length lent) (handed_fits waiting lent)).1;
      line_kept = λ refused.
          saved_kept lent saved waiting held (line_entered entered held) loaded saved-is
          (half.refused_kept (λ e. refused (answer_said held entered ∙ e)));
    }
