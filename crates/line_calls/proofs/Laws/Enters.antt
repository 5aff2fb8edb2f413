-- Laws of entering: the way to each answer, and the line that is left there. Assumes nothing.
use mathlib.Core.Path.{◌≡◌, refl, sym, ◌∙◌}
use Prim.Native.Nat.{ℕ}
use lib.ListN.{take}
use Rattle.std.specs.Prelude.{Ok, Err}
use Rattle.laws.specs.Checks.{first_of}
use Rattle.model.specs.Geometry.{Geometry}
use Rattle.model.specs.Blocks.{Bytes}
use Rattle.model.specs.Refusals.{drive_refusal}
use Rattle.model.specs.Line as model
use Rattle.model.specs.Line.{most_offers, line_offer_refusal, room_checks, enter_refusal, with_offer}
use Rattle.model.proofs.Laws.LineChains.{enter_refusal_drive, enter_refusal_offer, enter_refusal_room}
use Rattle.model.proofs.Laws.LineCalls.{entered_done, entered_refused}
use Rattle.layout.specs.declared.refusals.Refusal.{Refusal}
use Rattle.layout.specs.Refusals.{refusal_number}
use Rattle.layout.specs.Drives.{RefusedBy, OpenedWith}
use Rattle.layout.proofs.Laws.Refusals.{refusal-some}
use Rattle.line.specs.declared.offers.Offer.{Offer}
use Rattle.line.specs.declared.offers.Line.{Line}
use Rattle.line.specs.Offers.{offer_of, line_of}
use Rattle.line.proofs.Laws.Entering.{enters_whole}
use Rattle.line_calls.specs.Enters.{EnterAnswered}

module _ (disk : Bytes) (declared : Offer) (blocks : Bytes) (line : Line) (room : ℕ) where
  abbrev offer : model.Offer
  offer = offer_of declared

  abbrev refusal : ℕ
  refusal = enter_refusal disk offer blocks (line_of line) room

  -- refused, the line is the caller's
  enter_refused :
      (fault : Refusal) → refusal_number fault ≡ refusal →
      EnterAnswered disk offer blocks line room (Err fault)
  enter_refused fault e =
      record {
        answered = e;
        line_left_lem =
            sym (entered_refused disk offer blocks (line_of line) room (λ z. refusal-some fault (e ∙ z)));
        refused_kept = λ g. refl;
      }

  pub enter_drive :
      (fault : Refusal) → RefusedBy (drive_refusal disk) (refusal_number fault) →
      EnterAnswered disk offer blocks line room (Err fault)
  enter_drive fault told =
      enter_refused fault
      (enter_refusal_drive disk offer blocks (line_of line) room told.fault_is told.fault_some)

  module _ {g : Geometry} (opened : OpenedWith (drive_refusal disk) disk g) where
    pub enter_offer :
        (fault : Refusal) → refusal_number fault ≡ line_offer_refusal g blocks offer →
        EnterAnswered disk offer blocks line room (Err fault)
    enter_offer fault e =
        enter_refused fault
        (enter_refusal_offer disk offer blocks (line_of line) room opened.accepted g opened.same e
        (refusal-some fault))

    module _ (good : 0 ≡ line_offer_refusal g blocks offer) {full : ℕ}
        (told : full ≡ first_of (room_checks (line_of line) offer.number room)) where
      full_is : full ≡ refusal
      full_is =
          enter_refusal_room disk offer blocks (line_of line) room opened.accepted g opened.same good refl
          told

      pub enter_full :
          (fault : Refusal) → refusal_number fault ≡ full →
          EnterAnswered disk offer blocks line room (Err fault)
      enter_full fault e = enter_refused fault (e ∙ full_is)

      pub enter_done :
          full ≡ 0 → (after : Line) → line_of after ≡ take most_offers (with_offer offer (line_of line)) →
          EnterAnswered disk offer blocks line room (Ok after)
      enter_done z after left =
          record {
            answered = sym z ∙ full_is;
            line_left_lem =
                left ∙ enters_whole line declared room (sym told ∙ z)
                ∙ sym (entered_done disk offer blocks (line_of line) room (sym full_is ∙ z));
            refused_kept = λ f. absurd (f refl);
          }
