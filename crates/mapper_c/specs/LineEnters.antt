-- What entering an offer tells, and the lent line that it leaves, by the model's `entered`. Assumes nothing.
use Rattle.std.specs.Prelude.{◌≡◌, ◌≢◌, List, ℕ, length}
use Rattle.laws.specs.Lists.{over}
use Rattle.model.specs.Blocks.{Bytes}
use Rattle.model.specs.Line as model
use Rattle.line.specs.declared.offers.Offer.{Offer}
use Rattle.line.specs.Offers.{offers_of}
use Rattle.answers_c.specs.declared.enters.Entered.{Entered}

-- a call's offer
abbrev pub entering_offer : (number place : ℕ) → model.Offer
entering_offer number place = record { number = number; place = place }

-- the refusal, and how many wait in the line that is left
abbrev pub entered_numbers :
    (disk : Bytes) → model.Offer → (blocks : Bytes) → (line : List model.Offer) → (room : ℕ) → Entered
entered_numbers disk offer blocks line room =
    record {
      answer = model.enter_refusal disk offer blocks line room;
      waiting = length (model.entered disk offer blocks line room);
    }

-- with a lent line: what is left of the line handed over stands in its front, the rest is as it was; all is
-- where the call is refused
pub record LentEntered (disk : Bytes) (offer : model.Offer) (blocks : Bytes) (handed : List model.Offer)
    (lent lent_after : List Offer) (answer : Entered) : Type 0 where
  pub answered : answer ≡ entered_numbers disk offer blocks handed (length lent)
  pub line_left_lem :
      offers_of lent_after ≡ over 0 (model.entered disk offer blocks handed (length lent)) (offers_of lent)
  pub line_kept : answer.answer ≢ 0 → lent_after ≡ lent
