-- What entering an offer answers, and the line that it leaves. Assumes nothing.
use Rattle.std.specs.Prelude.{◌≡◌, ◌≢◌, ℕ, Result, Ok, Err}
use Rattle.model.specs.Blocks.{Bytes}
use Rattle.model.specs.Line.{Offer, enter_refusal, entered}
use Rattle.layout.specs.declared.refusals.Refusal.{Refusal}
use Rattle.layout.specs.Refusals.{answer_number}
use Rattle.line.specs.declared.offers.Line.{Line}
use Rattle.line.specs.Offers.{line_of}

-- the line that is left: the one that is answered, or the caller's where the offer is refused
abbrev pub line_entered : Result Line Refusal → (line : Line) → Line
line_entered (Ok after) line = after
line_entered (Err refused) line = line

-- the refusal of the model's entering, and the line that it leaves; a refused line is the caller's
pub record EnterAnswered (disk : Bytes) (offer : Offer) (blocks : Bytes) (line : Line) (room : ℕ)
    (result : Result Line Refusal) : Type 0 where
  pub answered : answer_number result ≡ enter_refusal disk offer blocks (line_of line) room
  pub line_left_lem : line_of (line_entered result line) ≡ entered disk offer blocks (line_of line) room
  pub refused_kept : answer_number result ≢ 0 → line_entered result line ≡ line
