-- What waits under a number, as the call finds it. Assumes nothing.
use Rattle.std.specs.Prelude.{◌≡◌, cond, List, [], ◌∷◌, ℕ, ◌+◌, ◌*◌, ◌≤◌, eqb, length}
use Rattle.std.specs.Prelude as std
use Rattle.std.proofs.Math.Option.{Option, none, some}
use Rattle.model.specs.Geometry.{Geometry}
use Rattle.model.specs.Blocks.{Bytes, block_at}
use Rattle.model.specs.Line.{Offer, line_offer_refusal, waiting_for}
use Rattle.line.specs.declared.offers.Offer as declared
use Rattle.line.specs.Offers.{offer_of}

-- the block that a found offer names
abbrev pub block_of : std.Option declared.Offer → Geometry → (blocks : Bytes) → Option Bytes
block_of std.None g blocks = none
block_of (std.Some offer) g blocks = some (block_at g.block_size blocks offer.place)

-- the offer that is found
abbrev pub offer_found : std.Option declared.Offer → Option Offer
offer_found std.None = none
offer_found (std.Some offer) = some (offer_of offer)

-- it lies wholly among so many bytes of lent blocks
abbrev pub PlaceInside : std.Option declared.Offer → Geometry → (lent : ℕ) → Type 0
PlaceInside std.None g lent = Unit {0}
PlaceInside (std.Some offer) g lent = (offer.place + 1) * g.block_size ≤ lent

-- the offer that counts under a number: its first, if 10 and 11 do not meet it
unfoldable pub counting_offer :
    Geometry → (blocks : Bytes) → (line : List Offer) → (number : ℕ) → Option Offer
counting_offer g blocks [] number = none
counting_offer g blocks (offer ∷ later) number =
    cond (eqb offer.number number)
    (cond (eqb (line_offer_refusal g blocks offer) 0) (some offer) none) (counting_offer g blocks later number)

-- it is what waits under the number, and the offer that counts there, whatever the so many bytes of lent
-- blocks
pub record WaitsFor (g : Geometry) (lent : ℕ) (line : List Offer) (number : ℕ)
    (first : std.Option declared.Offer) : Type 0 where
  pub waits_is :
      (blocks : Bytes) → length blocks ≡ lent → block_of first g blocks ≡ waiting_for g blocks line number
  pub offer_is :
      (blocks : Bytes) → length blocks ≡ lent → offer_found first ≡ counting_offer g blocks line number
  pub inside : PlaceInside first g lent
