-- Laws of refusals 10 and 11 of an offer: what their check tells, and one for each way through the tests of
-- a place against so many lent bytes. Assumes nothing.
use mathlib.Core.Path.{◌≡◌, refl}
use mathlib.Core.Logic.{◌≢◌}
use mathlib.Core.Bool.{true, false}
use Prim.Native.Nat.{ℕ, ◌+◌, ◌*◌, ◌/◌, ◌≤◌, ◌<◌}
use native.Mathlib.Nat.{le-div_iff_mul-le, div-lt_iff_lt-mul}
use native.Mathlib.Omega.{arith}
use lib.ListN.{length}
use Rattle.std.specs.Prelude.{Result, Ok, Err, is_ok}
use Rattle.model.specs.Geometry.{Geometry}
use Rattle.model.specs.Blocks.{Bytes}
use Rattle.model.specs.Line.{Offer, line_offer_refusal}
use Rattle.model.proofs.Laws.LineSteps.{line_offer_place_refused, line_offer_passes}
use Rattle.layout.specs.declared.refusals.Refusal.{Refusal}
use Rattle.layout.specs.Refusals.{answer_number}
use Rattle.layout.proofs.Laws.Refusals.{refusal-some}

-- ---- what a check tells ----

pub answer_good : (told : Result (Unit {0}) Refusal) → is_ok told ≡ true → answer_number told ≡ 0
answer_good (Ok _) e = refl
answer_good (Err refused) e = absurd (cc)

pub answer_bad : (told : Result (Unit {0}) Refusal) → is_ok told ≡ false → answer_number told ≢ 0
answer_bad (Ok _) e = absurd (cc)
answer_bad (Err refused) e = refusal-some refused

-- ---- a place against the lent bytes ----

module _ (g : Geometry) (offer : Offer) (lent : ℕ) (wide : 0 < g.block_size)
    (number_inside : offer.number < g.hidden) (blocks : Bytes) (sized : length blocks ≡ lent) where
  pub offer_fault_outside : lent / g.block_size ≤ offer.place → 11 ≡ line_offer_refusal g blocks offer
  offer_fault_outside h =
      let past : lent < (offer.place + 1) * g.block_size = (div-lt_iff_lt-mul wide).0 (omega arith) in
      line_offer_place_refused g blocks offer number_inside (omega arith)

  pub offer_fault_none : offer.place < lent / g.block_size → 0 ≡ line_offer_refusal g blocks offer
  offer_fault_none h =
      let inside : (offer.place + 1) * g.block_size ≤ lent = (le-div_iff_mul-le wide).0 (omega arith) in
      line_offer_passes g blocks offer number_inside (omega arith)
