-- The digits are those at its index.
use Rattle.std.proofs.Common.{lt-ltb, le-ltb}
use Rattle.line_cases.specs.Offers.{offer_said}
use Rattle.line_cases.proofs.offers.offer_said.Goals as goal

pub returns-then-i-lt4 : goal.returns-then-i-lt4
unfolding offer_said
returns-then-i-lt4 c = rw (lt-ltb _ _ c.if-i-lt4.true)

pub returns : goal.returns
unfolding offer_said
returns c = rw (le-ltb _ _ c.if-i-lt4.false)
