-- `waiting_offers` meets its contract: a line has 16 offers. Assumes nothing.
use Rattle.std.proofs.Common.{rules}
use Rattle.line.proofs.Laws.Offers.{offers_of_waiting}
use Rattle.line.proofs.offers.waiting_offers.Goals as goal

pub returns : goal.returns
returns c = rw c.min.ensures (offers_of_waiting c.args.line.now (search rules))
