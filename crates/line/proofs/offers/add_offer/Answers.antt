-- `add_offer` meets its contract: it sets the place after those that wait, if there is one. Assumes nothing.
use Rattle.std.proofs.Common.{sym, arith}
use Rattle.line.proofs.Laws.Offers.{pushed_room, pushed_full}
use Rattle.line.proofs.offers.add_offer.Goals as goal

pub returns-then-line-lt16 : goal.returns-then-line-lt16
returns-then-line-lt16 c =
    sym (pushed_room c.args.line.now c.args.offer (omega arith))

pub returns-else-line-lt16 : goal.returns-else-line-lt16
returns-else-line-lt16 c =
    sym (pushed_full c.args.line.now c.args.offer (omega arith))
