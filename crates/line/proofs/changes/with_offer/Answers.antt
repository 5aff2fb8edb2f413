-- `with_offer` meets its contract: a waiting number's offer is set, another one is pushed. Assumes nothing.
use Rattle.std.proofs.Common.{ap, ◌∙◌, rules}
use Rattle.line.specs.Offers.{line_of}
use Rattle.line.proofs.Laws.Entering.{enters_in_turn, enters_last}
use Rattle.line.proofs.changes.with_offer.Goals as goal

pub returns-in-Some : goal.returns-in-Some
returns-in-Some c = enters_in_turn c.args.line c.args.offer c.in-Some.index c.in-Some.ensures

pub returns-in-None : goal.returns-in-None
returns-in-None c =
    ap line_of c.push_offer.ensures ∙ enters_last c.args.line c.args.offer (search rules) c.in-None.ensures
