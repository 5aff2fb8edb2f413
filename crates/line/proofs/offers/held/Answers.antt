-- `held` meets its contract: a line has 16 offers. Assumes nothing.
use Rattle.std.proofs.Common.{◌∙◌, rules}
use Rattle.line.proofs.Laws.Offers.{length-line_of}
use Rattle.line.proofs.offers.held.Goals as goal

pub returns : goal.returns
returns c = c.min.ensures ∙ length-line_of c.args.line (search rules)
