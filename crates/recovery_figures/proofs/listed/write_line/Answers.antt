-- The line offers what the call does.
use Rattle.std.proofs.Common.{ap, ◌∙◌}
use Rattle.model.specs.Promises.Limits.{listed_on}
use Rattle.recovery_figures.proofs.listed.write_line.Goals as goal

pub returns : goal.returns
returns c =
    let a = c.args in
    c.write_block.ensures.stored ∙ ap (listed_on a.disk.now a.line a.number) c.offer_of.ensures
