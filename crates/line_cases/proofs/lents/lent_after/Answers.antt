-- A line has 16 offers.
use Rattle.std.proofs.Common.{◌≡◌, length, rules}
use Rattle.line_cases.proofs.Laws.Lents.{lent_after_lem}
use Rattle.line_cases.proofs.lents.lent_after.Goals as goal

pub returns : goal.returns
returns c =
    let whole : length c.args.lent.offers ≡ 16 = search rules in
    lent_after_lem c.args.lent c.args.left whole c.save_in-offers.ensures c.held.ensures
