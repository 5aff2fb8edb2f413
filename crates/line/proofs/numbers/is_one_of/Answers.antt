-- `is_one_of` meets its contract: the test of each offer is the model's. Assumes nothing.
use Rattle.std.proofs.Common.{◌∙◌, rules, tests}
use Rattle.std.proofs.lemmas.Iterator.{YieldsList-from_slice}
use Rattle.std.proofs.lemmas.Iterator.Search.{any_from_yields_List}
use Rattle.line.proofs.Laws.Numbers.{has_number, is_waiting_in-any}
use Rattle.line.proofs.numbers.is_one_of.Goals as goal

pub returns : goal.returns
returns c =
    let number = c.args.number.0 in
    let offers = c.args.offers.now in
    any_from_yields_List (has_number number) _ _ _ c.any.ensures.ran (YieldsList-from_slice offers cc)
    (λ x b q k. search (rules, tests))
    ∙ is_waiting_in-any number offers
