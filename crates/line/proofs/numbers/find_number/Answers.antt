-- `find_number` meets its contract: what the search through the waiting offers finds. Assumes nothing.
use Rattle.std.proofs.Common.{sym, rules, tests}
use Rattle.std.proofs.lemmas.Iterator.{YieldsList-from_slice}
use Rattle.std.proofs.lemmas.Iterator.Search.{position_from_yields_List}
use Rattle.line.proofs.Laws.Numbers.{has_number, found_at}
use Rattle.line.proofs.numbers.find_number.Goals as goal

pub returns : goal.returns
returns c =
    let number = c.args.number.0 in
    let offers = c.waiting_offers.result.now in
    rw (← c.waiting_offers.ensures) (found_at number offers c.position.result
    (sym (position_from_yields_List (has_number number) _ _ _ c.position.ensures.ran
    (YieldsList-from_slice offers cc) (λ x b q k. search (rules, tests)))))
