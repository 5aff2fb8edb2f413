-- `is_well_formed` meets its contract: one law for each way through the tests. Assumes nothing.
use Rattle.hidden_map.proofs.Laws.Branches.{is_well_formed_below, is_well_formed_past, is_well_formed_data}
use Rattle.hidden_map.proofs.Laws.Branches.{is_well_formed-node}
use Rattle.hidden_map.proofs.branches.is_well_formed.Goals as goal

pub returns-then-at-first : goal.returns-then-at-first
returns-then-at-first c =
    let a = c.args in
    λ g of. is_well_formed_below g a.area of a.level a.address.0
    c.if-at-first.true

pub returns-then-area-at : goal.returns-then-area-at
returns-then-area-at c =
    let a = c.args in
    λ g of. is_well_formed_past g a.area of a.level a.address.0
    c.if-area-at.true

pub returns-then-level-eq0 : goal.returns-then-level-eq0
returns-then-level-eq0 c =
    let a = c.args in
    λ g of. is_well_formed_data g a.area of a.level a.address.0
    c.if-at-first.false c.if-area-at.false c.if-level-eq0.true

pub returns : goal.returns
returns c =
    let a = c.args in
    λ g of. is_well_formed-node g a.area of a.level a.address.0
    c.if-at-first.false c.if-area-at.false c.if-level-eq0.false
