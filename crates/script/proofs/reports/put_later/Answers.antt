-- No store, one store more, and all of them.
use Rattle.std.proofs.Common.{arith}
use Rattle.script.proofs.Laws.Reports.{listed_none, listed_more}
use Rattle.script.proofs.reports.put_later.Goals as goal

pub loop-store-init : goal.loop-store-init
loop-store-init c = listed_none c.args.stores.now c.args.out.now c.args.at (omega (arith, c.requires))

pub loop-store-preserved : goal.loop-store-preserved
loop-store-preserved c =
    let at = c.loop-store in
    let put = c.put_store-next in
    listed_more c.args.stores.now c.args.out.now c.args.at c.requires at.out at.next at.store-index
    at.invariant put.new.out put.result c.loop-store-test.true (c.type_inv.stores at.store-index).fits
    put.ensures
