-- A comma, and a number of at most ten digits.
use Rattle.std.proofs.Common.{arith}
use Rattle.std.proofs.Math.ListN.{length-set}
use Rattle.script.specs.Texts.{comma, decimal}
use Rattle.script.proofs.Laws.Texts.{put_cons}
use Rattle.script.proofs.Laws.Reports.{length-decimal-store}
use Rattle.script.proofs.reports.put_store.Goals as goal

pub put_address-requires : goal.put_address-requires
put_address-requires c = simp length-set (omega (arith, length-decimal-store c.args.store.0 (omega arith)))

pub returns : goal.returns
returns c =
    let put = c.put_address in
    put_cons comma (decimal c.args.store.0) c.args.out.now c.args.at put.new.out put.result
    (omega (arith, length-decimal-store c.args.store.0 (omega arith))) put.ensures
