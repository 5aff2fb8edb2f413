-- `-`, or the first store and the later ones.
use Rattle.std.proofs.Common.{arith}
use Rattle.laws.proofs.Lists.{take-drop}
use Rattle.script.proofs.Laws.Reports.{put_none, put_some, first_fits, later_fits}
use Rattle.script.proofs.reports.put_stores.Goals as goal

pub returns-in-empty : goal.returns-in-empty
returns-in-empty c = put_none c.args.stores.now c.args.out.now c.args.at c.requires (omega arith)

pub put_address-next-requires : goal.put_address-next-requires
put_address-next-requires c =
    first_fits c.args.stores.now c.args.out.now c.args.at c.requires (λ none. omega arith)
    (λ index. (c.type_inv.stores index).fits)

pub put_later-requires : goal.put_later-requires
put_later-requires c =
    let first = c.put_address-next in
    rw take-drop
    (omega (
      arith,
      first.auto.out,
      later_fits c.args.stores.now c.args.out.now c.args.at c.requires (λ none. omega arith)
          (λ index. (c.type_inv.stores index).fits) first.new.out first.result first.ensures,
    ))

pub returns-in-len1-up : goal.returns-in-len1-up
returns-in-len1-up c =
    let first = c.put_address-next in
    put_some c.args.stores.now c.args.out.now c.args.at c.requires (λ none. omega arith)
    (λ index. (c.type_inv.stores index).fits) first.new.out first.result first.ensures
    c.put_later.new.out c.put_later.result (rw take-drop at c.put_later.ensures)
