-- `ending_store` meets its contract: where the plan is known, so is the store at an index. Assumes nothing.
use mathlib.Core.Path.{ap}
use Prim.Native.Nat.{suc, ◌-◌}
use native.Mathlib.Omega.{arith}
use Rattle.layout.specs.Geometries.{geometry_of}
use Rattle.round_stores.specs.Endings.{ending_count}
use Rattle.round_stores.proofs.Laws.Endings.{ending, describes_known}
use Rattle.round_stores.proofs.endings.ending_store.Goals as goal

pub returns-then-index-eq0 : goal.returns-then-index-eq0
returns-then-index-eq0 c =
    let args = c.args in
    let g = geometry_of args.g in
    describes_known g (ending g args.slot) 0
    c.in-Write.is c.if-index-eq0.true c.map_store.ensures

pub returns-in-Keep : goal.returns-in-Keep
returns-in-Keep c =
    let args = c.args in
    let e = c.in-Keep.is in
    let g = geometry_of args.g in
    describes_known g (ending g args.slot) 0 e
    (omega (arith, ap ending_count e, c.requires.slot_place.high)) c.header_store.ensures

pub returns-else-index-eq0 : goal.returns-else-index-eq0
returns-else-index-eq0 c =
    let args = c.args in
    let g = geometry_of args.g in
    describes_known g (ending g args.slot) (suc (args.index - 1)) c.in-Write.is
    (omega (arith, c.if-index-eq0.false)) c.bits_ending_store.ensures
