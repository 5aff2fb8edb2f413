-- `plan_public` meets its contract: the block is kept, or takes the call's data with the number's entry read
-- before. Assumes nothing.
use Rattle.layout.specs.Geometries.{geometry_of}
use Rattle.plans.proofs.Laws.PublicPlans.{public_kept, public_written}
use Rattle.plans.proofs.public_plans.plan_public.Goals as goal

pub returns-in-Keep : goal.returns-in-Keep
returns-in-Keep c =
    let s = c.args in
    public_kept (geometry_of s.g) s.disk.now s.slot s.choice s.number.0
    c.in-Keep.is

pub returns-in-Write : goal.returns-in-Write
returns-in-Write c =
    let a = c.args in
    public_written (geometry_of a.g) a.disk.now a.slot a.choice a.number
    c.in-Write.is c.requires.drive c.requires.number_inside c.map_entry-entry.result.0
    c.map_entry-entry.ensures c.plan_bits.result c.plan_bits.ensures
