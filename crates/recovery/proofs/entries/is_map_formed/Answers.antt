-- `recovery::entries::is_map_formed` meets its contract: every number is asked for until one is not formed.
-- Assumes nothing.
use mathlib.Core.Path.{refl}
use mathlib.Core.Bool.{true, false}
use native.Mathlib.Omega.{arith}
use borrow.Author.Rules.{rules}
use borrow.Author.Tests.{tests}
use Rattle.std.proofs.lemmas.Iterator.{cases_from_all, YieldsList-from_range}
use Rattle.layout.specs.Geometries.{geometry_of}
use Rattle.recovery.proofs.Laws.Entries.{FormedAs, map_formed}
use Rattle.recovery.proofs.entries.is_map_formed.Goals as goal

pub returns : goal.returns
returns c =
    let g = geometry_of c.args.g in
    let disk = c.args.disk.now in
    map_formed g disk c.all.result
    (cases_from_all _ _ _ (FormedAs g disk true) (FormedAs g disk false) c.all.ensures.ran
    (YieldsList-from_range 0 c.args.g.publics c.args.g.publics refl (omega arith))
    (λ x q k. (search rules, search (rules, tests)))
    (λ x q k. search (rules, tests)))
