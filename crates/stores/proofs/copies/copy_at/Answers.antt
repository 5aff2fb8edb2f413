-- `copy_at` meets its contract: the part is the source. Assumes nothing.
use mathlib.Core.Path.{refl}
use lib.ListN.{length}
use Rattle.stores.proofs.Laws.Copies.{part_over}
use Rattle.stores.proofs.copies.copy_at.Goals as goal

pub returns : goal.returns
returns c =
    let a = c.args in
    rw c.copy_from_slice.ensures.after (part_over a.at (length a.source.now) a.target.now a.source.now refl)
