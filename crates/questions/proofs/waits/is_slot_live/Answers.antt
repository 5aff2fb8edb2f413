-- `questions::waits::is_slot_live` meets its contract: what the walk of the slot's owner says of the slot.
-- Assumes nothing.
use mathlib.Core.Path.{◌∙◌}
use Rattle.layout.specs.Geometries.{geometry_of}
use Rattle.owners.proofs.Laws.Owners.{is_live_owned}
use Rattle.questions.proofs.waits.is_slot_live.Goals as goal

pub returns : goal.returns
returns c =
    let s = c.args in
    c.is_live.ensures
    ∙ is_live_owned (geometry_of s.g) s.disk.now s.slot c.owner_of-number.result.0
    c.owner_of-number.ensures c.walk_owner.result c.walk_owner.ensures
