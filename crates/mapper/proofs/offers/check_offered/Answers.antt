-- `check_offered` meets its contract: 10 or 11 of the hidden write that is offered, nothing of none. Assumes
-- nothing.
use mathlib.Core.Path.{◌∙◌}
use Rattle.layout.specs.Geometries.{geometry_of}
use Rattle.mapper.proofs.Laws.Offers.{refusal_some, refusal_none}
use Rattle.mapper.proofs.offers.check_offered.Goals as goal

pub returns-in-Some : goal.returns-in-Some
returns-in-Some c =
    rw c.in-Some.is
    (c.check_hidden_number.ensures ∙ refusal_some (geometry_of c.args.g) c.in-Some.write)

pub returns-in-None : goal.returns-in-None
returns-in-None c = rw c.in-None.is (refusal_none (geometry_of c.args.g))
