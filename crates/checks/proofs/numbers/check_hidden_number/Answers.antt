-- `checks::numbers::check_hidden_number` meets its contract: one law for each way through its checks. Assumes
-- nothing.
use Rattle.model.proofs.Laws.CallChecks.{hidden_number_refused, hidden_size_refused, hidden_number_passes}
use Rattle.layout.specs.Geometries.{geometry_of}
use Rattle.checks.proofs.numbers.check_hidden_number.Goals as goal

pub returns-then-hidden-asked : goal.returns-then-hidden-asked
returns-then-hidden-asked c =
    let a = c.args in
    hidden_number_refused (geometry_of a.g) a.number.0 a.size c.if-hidden-asked.true

pub returns-then-size-g : goal.returns-then-size-g
returns-then-size-g c =
    let a = c.args in
    hidden_size_refused (geometry_of a.g) a.number.0 a.size c.if-hidden-asked.false
    c.if-size-g.true

pub returns : goal.returns
returns c =
    let a = c.args in
    hidden_number_passes (geometry_of a.g) a.number.0 a.size c.if-hidden-asked.false
    c.if-size-g.false
