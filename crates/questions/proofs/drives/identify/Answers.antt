-- `questions::drives::identify` meets its contract: the drive's refusal, or what its header states. Assumes
-- nothing.
use mathlib.Core.Path.{ap, ◌∙◌}
use Rattle.layout.specs.Geometries.{geometry_of}
use Rattle.layout.proofs.Laws.Refusals.{handed_on}
use Rattle.questions.specs.Drives.{identity_of}
use Rattle.questions.proofs.Laws.Drives.{identity_in_refused, identity_in-told}
use Rattle.questions.proofs.drives.identify.Goals as goal

pub returns-in_err-geometry : goal.returns-in_err-geometry
returns-in_err-geometry c =
    let refused = c.in_err-geometry.ensures in
    ap identity_of (handed_on c.from_residual.ensures.1)
    ∙ identity_in_refused c.args.disk.now _ refused.fault_is refused.fault_some

pub returns : goal.returns
returns c =
    let opened = c.in_ok-geometry.ensures in
    identity_in-told c.args.disk.now opened.accepted (geometry_of c.in_ok-geometry.geometry) opened.same
    c.head_in.result c.head_in.ensures
