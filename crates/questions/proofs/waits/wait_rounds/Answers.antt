-- `questions::waits::wait_rounds` meets its contract: the drive's refusal, or the rounds that are counted.
-- Assumes nothing.
use mathlib.Core.Path.{ap, ◌∙◌}
use Prim.Native.Nat.{ℕ}
use Rattle.std.specs.Prelude.{Option, unwrap_or}
use Rattle.model.specs.Waits.{wait_rounds}
use Rattle.layout.specs.Geometries.{geometry_of}
use Rattle.layout.proofs.Laws.Opened.{opened_head}
use Rattle.layout.proofs.Laws.Refusals.{handed_on}
use Rattle.questions.specs.Waits.{wait_of}
use Rattle.questions.proofs.Laws.Waits.{unwrap_or-found_round, wait_in_refused, wait_in-told}
use Rattle.questions.proofs.waits.wait_rounds.Goals as goal

pub returns-in_err-g : goal.returns-in_err-g
returns-in_err-g c =
    let refused = c.in_err-g.ensures in
    ap wait_of (handed_on c.from_residual.ensures.1)
    ∙ wait_in_refused c.args.disk.now _ refused.fault_is refused.fault_some

pub rounds_to_place-requires-clause-disk_bound : goal.rounds_to_place-requires-clause-disk_bound
rounds_to_place-requires-clause-disk_bound c = opened_head c.in_ok-g.ensures

pub returns : goal.returns
returns c =
    let disk = c.args.disk.now in
    let g = geometry_of c.in_ok-g.g in
    let opened = c.in_ok-g.ensures in
    wait_in-told disk opened.accepted g opened.same c.unwrap_or.result
    (c.unwrap_or.ensures ∙ ap (λ (o : Option ℕ). unwrap_or o 0) c.rounds_to_place.ensures
    ∙ unwrap_or-found_round (wait_rounds g disk))
