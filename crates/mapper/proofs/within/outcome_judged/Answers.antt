-- `outcome_judged` meets its contract: 10 and 11 come first. Assumes nothing.
use mathlib.Core.Path.{refl, ap, ◌∙◌}
use native.Mathlib.Omega.{arith}
use Rattle.layout.specs.Refusals.{refusal_number, answer_number}
use Rattle.mapper.proofs.Laws.Outcomes.{outcome_number_lem, outcome_size}
use Rattle.mapper.proofs.within.outcome_judged.Goals as goal

pub returns-in-Err-HiddenNumber : goal.returns-in-Err-HiddenNumber
returns-in-Err-HiddenNumber c =
    let is = c.in-Err-HiddenNumber.is in
    let number = rw is at c.in-Err-HiddenNumber.field-0-is in
    λ writes whole.
    outcome_number_lem (answer_number c.args.judged) c.args.state writes
    (ap answer_number is ∙ ap refusal_number number)

pub returns-in-Err-HiddenSize : goal.returns-in-Err-HiddenSize
returns-in-Err-HiddenSize c =
    let is = c.in-Err-HiddenSize.is in
    let size = rw is at c.in-Err-HiddenSize.field-0-is in
    λ writes whole.
    rw (ap answer_number is ∙ ap refusal_number size)
    (outcome_size 11 c.args.state writes (λ z. omega arith) refl)
