-- A word for each of the first four outcomes, and the number of another one.
use Rattle.std.proofs.Common.{arith}
use Rattle.script.proofs.Laws.Decimals.{length-decimal}
use Rattle.script.proofs.Laws.Reports.{outcome_text_none, outcome_text_placed, outcome_text_waiting}
use Rattle.script.proofs.Laws.Reports.{outcome_text-not_tried, outcome_text_refusal}
use Rattle.script.proofs.reports.put_word.Goals as goal

pub returns-in-0 : goal.returns-in-0
returns-in-0 c = rw (outcome_text_none c.args.outcome c.in-0.is) c.put_text.ensures

pub returns-in-1 : goal.returns-in-1
returns-in-1 c = rw (outcome_text_placed c.args.outcome c.in-1.is) c.put_text-in-1.ensures

pub returns-in-2 : goal.returns-in-2
returns-in-2 c = rw (outcome_text_waiting c.args.outcome c.in-2.is) c.put_text-in-2.ensures

pub returns-in-3 : goal.returns-in-3
returns-in-3 c = rw (outcome_text-not_tried c.args.outcome c.in-3.is) c.put_text-in-3.ensures

pub put_number-requires : goal.put_number-requires
put_number-requires c = omega (arith, c.requires, length-decimal 2 c.args.outcome (omega arith))

pub returns-in_default : goal.returns-in_default
returns-in_default c =
    rw (outcome_text_refusal c.args.outcome (λ e. omega arith) (λ e. omega arith) (λ e. omega arith)
    (λ e. omega arith)) c.put_number.ensures
