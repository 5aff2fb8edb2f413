-- A word or a number, and one byte after it.
use Rattle.std.proofs.Common.{arith}
use Rattle.script.specs.Texts.{space}
use Rattle.script.specs.Reports.{outcome_text}
use Rattle.script.proofs.Laws.Texts.{put_snoc}
use Rattle.script.proofs.Laws.Reports.{length-outcome_text}
use Rattle.script.proofs.reports.put_outcome.Goals as goal

pub bounds-out-last : goal.bounds-out-last
bounds-out-last c =
    let put = c.put_word-last in
    omega (arith, put.auto.out, put.ensures.ended, length-outcome_text c.args.outcome (omega arith))

pub overflow_add-result : goal.overflow_add-result
overflow_add-result c =
    omega (arith, c.put_word-last.ensures.ended, length-outcome_text c.args.outcome (omega arith))

pub returns : goal.returns
returns c =
    let put = c.put_word-last in
    put_snoc (outcome_text c.args.outcome) c.args.out.now c.args.at put.new.out put.result put.ensures
    (omega (arith, length-outcome_text c.args.outcome (omega arith))) space
