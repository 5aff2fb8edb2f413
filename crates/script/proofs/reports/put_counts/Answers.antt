-- Three fields, one after another, in no more than 36 bytes.
use Rattle.std.proofs.Common.{arith}
use Rattle.script.specs.Reports.{field}
use Rattle.script.proofs.Laws.Texts.{put_three}
use Rattle.script.proofs.Laws.Reports.{length_counts}
use Rattle.script.proofs.reports.put_counts.Goals as goal

pub put_field-after_line-requires : goal.put_field-after_line-requires
put_field-after_line-requires c =
    let a = c.args in
    omega (arith, length_counts a.line a.answer a.rounds (omega arith) (omega arith) (omega arith))

pub put_field-after_answer-requires : goal.put_field-after_answer-requires
put_field-after_answer-requires c =
    let a = c.args in
    let one = c.put_field-after_line in
    omega (
      arith,
      length_counts a.line a.answer a.rounds (omega arith) (omega arith) (omega arith),
      one.auto.out,
      one.ensures.ended,
    )

pub put_field-requires : goal.put_field-requires
put_field-requires c =
    let a = c.args in
    let one = c.put_field-after_line in
    let two = c.put_field-after_answer in
    omega (
      arith,
      length_counts a.line a.answer a.rounds (omega arith) (omega arith) (omega arith),
      one.auto.out,
      one.ensures.ended,
      two.auto.out,
      two.ensures.ended,
    )

pub returns : goal.returns
returns c =
    let a = c.args in
    let one = c.put_field-after_line in
    let two = c.put_field-after_answer in
    put_three (field a.line) (field a.answer) (field a.rounds) a.out.now 0 one.new.out two.new.out
    c.put_field.new.out one.result two.result c.put_field.result
    (omega (arith, length_counts a.line a.answer a.rounds (omega arith) (omega arith) (omega arith)))
    one.ensures two.ensures c.put_field.ensures
