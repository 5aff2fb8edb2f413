-- Counts, hidden outcome, head and stores, one after another, and a newline: each part has room for the most
-- that it may take.
use Rattle.std.proofs.Common.{arith}
use Rattle.script.proofs.Laws.ReportLines.{short, newline_inside, put_line}
use Rattle.script.proofs.reports.put_report.Goals as goal

pub put_outcome-after_outcome-requires : goal.put_outcome-after_outcome-requires
put_outcome-after_outcome-requires c =
    let a = c.args in
    let parts = short a.line a.answer a.rounds a.outcome a.head a.stores.now (omega arith) (omega arith)
    (omega arith) (omega arith) (omega arith) (λ index. (c.type_inv.stores index).fits) in
    let counts = c.put_counts-after_rounds in
    omega (arith, counts.auto.out, counts.ensures.ended, parts.counts_short)

pub put_field-after_head-requires : goal.put_field-after_head-requires
put_field-after_head-requires c =
    let a = c.args in
    let parts = short a.line a.answer a.rounds a.outcome a.head a.stores.now (omega arith) (omega arith)
    (omega arith) (omega arith) (omega arith) (λ index. (c.type_inv.stores index).fits) in
    let counts = c.put_counts-after_rounds in
    let fate = c.put_outcome-after_outcome in
    omega (
      arith,
      counts.auto.out,
      counts.ensures.ended,
      parts.counts_short,
      fate.auto.out,
      fate.ensures.ended,
      parts.outcome_short,
      parts.head_short,
    )

pub put_stores-last-requires : goal.put_stores-last-requires
put_stores-last-requires c =
    let a = c.args in
    let parts = short a.line a.answer a.rounds a.outcome a.head a.stores.now (omega arith) (omega arith)
    (omega arith) (omega arith) (omega arith) (λ index. (c.type_inv.stores index).fits) in
    let counts = c.put_counts-after_rounds in
    let fate = c.put_outcome-after_outcome in
    let head = c.put_field-after_head in
    omega (
      arith,
      counts.auto.out,
      counts.ensures.ended,
      parts.counts_short,
      fate.auto.out,
      fate.ensures.ended,
      parts.outcome_short,
      head.auto.out,
      head.ensures.ended,
      parts.head_short,
    )

pub bounds-out-last : goal.bounds-out-last
bounds-out-last c =
    let a = c.args in
    let parts = short a.line a.answer a.rounds a.outcome a.head a.stores.now (omega arith) (omega arith)
    (omega arith) (omega arith) (omega arith) (λ index. (c.type_inv.stores index).fits) in
    let counts = c.put_counts-after_rounds in
    let fate = c.put_outcome-after_outcome in
    let head = c.put_field-after_head in
    let list = c.put_stores-last in
    omega (
      arith,
      counts.auto.out,
      fate.auto.out,
      head.auto.out,
      list.auto.out,
      newline_inside a.line a.answer a.rounds a.outcome a.head a.stores.now a.out.now c.requires parts
          counts.new.out fate.new.out head.new.out list.new.out counts.result fate.result head.result
          list.result counts.ensures fate.ensures head.ensures list.ensures,
    )

pub overflow_add-result : goal.overflow_add-result
overflow_add-result c =
    let a = c.args in
    let parts = short a.line a.answer a.rounds a.outcome a.head a.stores.now (omega arith) (omega arith)
    (omega arith) (omega arith) (omega arith) (λ index. (c.type_inv.stores index).fits) in
    let counts = c.put_counts-after_rounds in
    let fate = c.put_outcome-after_outcome in
    let head = c.put_field-after_head in
    let list = c.put_stores-last in
    omega (
      arith,
      newline_inside a.line a.answer a.rounds a.outcome a.head a.stores.now a.out.now c.requires parts
          counts.new.out fate.new.out head.new.out list.new.out counts.result fate.result head.result
          list.result counts.ensures fate.ensures head.ensures list.ensures,
    )

pub returns : goal.returns
returns c =
    let a = c.args in
    let parts = short a.line a.answer a.rounds a.outcome a.head a.stores.now (omega arith) (omega arith)
    (omega arith) (omega arith) (omega arith) (λ index. (c.type_inv.stores index).fits) in
    let counts = c.put_counts-after_rounds in
    let fate = c.put_outcome-after_outcome in
    let head = c.put_field-after_head in
    let list = c.put_stores-last in
    put_line a.line a.answer a.rounds a.outcome a.head a.stores.now a.out.now c.requires parts
    counts.new.out fate.new.out head.new.out list.new.out counts.result fate.result head.result
    list.result counts.ensures fate.ensures head.ensures list.ensures
