-- The blocks that are lent are the three.
use Rattle.line_cases.proofs.Laws.Cases.{written_with_lem}
use Rattle.line_cases.proofs.cases.write_with.Goals as goal

pub returns : goal.returns
returns c = written_with_lem c.args.number c.three_blocks-blocks.ensures c.write_line.ensures
