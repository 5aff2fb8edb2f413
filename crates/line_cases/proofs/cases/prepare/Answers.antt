-- The drive is made, then the writes with an empty line, then those with the line that is said.
use Rattle.line_cases.proofs.Laws.Cases.{case_prepared}
use Rattle.line_cases.proofs.cases.prepare.Goals as goal

pub returns : goal.returns
returns c =
    case_prepared c.args.start c.args.disk.now c.make_drive.ensures c.no_line.ensures c.carry.ensures
    c.line_by.ensures c.carry-2.ensures
