-- What lies in the line is compared with what is said.
use Rattle.std.proofs.Common.{ap, ◌∙◌}
use Rattle.line.specs.Offers.{line_of}
use Rattle.line_cases.specs.Offers.{same_line}
use Rattle.line_cases.proofs.lents.print_lent.Goals as goal

pub returns : goal.returns
returns c = c.print_lines.ensures ∙ ap (same_line (line_of c.args.said)) c.lent_after.ensures.line_is
