-- The case of the eight writes, and the entry put.
use Rattle.std.proofs.Common.{ap, ◌∙◌}
use Rattle.figure_lines.specs.Counts.{puts_said}
use Rattle.wait_figures.proofs.drives.make_live.Goals as goal

pub returns : goal.returns
returns c = c.put_said.ensures ∙ ap (puts_said c.args.put) c.prepare.ensures.disk_is
