-- Both reads are compared.
use Rattle.line_figures.specs.Writes.{reads_agree}
use Rattle.line_figures.proofs.writes.print_reads.Goals as goal

pub returns : goal.returns
unfolding reads_agree
returns c = rw (c.print_read-zero.ensures, c.print_read-one.ensures)
