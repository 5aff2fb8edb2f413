-- The reads before and after the write are those of the row's case and of what the write leaves of it.
use Rattle.line_figures.proofs.Laws.Writes.{written_on}
use Rattle.line_figures.proofs.writes.write_on.Goals as goal

pub returns : goal.returns
returns c =
    written_on c.args.row c.min-number.result c.write_with-made.ensures c.line_written_as.ensures
    c.left_after-left.ensures c.print_reads-seen.ensures c.print_made-told.ensures
    c.print_stored-stored.ensures c.print_kept-kept.ensures c.print_reads-shown.ensures c.args.disk.now
    c.prepare-line.ensures c.min-number.ensures
