-- A line ends at its newline; the other two ways need no answer.
use Rattle.script.proofs.Laws.Feeding.{feed_newline}
use Rattle.script.proofs.feeding.feed_line.Goals as goal

pub returns-then-byte-eq10 : goal.returns-then-byte-eq10
returns-then-byte-eq10 c =
    feed_newline c.args.buffer.now c.args.held c.args.byte c.requires c.if-byte-eq10.true
