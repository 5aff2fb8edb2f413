-- The disk is formatted, and nothing is read.
use Rattle.listing.proofs.progress.begin.Goals as goal

pub returns : goal.returns
returns c = λ buffer. rw c.format_drive.ensures.stored
