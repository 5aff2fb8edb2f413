-- The listing begins at line 1 on the disk that is formatted, and the law of whole inputs says what its steps
-- print.
use Rattle.std.proofs.Common.{refl, ap}
use Rattle.listing.specs.Listings.{Listing}
use Rattle.listing.proofs.Laws.Steps.{lent_again}
use Rattle.listing.proofs.Laws.Inputs.{printed_is-listing}
use Rattle.listing.proofs.run_listing.Goals as goal

pub list_input-requires-clause-line_value : goal.list_input-requires-clause-line_value
list_input-requires-clause-line_value c =
    ap (λ (l : Listing). l.line) (c.begin-progress.ensures c.args.buffer.now)

pub list_input-requires-clause-lent : goal.list_input-requires-clause-lent
list_input-requires-clause-lent c =
    lent_again c.requires.lent refl c.begin-progress.auto.disk c.print_heading.auto.out

pub returns-clause-led : goal.returns-clause-led
returns-clause-led c = rw (c.begin-progress.ensures c.args.buffer.now) at c.list_input.ensures

pub returns-clause-whole : goal.returns-clause-whole
returns-clause-whole c = printed_is-listing
