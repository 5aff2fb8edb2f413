-- What was read is a front of the piece, or the input has ended.
use Rattle.std.proofs.Common.{sym, ap, ◌∙◌, ne_eqb, arith, length-take}
use Rattle.laws.proofs.Cases.{cond_false}
use Rattle.listing.specs.Listings.{Listing, listing_of}
use Rattle.listing.proofs.Laws.Steps.{line_after_end}
use Rattle.listing.proofs.list_piece.Goals as goal

pub returns-then-count-eq0-clause-fed : goal.returns-then-count-eq0-clause-fed
returns-then-count-eq0-clause-fed c = record { count = 0; fed = c.list_end.ensures.stands }

pub returns-then-count-eq0-clause-line_bound : goal.returns-then-count-eq0-clause-line_bound
returns-then-count-eq0-clause-line_bound c =
    let a = c.args in
    let start = listing_of a.progress a.buffer.now a.disk.now in
    omega (arith, ap (λ (l : Listing). l.line) c.list_end.ensures.stands, line_after_end start)

pub returns-clause-fed : goal.returns-clause-fed
returns-clause-fed c =
    let count = c.read_bytes-count.result in
    record {
      count = count;
      fed = c.list_bytes.ensures.disk_after ∙ sym (cond_false _ _ (ne_eqb count 0 c.if-count-eq0.false));
    }

pub returns-clause-line_bound : goal.returns-clause-line_bound
returns-clause-line_bound c =
    let read = c.read_bytes-count in
    omega (arith, c.list_bytes.ensures.line_bound, length-take read.result read.new.piece, read.auto.piece)
