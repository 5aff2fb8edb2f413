-- Some input leads here, and no turn has more lines than its piece has bytes and one.
use Rattle.listing.specs.Listings.{listing_of}
use Rattle.listing.proofs.Laws.Pieces.{PieceTurned}
use Rattle.listing.proofs.list_input.Given as goal

abbrev pub invariant-loop : goal.invariant-loop
invariant-loop l =
    PieceTurned (listing_of l.initial.current l.initial.buffer l.initial.disk) l.counter
    (listing_of l.current l.buffer l.disk)
