-- So many bytes of the piece are taken.
use Rattle.listing.specs.Listings.{listing_of}
use Rattle.listing.proofs.Laws.Pieces.{Taken}
use Rattle.listing.proofs.list_bytes.Given as goal

abbrev pub invariant-loop-byte : goal.invariant-loop-byte
invariant-loop-byte l =
    Taken (listing_of l.initial.current l.initial.buffer l.initial.disk) l.piece l.byte-index
    (listing_of l.current l.buffer l.disk)
