-- Where a block stands, as C is told: what is found, in the fields of the C struct. Assumes nothing.
use Rattle.reads.specs.Finds.{Find, refused_find, blank_find, block_find}
use Rattle.line_calls.specs.Finds.{LineFind, drive_find, lent_find}
use Rattle.answers_c.specs.declared.finds.Found.{Found}

-- kind 0: refused; kind 1: never placed, so the caller's blank; kind 2: the block at an address
abbrev pub found_of : Find → Found
found_of (refused_find fault) = record { answer = fault; kind = 0; address = 0 }
found_of blank_find = record { answer = 0; kind = 1; address = 0 }
found_of (block_find address) = record { answer = 0; kind = 2; address = address }

-- kind 3: the block at a place among the lent blocks
abbrev pub found_line_of : LineFind → Found
found_line_of (drive_find find) = found_of find
found_line_of (lent_find place) = record { answer = 0; kind = 3; address = place }
