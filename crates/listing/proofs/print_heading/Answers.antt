-- The heading ends inside the buffer, and `print_front` answers its whole length.
use Rattle.std.proofs.Common.{arith}
use Rattle.listing.proofs.Laws.Steps.{put_inside}
use Rattle.listing.proofs.print_heading.Goals as goal

pub print_front-requires : goal.print_front-requires
print_front-requires c =
    let heading = c.put_heading-put in
    omega (arith, put_inside heading.ensures heading.auto.out)

pub returns : goal.returns
returns c = rw c.print_front.ensures c.put_heading-put.ensures
