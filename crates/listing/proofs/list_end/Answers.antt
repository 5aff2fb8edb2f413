-- What is put ends inside the buffer, and `print_front` answers its whole length.
use Rattle.std.proofs.Common.{arith}
use Rattle.listing.proofs.Laws.Steps.{put_inside, step-printed}
use Rattle.listing.proofs.list_end.Goals as goal

pub print_front-put-requires : goal.print_front-put-requires
print_front-put-requires c =
    let step = c.step_end-last in
    omega (arith, put_inside step.ensures.put step.auto.out)

pub returns : goal.returns
returns c = step-printed c.step_end-last.ensures c.print_front-put.ensures
