-- `save_lent` meets its contract: the part in front is the line's. Assumes nothing.
use Rattle.std.proofs.Common.{ℕ, ◌∙◌, ap, take, arith}
use Rattle.laws.specs.Lists.{over}
use Rattle.lent_line.specs.Lent.{saved_offers}
use Rattle.lent_line.proofs.Laws.Parts.{front_over}
use Rattle.lent_line.proofs.save_lent.Goals as goal

pub returns : goal.returns
unfolding saved_offers
returns c =
    let a = c.args in
    rw c.copy_from_slice.ensures.after (front_over a.held.offers a.line.now c.most_of-most.result
    (omega arith))
    ∙ ap (λ (n : ℕ). over 0 (take n a.held.offers) a.line.now) c.most_of-most.ensures
