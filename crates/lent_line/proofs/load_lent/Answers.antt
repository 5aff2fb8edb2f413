-- `load_lent` meets its contract: one offer more is pushed, and in the end all that is handed over. Assumes
-- nothing.
use Rattle.std.proofs.Common.{ℕ, ◌∙◌, ap, take, arith}
use Rattle.line.specs.Offers.{no_line}
use Rattle.lent_line.specs.Lent.{pushed_all, loaded_line}
use Rattle.lent_line.proofs.Laws.Parts.{pushed_all_none, pushed_all_more, pushed_all_whole}
use Rattle.lent_line.proofs.load_lent.Goals as goal

pub loop-offer-init : goal.loop-offer-init
loop-offer-init c = c.no_line-loaded.ensures ∙ pushed_all_none (take c.most_of.result c.args.line.now) no_line

pub loop-offer-preserved : goal.loop-offer-preserved
loop-offer-preserved c =
    let at = c.loop-offer in
    c.push_offer-loaded.ensures
    ∙ rw at.invariant
    (pushed_all_more (take c.most_of.result c.args.line.now) no_line at.offer-index (omega arith))

pub returns : goal.returns
unfolding loaded_line
returns c =
    let at = c.loop-offer in
    at.invariant
    ∙ pushed_all_whole (take c.most_of.result c.args.line.now) no_line at.offer-index (omega arith)
    ∙ ap (λ (n : ℕ). pushed_all (take n c.args.line.now) no_line) c.most_of.ensures
