-- No write, one write more, and all of them.
use Rattle.std.proofs.Common.{◌≡◌, ℕ, ◌+◌, refl, ap, ◌∙◌, add-one, arith}
use Rattle.model.specs.Blocks.{Bytes}
use Rattle.wait_figures.specs.Offers.{offer_written, offers_written}
use Rattle.wait_figures.proofs.offers.write_offers.Goals as goal

-- one write more
written_more :
    {disk after : Bytes} (i number : ℕ) (start : Bytes) → disk ≡ offers_written i number start →
    after ≡ offer_written number disk → after ≡ offers_written (i + 1) number start
unfolding offers_written
written_more i number start so_far more = rw add-one (more ∙ ap (offer_written number) so_far)

pub loop-i-init : goal.loop-i-init
unfolding offers_written
loop-i-init c = refl

pub loop-i-preserved : goal.loop-i-preserved
loop-i-preserved c =
    written_more c.loop-i._i c.args.number c.args.disk.now c.loop-i.invariant c.write_offer.ensures.stored

pub returns : goal.returns
returns c =
    let all : c.loop-i._i ≡ c.args.times = omega arith in
    c.loop-i.invariant ∙ ap (λ (n : ℕ). offers_written n c.args.number c.args.disk.now) all
