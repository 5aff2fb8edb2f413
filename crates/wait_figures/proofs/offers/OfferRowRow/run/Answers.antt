-- The write after so many with the same offer, on the drive.
use Rattle.std.proofs.Common.{eqb, ap, ◌∙◌}
use Rattle.wait_figures.specs.Offers.{offer_told, offers_written, offer_agrees}
use Rattle.wait_figures.proofs.offers.OfferRowRow.run.Goals as goal

pub returns : goal.returns
unfolding offer_agrees
returns c =
    let row = c.args.self in
    c.print_count.ensures
    ∙ ap (eqb row.2) (c.write_offer-outcome.ensures.told
    ∙ ap (offer_told row.0) (c.write_offers.ensures
    ∙ ap (offers_written row.1 row.0) c.live_drive-disk.ensures))
