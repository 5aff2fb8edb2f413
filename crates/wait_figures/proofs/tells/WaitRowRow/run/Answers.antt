-- What is asked is the first so many bytes of the drive.
use Rattle.std.proofs.Common.{take, ap, ◌∙◌}
use Rattle.wait_figures.specs.Tells.{wait_holds, wait_agrees}
use Rattle.wait_figures.proofs.tells.WaitRowRow.run.Goals as goal

pub returns : goal.returns
unfolding wait_agrees
returns c =
    let row = c.args.self in
    c.ask_wait.ensures ∙ ap (wait_holds row) (c.part_of.ensures ∙ ap (take row.1) c.live_drive-disk.ensures)
