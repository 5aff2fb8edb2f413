-- The line is carried along on the drive, and two figures are compared.
use Rattle.wait_figures.proofs.Laws.Carries.{carried_agrees}
use Rattle.wait_figures.proofs.carries.CarryRowRow.run.Goals as goal

pub returns : goal.returns
returns c =
    carried_agrees c.args.self c.carry_until-carried.result c.live_drive-disk.ensures c.line_by-line.ensures
    c.carry_until-carried.ensures c.print_figure-ran.ensures c.print_count-told.ensures
