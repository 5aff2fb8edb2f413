-- Each arm makes the disk that it names, by the calls that it cites.
use Rattle.std.proofs.Common.{ap, ◌∙◌}
use Rattle.recovery_figures.specs.Listed.{three_written}
use Rattle.figures.specs.Drives.{disk_written_on, made_by}
use Rattle.figures.proofs.drives.make_by.Goals as goal

pub returns-in-Fresh : goal.returns-in-Fresh
unfolding made_by
returns-in-Fresh c = rw c.in-Fresh.is c.format_small.ensures

pub returns-in-Slot : goal.returns-in-Slot
unfolding made_by
returns-in-Slot c = rw c.in-Slot.is c.make_slot.ensures

pub returns-in-Three : goal.returns-in-Three
unfolding made_by
returns-in-Three c =
    rw c.in-Three.is (c.write_three.ensures ∙ ap three_written c.format_small-in-Three.ensures)

pub returns-in-Five : goal.returns-in-Five
unfolding made_by
returns-in-Five c = rw c.in-Five.is c.write_five.ensures

pub returns-in-Written : goal.returns-in-Written
unfolding made_by
returns-in-Written c =
    rw c.in-Written.is
    (c.write_times.ensures ∙ ap (disk_written_on c.in-Written.times 2) c.format_small-in-Written.ensures)

pub returns-in-Moved : goal.returns-in-Moved
unfolding made_by
returns-in-Moved c =
    rw c.in-Moved.is
    (c.write_times-in-Moved.ensures ∙ ap (disk_written_on c.in-Moved.times 0) c.format_drive.ensures.stored)
