-- When what the call tells of the drive agrees with the model. Assumes nothing.
use Rattle.std.specs.Prelude.{Bool, ◌&&◌, eqb, take}
use Rattle.model.specs.Blocks.{Bytes}
use Rattle.questions.specs.Waits.{Wait, wait_in}
use Rattle.figure_lines.specs.Counts.{entry_or}
use Rattle.wait_figures.specs.Drives.{live_drive}
use Rattle.wait_figures.specs.declared.tells.WaitRow.{WaitRow}

-- the head, and what the call tells
abbrev pub wait_told : WaitRow → (disk : Bytes) → Wait → Bool
wait_told row disk wait =
    eqb row.2 (entry_or 5 disk) && eqb row.3 wait.answer && eqb row.4 wait.rounds

abbrev pub wait_holds : WaitRow → (disk : Bytes) → Bool
wait_holds row disk = wait_told row disk (wait_in disk)

unfoldable pub wait_agrees : WaitRow → Bool
wait_agrees row = wait_holds row (take row.1 (live_drive row.0))
