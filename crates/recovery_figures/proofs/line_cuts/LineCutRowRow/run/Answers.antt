-- The write is cut on the drive, and what is left is recovered.
use Rattle.std.proofs.Common.{◌≡◌, Bool, ◌&&◌, ap, ◌∙◌}
use Rattle.model.specs.Blocks.{Bytes}
use Rattle.recovery_model.specs.Cuts.{cut_disk}
use Rattle.recovery_figures.specs.Listed.{five_drive}
use Rattle.recovery_figures.specs.declared.line_cuts.LineCutRow.{LineCutRow}
use Rattle.recovery_figures.specs.LineCuts.{line_pulled_on, line_cut_told, line_mended_told}
use Rattle.recovery_figures.specs.LineCuts.{line_cut_holds, line_cut_agrees}
use Rattle.recovery_figures.proofs.line_cuts.LineCutRowRow.run.Goals as goal

-- what is told of the cut, and of what it leaves
row_agrees :
    {drive torn : Bytes} {told mended : Bool} (row : LineCutRow) → drive ≡ five_drive →
    told ≡ line_cut_told row drive → torn ≡ cut_disk row.0 (line_pulled_on drive) drive →
    mended ≡ line_mended_told row torn → (told && mended) ≡ line_cut_agrees row
unfolding line_cut_agrees
row_agrees {drive} row drive_is told_is torn_is mended_is =
    rw (told_is, mended_is)
    (ap (λ (left : Bytes). line_cut_told row drive && line_mended_told row left) torn_is
    ∙ ap (line_cut_holds row) drive_is)

pub returns : goal.returns
returns c =
    row_agrees c.args.self c.five_lines-disk.ensures c.tell_line_cut-told.ensures.told
    c.tell_line_cut-told.ensures.stored c.tell_line_mended-mended.ensures
