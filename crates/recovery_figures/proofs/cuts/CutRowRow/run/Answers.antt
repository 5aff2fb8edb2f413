-- The write is cut on the drive, and what is left is recovered.
use Rattle.std.proofs.Common.{◌≡◌, Bool, ◌&&◌, ap, ◌∙◌}
use Rattle.model.specs.Blocks.{Bytes}
use Rattle.recovery_model.specs.Cuts.{cut_disk}
use Rattle.recovery_figures.specs.Listed.{five_drive}
use Rattle.recovery_figures.specs.declared.cuts.CutRow.{CutRow}
use Rattle.recovery_figures.specs.Cuts.{pulled_on, cut_told, mended_told, cut_holds, cut_agrees}
use Rattle.recovery_figures.proofs.cuts.CutRowRow.run.Goals as goal

-- what is told of the cut, and of what it leaves
row_agrees :
    {drive torn : Bytes} {told mended : Bool} (row : CutRow) → drive ≡ five_drive →
    told ≡ cut_told row (pulled_on drive 23) → torn ≡ cut_disk row.0 (pulled_on drive 23) drive →
    mended ≡ mended_told row torn → (told && mended) ≡ cut_agrees row
unfolding cut_agrees
row_agrees {drive} row drive_is told_is torn_is mended_is =
    rw (told_is, mended_is)
    (ap (λ (left : Bytes). cut_told row (pulled_on drive 23) && mended_told row left) torn_is
    ∙ ap (cut_holds row) drive_is)

pub returns : goal.returns
returns c =
    row_agrees c.args.self c.five_lines-disk.ensures c.tell_cut-told.ensures.told
    c.tell_cut-told.ensures.stored c.tell_mended-mended.ensures
