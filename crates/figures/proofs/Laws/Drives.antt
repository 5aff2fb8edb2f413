-- What is lent of a drive. Assumes nothing.
use mathlib.Core.Path.{◌≡◌, ap, ◌∙◌}
use Prim.Native.Nat.{ℕ}
use lib.ListN.{take}
use Rattle.model.specs.Blocks.{Bytes}
use Rattle.figures.specs.declared.drives.Drive.{Drive}
use Rattle.figures.specs.Drives.{small_drive, lent_of}

pub lent_is :
    {part disk : Bytes} {drive other : Drive} (bytes : ℕ) →
    part ≡ take bytes disk → disk ≡ small_drive drive → drive ≡ other → part ≡ lent_of other bytes
lent_is bytes part_is disk_is drive-is = part_is ∙ ap (take bytes) (disk_is ∙ ap small_drive drive-is)
