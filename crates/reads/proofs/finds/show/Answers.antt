-- `reads::finds::show` meets its contract: nothing, the blank, or the block at the address, which is on the
-- drive. Assumes nothing.
use mathlib.Core.Path.{◌≡◌, ap, subst, ◌∙◌}
use Rattle.std.specs.Prelude.{Option, Some, Result, Ok}
use Rattle.model.proofs.Laws.Refusals.{long_enough, drive_read}
use Rattle.layout.specs.declared.numbers.DiskAddress.{DiskAddress}
use Rattle.layout.specs.declared.refusals.Refusal.{Refusal}
use Rattle.layout.specs.Geometries.{geometry_of}
use Rattle.reads.specs.Finds.{find_of, OnDrive, BlockInside}
use Rattle.reads.proofs.finds.show.Goals.{In-Ok-Some}
use Rattle.reads.proofs.finds.show.Goals as goal

-- the block that is found is on the drive
on_drive : (c : In-Ok-Some) → OnDrive c.args.disk.now c.in-Ok-Some.address.0
on_drive c =
    let is-some : c.in-Ok-Some.field-0 ≡ Some c.in-Ok-Some.address =
    rw c.in-Ok-Some.is at c.in-Ok-Some.field-0-is in
    subst (λ (find : Result (Option DiskAddress) Refusal). BlockInside (find_of find) c.args.disk.now)
    (c.in-Ok-Some.is ∙ ap Ok is-some) c.requires

pub geometry_in-requires : goal.geometry_in-requires
geometry_in-requires c =
    long_enough c.args.disk.now (on_drive (goal.at.geometry_in-requires c).In-Ok-Some).accepted

pub block_at-requires-clause-drive : goal.block_at-requires-clause-drive
block_at-requires-clause-drive c =
    let read = c.geometry_in in
    drive_read c.args.disk.now (on_drive (goal.at.block_at-requires-clause-drive c).In-Ok-Some).accepted
    (geometry_of read.result) read.ensures
