-- Laws of a write under a cut (document 02, K5): after any of its stores the disk is a drive of the same
-- geometry, and with all of them it is the whole write. Assumes nothing.
use mathlib.Core.Path.{◌≡◌, refl, ap}
use mathlib.Core.List.{List}
use Prim.Native.Nat.{ℕ, ◌≤◌}
use lib.ListN.{length}
use lib.Seq.{take_all}
use Rattle.laws.specs.Lists.{over}
use Rattle.laws.proofs.Members.{all_take}
use Rattle.model.specs.Geometry.{block_width}
use Rattle.model.specs.Blocks.{Bytes, DiskAddress}
use Rattle.model.specs.Layout.{geometry_in}
use Rattle.model.specs.Stores.{Trace, apply, addresses}
use Rattle.model.specs.Refusals.{drive_refusal}
use Rattle.model.specs.Calls.{Offered, Written, written, written_disk, written_list}
use Rattle.model.proofs.Laws.HeaderStores.{DriveOf, KeepsDrive, drive_of-apply, written_keeps}
use Rattle.recovery_model.specs.Cuts.{cut_trace, cut_disk, cut_list}

pub drive_of-cut_disk :
    (disk : Bytes) → drive_refusal disk ≡ 0 → (number : ℕ) (content random : Bytes) (room : ℕ)
    (offer : Offered) (bound : ℕ) →
    DriveOf (geometry_in disk) (cut_disk bound (written disk number content random room offer) disk)
drive_of-cut_disk disk accepted number content random room offer bound =
    let result = written disk number content random room offer in
    drive_of-apply (cut_trace bound result)
    (all_take (KeepsDrive (geometry_in disk)) bound result.trace
    (written_keeps disk number content random room offer))
    (record { geometry = refl; accepted = accepted })

-- all stores are made
pub cut_all :
    (disk : Bytes) (list : List DiskAddress) (result : Written) (bound : ℕ) → length result.trace ≤ bound →
    (cut_disk bound result disk ≡ written_disk result disk) ×
    (cut_list bound result list ≡ written_list result list)
cut_all disk list result bound h =
    let all : cut_trace bound result ≡ result.trace = take_all bound result.trace h in (
      ap (λ (trace : Trace). apply (block_width (geometry_in disk)) trace disk) all,
      ap (λ (trace : Trace). over 0 (addresses trace) list) all,
    )
