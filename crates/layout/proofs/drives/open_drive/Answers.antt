-- `layout::drives::open_drive` meets its contract: one law for each way through the tests, for the geometry
-- that the header states. Assumes nothing.
use mathlib.Core.Path.{◌≡◌, sym, ap, ◌∙◌}
use Prim.Native.Nat.{◌≤◌, ◌<◌}
use native.Mathlib.Omega.{arith}
use lib.ListN.{length}
use Rattle.model.specs.Geometry.{Geometry}
use Rattle.model.specs.Blocks.{Bytes}
use Rattle.model.specs.Layout.{geometry_in, head_in}
use Rattle.model.specs.Refusals.{size_refusal}
use Rattle.layout.specs.Geometries.{geometry_of}
use Rattle.model.proofs.Laws.Refusals.{drive_read, drive_short, drive_sized, drive_good, drive_head}
use Rattle.layout.proofs.Laws.Refusals.{refusal-some, handed_on}
use Rattle.layout.specs.Refusals.{refusal_number}
use Rattle.layout.proofs.drives.open_drive.Goals as goal

pub returns-then-bytes-lt24 : goal.returns-then-bytes-lt24
returns-then-bytes-lt24 c =
    record {
      fault_is = drive_short c.args.disk.now c.if-bytes-lt24.true;
      fault_some = λ z. omega arith;
    }

pub returns-in_err-check_size : goal.returns-in_err-check_size
returns-in_err-check_size c =
    let disk_of : Bytes =
    c.args.disk.now in
    let fault = c.in_err-check_size.field-0.0 in
    let told : refusal_number fault ≡ size_refusal (length disk_of) (geometry_in disk_of) =
    c.in_err-check_size.ensures ∙ ap (size_refusal (length disk_of)) c.geometry_in-g.ensures in
    rw (handed_on c.from_residual.ensures.1)
    (record {
      fault_is = drive_sized disk_of (refusal_number fault) told (refusal-some fault);
      fault_some = refusal-some fault;
    })

pub returns-then-head_in-g : goal.returns-then-head_in-g
returns-then-head_in-g c =
    let disk_of : Bytes =
    c.args.disk.now in
    let accepted : size_refusal (length disk_of) (geometry_in disk_of) ≡ 0 =
    sym (c.in_ok-check_size.ensures ∙ ap (size_refusal (length disk_of)) c.geometry_in-g.ensures) in
    let slots : c.geometry_in-g.result.slots ≡ (geometry_in disk_of).slots =
    ap (λ (g : Geometry). g.slots) c.geometry_in-g.ensures in
    let disk = disk_of in
    let read = c.geometry_in-g in
    let inside : head_in disk < (geometry_in disk).slots =
    omega (arith, c.head_in.ensures, slots, c.if-head_in-g.true) in
    let good = sym (drive_good disk accepted inside) in
    record {
      accepted = good;
      same = read.ensures;
      drive = drive_read disk good (geometry_of read.result) read.ensures;
    }

pub returns : goal.returns
returns c =
    let disk_of : Bytes =
    c.args.disk.now in
    let accepted : size_refusal (length disk_of) (geometry_in disk_of) ≡ 0 =
    sym (c.in_ok-check_size.ensures ∙ ap (size_refusal (length disk_of)) c.geometry_in-g.ensures) in
    let slots : c.geometry_in-g.result.slots ≡ (geometry_in disk_of).slots =
    ap (λ (g : Geometry). g.slots) c.geometry_in-g.ensures in
    let disk = disk_of in
    let outside : (geometry_in disk).slots ≤ head_in disk =
    omega (arith, c.head_in.ensures, slots, c.if-head_in-g.false) in
    record { fault_is = drive_head disk accepted outside; fault_some = λ z. omega arith }
