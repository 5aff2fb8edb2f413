-- `formatting::format_drive` meets its contract: a refusal leaves the disk, and the header written
-- over zeros is the front of a fresh drive. Assumes nothing.
use mathlib.Core.Path.{sym, ap, ◌∙◌}
use Prim.Native.Nat.{ℕ, ◌*◌, ◌≤◌}
use native.Mathlib.Omega.{arith}
use lib.ListN.{length, replicate}
use Rattle.laws.specs.Lists.{over}
use Rattle.model.specs.Blocks.{packed}
use Rattle.model.proofs.Laws.Refusals.{Sized, sized_of_refusal}
use Rattle.model.proofs.Laws.Formatting.{formatted_refused, formatted_is}
use Rattle.model.proofs.Laws.Headers.{area_start_inside, header_over_zeros}
use Rattle.layout.specs.Geometries.{geometry_of}
use Rattle.layout.proofs.Laws.Refusals.{refusal-some}
use Rattle.formatting.specs.Headers.{header_entries}
use Rattle.formatting.proofs.format_drive.Goals.{In_ok-check_size}
use Rattle.formatting.proofs.format_drive.Goals as goal

pub returns-in_err-check_size-clause-stored : goal.returns-in_err-check_size-clause-stored
returns-in_err-check_size-clause-stored c =
    sym (formatted_refused c.args.disk.now (geometry_of c.args.geometry)
    (λ e. refusal-some c.in_err-check_size.field-0.0 (c.in_err-check_size.ensures ∙ e)))

-- the disk is as long as a drive of the geometry
sized : (c : In_ok-check_size) → Sized (length c.args.disk.now) (geometry_of c.args.geometry)
sized c =
    sized_of_refusal (length c.args.disk.now) (geometry_of c.args.geometry) (sym c.in_ok-check_size.ensures)

pub area_start-start-requires : goal.area_start-start-requires
area_start-start-requires c = (sized (goal.at.area_start-start-requires c).In_ok-check_size).fits

pub clear_at-requires : goal.clear_at-requires
clear_at-requires c =
    let whole = sized (goal.at.clear_at-requires c).In_ok-check_size in
    let front : c.area_start-start.result.0 * c.args.geometry.block_size ≤ length c.args.disk.now =
    rw c.area_start-start.ensures
    (area_start_inside (geometry_of c.args.geometry) whole.fits c.args.disk.now
    (record { fits = whole.fits; whole = whole.whole })) in
    omega (arith, front)

pub put_header-requires : goal.put_header-requires
put_header-requires c =
    let whole = sized (goal.at.put_header-requires c).In_ok-check_size in
    omega (arith, whole.long, c.clear_at.auto.target)

pub returns-clause-stored : goal.returns-clause-stored
returns-clause-stored c =
    let disk = c.args.disk.now in
    let g = geometry_of c.args.geometry in
    let zeros =
    ap (λ (n : ℕ). over 0 (replicate (n * g.block_size) 0) disk) c.area_start-start.ensures in
    c.put_header.ensures
    ∙ ap (over 0 (packed (header_entries g))) (c.clear_at.ensures ∙ zeros)
    ∙ header_over_zeros g (sized (goal.at.returns-clause-stored c).In_ok-check_size).fits disk
    ∙ sym (formatted_is disk g (sym c.in_ok-check_size.ensures))
