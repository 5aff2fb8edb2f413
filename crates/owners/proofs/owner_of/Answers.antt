-- `owner_of` meets its contract: the leaf is A + 1, and its last entry stands inside it. Assumes nothing.
use mathlib.Core.Path.{sym, ap, ◌∙◌}
use Prim.Native.Nat.{ℕ, ◌-◌}
use native.Mathlib.Omega.{arith}
use lib.ListN.{length}
use Rattle.model.specs.Geometry.{block_count, fanout, block_width}
use Rattle.model.specs.Blocks.{block_at, entry_at}
use Rattle.model.proofs.Laws.Geometry.{fanout_low}
use Rattle.model.proofs.Laws.Blocks.{length-block_at}
use Rattle.model.proofs.Laws.Slots.{level_address_lt}
use Rattle.model.proofs.Laws.Owners.{owner_of_is}
use Rattle.layout.specs.Geometries.{geometry_of}
use Rattle.owners.proofs.owner_of.Goals as goal

pub entry_at-requires : goal.entry_at-requires
entry_at-requires c =
    let g = geometry_of c.args.g in
    omega (
      arith,
      ap length c.block_at-leaf.ensures
          ∙ length-block_at (block_width g) c.args.disk.now (block_count g) c.requires.drive.whole
          c.level_address.result.0
          (omega (
            arith,
            c.level_address.ensures,
            level_address_lt g c.args.slot 1 c.requires.slot_lt_slots
                (omega (arith, c.requires.drive.fits.height_low)),
          )),
      c.requires.drive.fits.size_entries,
      fanout_low g c.requires.drive.fits,
    )

pub returns : goal.returns
returns c =
    let g = geometry_of c.args.g in
    let disk = c.args.disk.now in
    c.entry_at.ensures
    ∙ ap (λ (n : ℕ). entry_at (n - 1) c.block_at-leaf.result.now) c.fanout.ensures
    ∙ ap (entry_at (fanout g - 1))
    (c.block_at-leaf.ensures ∙ ap (block_at (block_width g) disk) c.level_address.ensures)
    ∙ sym (owner_of_is g disk c.args.slot)
