-- `recovery::bits::clear_bits` meets its contract: the bitmap's blocks end inside the disk. Assumes nothing.
use mathlib.Core.Path.{◌∙◌}
use Rattle.layout.specs.Geometries.{geometry_of}
use Rattle.recovery.proofs.Laws.Marks.{bits_cleared}
use Rattle.recovery.proofs.bits.clear_bits.Goals as goal

pub returns : goal.returns
returns c =
    c.clear_at.ensures
    ∙ bits_cleared (geometry_of c.args.g) c.args.disk.now c.requires
    c.map_blocks.result
    c.bitmap_blocks.result c.map_blocks.ensures c.bitmap_blocks.ensures
