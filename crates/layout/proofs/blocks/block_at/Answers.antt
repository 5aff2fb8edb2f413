-- `layout::blocks::block_at` meets its contract: the block stands in the disk. Assumes nothing.
use Rattle.model.specs.Geometry.{block_count, block_width}
use Rattle.model.proofs.Laws.Blocks.{block_inside}
use Rattle.layout.specs.Geometries.{geometry_of}
use Rattle.layout.proofs.blocks.block_at.Goals as goal

pub lent_block-requires : goal.lent_block-requires
lent_block-requires c =
    let g = geometry_of c.args.g in
    block_inside (block_width g) c.args.disk.now (block_count g) c.requires.drive.whole c.args.address.0
    c.requires.address_bound
