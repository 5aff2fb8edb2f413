-- `read_entry` meets its contract: the entry stands inside the node. Assumes nothing.
use Rattle.std.proofs.Common.{length, ap, ◌∙◌, arith}
use Rattle.model.specs.Geometry.{block_count, block_width}
use Rattle.model.proofs.Laws.Blocks.{length-block_at}
use Rattle.layout.specs.Geometries.{geometry_of}
use Rattle.tree_check.proofs.nodes.read_entry.Goals as goal

pub entry_at-requires : goal.entry_at-requires
entry_at-requires c =
    let g = geometry_of c.args.g in
    omega (
      arith,
      c.requires.drive.fits.size_entries,
      ap length c.block_at.ensures
          ∙ length-block_at (block_width g) c.args.disk.now (block_count g) c.requires.drive.whole
          c.args.node.0 c.requires.node_lt,
    )
