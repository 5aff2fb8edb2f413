-- `store_block` meets its contract: the block lies inside the disk, and copying it there is one store.
-- Assumes nothing.
use native.Mathlib.Omega.{arith}
use Rattle.stores.proofs.Laws.Made.{made_one}
use Rattle.stores.proofs.blocks.store_block.Goals as goal

pub returns : goal.returns
returns c =
    made_one c.args.g.block_size c.args.address.0 c.args.block.now
    c.args.disk.now
    c.copy_at.new.target c.args.list.now c.args.next (omega arith)
    c.copy_at.ensures
