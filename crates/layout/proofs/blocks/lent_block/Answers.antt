-- `layout::blocks::lent_block` meets its contract: the block ends inside the lent bytes. Assumes nothing.
use mathlib.Core.Path.{◌≡◌, sym, ◌∙◌}
use Prim.Native.Nat.{◌+◌, ◌*◌, ◌-◌}
use native.Mathlib.Omega.{arith}
use Rattle.laws.proofs.Lists.{part_is}
use Rattle.model.proofs.Laws.Blocks.{block_at_is}
use Rattle.layout.proofs.blocks.lent_block.Goals as goal

pub returns : goal.returns
returns c =
    let s = c.args in
    let width = s.g.block_size in
    let from = s.index * width in
    let size : from + width - from ≡ width = omega arith in
    rw size (sym (block_at_is width s.lent.now s.index ∙ part_is from width s.lent.now))
