-- `layout::bitmap::bit_at` meets its contract. Assumes nothing.
use Rattle.laws.proofs.Bits.{bit_at_is}
use Rattle.layout.proofs.bitmap.bit_at.Goals as goal

pub returns : goal.returns
returns c = rw bit_at_is c.bit_of.ensures
