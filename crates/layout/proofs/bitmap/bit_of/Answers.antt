-- `layout::bitmap::bit_of` meets its contract: a shift to the right is a division. Assumes nothing.
use Rattle.laws.proofs.Bits.{bit_of_is}
use Rattle.layout.proofs.bitmap.bit_of.Goals as goal

pub returns : goal.returns
returns c = rw bit_of_is
