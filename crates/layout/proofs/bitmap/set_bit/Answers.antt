-- `layout::bitmap::set_bit` meets its contract. Assumes nothing.
use mathlib.Core.Path.{ap}
use Prim.Native.Nat.{ℕ, ◌/◌}
use lib.ListN.{set}
use Rattle.laws.proofs.Bits.{set_bit_is}
use Rattle.layout.proofs.bitmap.set_bit.Goals as goal

pub returns : goal.returns
returns c =
    let s = c.args in
    rw set_bit_is (ap (λ (byte : ℕ). set s.block.now (s.place / 8) byte) c.with_bit.ensures)
