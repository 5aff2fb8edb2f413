-- One name that opens every definition of lists, numbers, bits and checks, for figures that are computed.
-- Assumes nothing.
use Rattle.laws.specs.Checks.{first_of}
use Rattle.laws.specs.Lists.{part, over}
use Rattle.laws.specs.Numbers.{number_of, little_endian}
use Rattle.laws.specs.Bits.{bit_of, with_bit, bit_at, set_bit}
use Rattle.laws.proofs.Lists.{is_same}

-- to unfold it is to unfold all that its own line names
unfoldable pub computing_bytes : Type 0
unfolding is_same first_of part over number_of little_endian bit_of with_bit bit_at set_bit
computing_bytes = Unit {0}
