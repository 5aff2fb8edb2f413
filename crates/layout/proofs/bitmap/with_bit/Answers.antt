-- `layout::bitmap::with_bit` meets its contract, by whether the bit is 1 and whether it is to be. Assumes
-- nothing.
use mathlib.Core.Bool.{true, false}
use mathlib.Core.Path.{◌≡◌, sym, ◌∙◌}
use native.Mathlib.Omega.{arith}
use Rattle.laws.proofs.Bits.{with_bit-set, with_bit-set_already, with_bit_clear, with_bit_clear_already}
use Rattle.laws.proofs.Bits.{weight_is, room_of_bit_of, weight_le_of_bit_of}
use Rattle.laws.specs.Bits.{bit_of}
use Rattle.layout.proofs.bitmap.with_bit.Goals as goal

pub overflow_sub-result : goal.overflow_sub-result
overflow_sub-result c =
    let set : bit_of c.args.place c.args.byte ≡ true =
    sym c.bit_of.ensures ∙ c.if-bit_of.true in
    let s = c.args in
    rw (weight_is s.place c.requires)
    (weight_le_of_bit_of s.place s.byte set)

pub overflow_add-result : goal.overflow_add-result
overflow_add-result c =
    let clear : bit_of c.args.place c.args.byte ≡ false =
    sym c.bit_of.ensures ∙ c.if-bit_of.false in
    let s = c.args in
    rw (weight_is s.place c.requires)
    (omega (
      arith,
      room_of_bit_of s.place s.byte c.requires (omega arith)
          clear,
    ))

pub returns-then-is_set : goal.returns-then-is_set
returns-then-is_set c =
    let set : bit_of c.args.place c.args.byte ≡ true =
    sym c.bit_of.ensures ∙ c.if-bit_of.true in
    let s = c.args in
    rw c.if-is_set.true (sym (with_bit-set_already s.place s.byte set))

pub returns-else-is_set : goal.returns-else-is_set
returns-else-is_set c =
    let set : bit_of c.args.place c.args.byte ≡ true =
    sym c.bit_of.ensures ∙ c.if-bit_of.true in
    let s = c.args in
    rw (c.if-is_set.false, weight_is s.place c.requires)
    (sym (with_bit_clear s.place s.byte set))

pub returns-then-is_set-2 : goal.returns-then-is_set-2
returns-then-is_set-2 c =
    let clear : bit_of c.args.place c.args.byte ≡ false =
    sym c.bit_of.ensures ∙ c.if-bit_of.false in
    let s = c.args in
    rw (c.if-is_set-2.true, weight_is s.place c.requires)
    (sym (with_bit-set s.place s.byte clear))

pub returns-else-is_set-2 : goal.returns-else-is_set-2
returns-else-is_set-2 c =
    let clear : bit_of c.args.place c.args.byte ≡ false =
    sym c.bit_of.ensures ∙ c.if-bit_of.false in
    let s = c.args in
    rw c.if-is_set-2.false (sym (with_bit_clear_already s.place s.byte clear))
