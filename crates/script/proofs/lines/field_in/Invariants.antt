-- The bytes that were passed are digits, and the value is the number that they spell.
use Rattle.script.proofs.Laws.Digits.{Digits}
use Rattle.script.proofs.lines.field_in.Given as goal

abbrev pub invariant-loop-byte : goal.invariant-loop-byte
invariant-loop-byte l = Digits l.bytes l.value l.byte-index
