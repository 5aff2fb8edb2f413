-- `-`, none or too many bytes, a byte that is no digit, and the number that digits spell.
use Rattle.std.proofs.Common.{sym, ap, ◌∙◌, arith}
use mathlib.Core.Logic.{⊎_elim}
use Rattle.script.specs.Lines.{number}
use Rattle.script.proofs.Laws.Digits.{digits_none, digits_more, digits_all, digits_value}
use Rattle.script.proofs.Laws.Digits.{digits_room, is_digits_other}
use Rattle.script.proofs.Laws.Lines.{field_in-dash, field_in_number, field_in_other, is_number_empty}
use Rattle.script.proofs.Laws.Lines.{is_number_long, is_number_letter, is_number_digits}
use Rattle.script.proofs.lines.field_in.Goals as goal

pub returns-then-is_dash : goal.returns-then-is_dash
returns-then-is_dash c = sym (field_in-dash c.args.bytes.now (sym c.is_dash.ensures ∙ c.if-is_dash.true))

pub returns-then-len-eq0 : goal.returns-then-len-eq0
returns-then-len-eq0 c =
    let bytes = c.args.bytes.now in
    sym (field_in_other bytes (sym c.is_dash.ensures ∙ c.if-is_dash.false)
    (⊎_elim (is_number_empty bytes) (λ long. is_number_long bytes long.1) c.then-len-eq0.either))

pub loop-byte-init : goal.loop-byte-init
loop-byte-init c = digits_none c.args.bytes.now

pub returns-then-not-is_ascii_digit : goal.returns-then-not-is_ascii_digit
returns-then-not-is_ascii_digit c =
    let bytes = c.args.bytes.now in
    sym (field_in_other bytes (sym c.is_dash.ensures ∙ c.if-is_dash.false)
    (is_number_letter bytes
    (is_digits_other bytes c.loop-byte.byte-index c.loop-byte-test.true
    (sym c.is_ascii_digit.ensures.value ∙ c.if-not-is_ascii_digit.true))))

pub overflow_mul-value : goal.overflow_mul-value
overflow_mul-value c =
    let at = c.loop-byte in
    omega (
      arith,
      digits_room c.args.bytes.now at.value at.byte-index at.invariant (omega (arith, c.loop-byte-test.true)),
    )

pub overflow_add-value : goal.overflow_add-value
overflow_add-value c =
    let at = c.loop-byte in
    omega (
      arith,
      digits_room c.args.bytes.now at.value at.byte-index at.invariant (omega (arith, c.loop-byte-test.true)),
    )

pub loop-byte-preserved : goal.loop-byte-preserved
loop-byte-preserved c =
    let at = c.loop-byte in
    digits_more c.args.bytes.now at.value at.byte-index at.invariant c.loop-byte-test.true
    c.if-not-is_ascii_digit.ensures.cases.0 c.if-not-is_ascii_digit.ensures.cases.1

pub returns : goal.returns
returns c =
    let bytes = c.args.bytes.now in
    let at = c.loop-byte in
    ap number (digits_value bytes at.value at.byte-index at.invariant c.loop-byte-test.false)
    ∙ sym (field_in_number bytes (sym c.is_dash.ensures ∙ c.if-is_dash.false)
    (is_number_digits bytes c.if-len-eq0.false c.if-len-gt-MOST_DIGITS.false
    (digits_all bytes at.value at.byte-index at.invariant c.loop-byte-test.false)))
