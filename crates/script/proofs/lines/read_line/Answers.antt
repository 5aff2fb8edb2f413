-- The line is split at its first space, and each part is a field.
use Rattle.std.proofs.Common.{◌+◌, length, sym, ap, ap₂, ◌∙◌, arith}
use Rattle.script.specs.Lines.{field_in, line_from}
use Rattle.laws.proofs.Lists.{take-drop}
use Rattle.script.proofs.Laws.Lines.{split_at_first, line_in_split, line_in_whole}
use Rattle.script.proofs.lines.read_line.Goals as goal

pub returns-in_err-space : goal.returns-in_err-space
returns-in_err-space c =
    let bytes = c.args.bytes.now in
    rw c.from_residual.ensures
    (sym (line_in_whole bytes (length bytes)
    (split_at_first bytes (length bytes) (omega arith) c.in_err-space.ensures (λ h. absurd (omega arith)))
    (omega arith)))

pub returns : goal.returns
returns c =
    let bytes = c.args.bytes.now in
    let at = c.in_ok-space.space in
    let first = c.in_ok-space.ensures in
    c.line_from.ensures ∙ ap₂ line_from c.field_in-first.ensures
    (c.field_in-second.ensures ∙ ap field_in (take-drop (at + 1) bytes))
    ∙ sym (line_in_split bytes at (split_at_first bytes at (omega arith) first.2 (λ h. first.1)))
