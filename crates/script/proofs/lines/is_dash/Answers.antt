-- Equal to the list of one dash.
use Rattle.std.proofs.Common.{ap, sym, ◌∙◌, nat_eq}
use lib.Pointwise.{pointwise}
use Rattle.script.proofs.Laws.Lines.{is_dash_equal}
use Rattle.script.proofs.lines.is_dash.Goals as goal

pub returns : goal.returns
returns c =
    c.eq.ensures ∙ ap (pointwise nat_eq c.args.bytes.now) c.as_slice.ensures
    ∙ sym (is_dash_equal c.args.bytes.now)
