-- `layout::entries::entry_at` meets its contract: the four bytes are those of the entry. Assumes nothing.
use mathlib.Core.Path.{sym, ◌∙◌}
use Rattle.model.proofs.Laws.Entries.{entry_at_bytes}
use Rattle.layout.proofs.entries.entry_at.Goals as goal

pub returns : goal.returns
returns c =
    c.number_of.ensures ∙ sym (entry_at_bytes c.args.bytes.now c.args.index c.requires)
