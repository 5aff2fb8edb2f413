-- `layout::entries::put_entry` meets its contract: four bytes set make an entry, and no store changes the
-- length. Assumes nothing.
use Rattle.model.proofs.Laws.Entries.{set_entry_bytes}
use Rattle.layout.proofs.entries.put_entry.Goals as goal

pub returns : goal.returns
returns c = set_entry_bytes c.args.bytes.now c.args.index c.args.value c.requires
