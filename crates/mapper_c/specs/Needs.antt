-- What a write takes now, as the mapper counts it. Assumes nothing.
use Rattle.std.specs.Prelude.{ℕ}
use Rattle.model.specs.Blocks.{Bytes}
use Rattle.model.specs.Needs.{needs_of}
use Rattle.answers_c.specs.declared.needs.Needs.{Needs}
use Rattle.answers_c.specs.Needs.{needs_said}

-- what a write of a public number takes now
abbrev pub needed_write : (disk : Bytes) → (number : ℕ) → Needs
needed_write disk number = needs_said (needs_of disk number)
