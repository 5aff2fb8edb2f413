-- What a public number's entry may be where 6 does not meet it. Assumes nothing.
use Rattle.std.specs.Prelude.{◌≡◌, true, ◌⊎◌}
use Rattle.model.specs.Geometry.{Geometry}
use Rattle.model.specs.Blocks.{DiskAddress}
use Rattle.model.specs.Layout.{is_slot_block}

-- 0, or block A of one of the slots
abbrev pub OldEntry : Geometry → (entry : DiskAddress) → Type 0
OldEntry g entry = (entry ≡ 0) ⊎ (is_slot_block g 0 entry ≡ true)
