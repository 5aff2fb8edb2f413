-- When a recovery of a drive with other map entries agrees with the model. Assumes nothing.
use Rattle.std.specs.Prelude.{Bool, ◌&&◌, eqb, take, replicate}
use Rattle.laws.specs.Lists.{over}
use Rattle.model.specs.Blocks.{Bytes, set_entry}
use Rattle.model.specs.Calls.{formatted}
use Rattle.model.specs.Promises.Figures.{small}
use Rattle.recovery_model.specs.Recovery.{recovered, recovery_refusal}
use Rattle.recovery_figures.specs.Tells.{bits_told}
use Rattle.recovery_figures.specs.declared.maps.MapRow.{MapRow}

-- formatted, with this head, these map entries, and every bit of the bitmap set
unfoldable pub map_made : MapRow → (disk : Bytes) → Bytes
map_made row disk =
    over 64 (replicate 32 255)
    (set_entry 11 row.4 (set_entry 10 row.3 (set_entry 9 row.2
    (set_entry 8 row.1 (set_entry 5 row.0 (formatted disk small))))))

-- the answer, and the bitmap after it
unfoldable pub map_told : MapRow → (disk : Bytes) → Bool
map_told row disk =
    eqb row.6 (recovery_refusal disk) && bits_told row.7 row.8 (recovered disk)

-- the first so many bytes of the drive, on zeros
unfoldable pub map_agrees : MapRow → Bool
map_agrees row = map_told row (take row.5 (map_made row (replicate 512 0)))
