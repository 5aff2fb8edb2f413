-- When an offer that is made with each write fares as its row says. Assumes nothing.
use Rattle.std.specs.Prelude.{Bool, true, None, ℕ, zero, suc, eqb, replicate}
use Rattle.model.specs.Blocks.{Bytes}
use Rattle.model.specs.Calls.{Written, written, written_disk, outcome_number}
use Rattle.model.specs.Promises.Figures.{filled}
use Rattle.mapper.specs.Writes.{call_offer}
use Rattle.wait_figures.specs.Drives.{live_drive}
use Rattle.wait_figures.specs.declared.offers.OfferRow.{OfferRow}

-- a write of bytes 7 to number 0 with an offer of bytes 9, random bytes 165 and a list of 23
abbrev pub offered : (number : ℕ) → (disk : Bytes) → Written
offered number disk =
    written disk 0 (filled 7) (replicate 256 165) 23 (call_offer true number (filled 9))

abbrev pub offer_told : (number : ℕ) → (disk : Bytes) → ℕ
offer_told number disk = outcome_number (offered number disk).outcome

abbrev pub offer_written : (number : ℕ) → (disk : Bytes) → Bytes
offer_written number disk = written_disk (offered number disk) disk

-- so many of them
unfoldable pub offers_written : (times number : ℕ) → (disk : Bytes) → Bytes
offers_written zero number disk = disk
offers_written (suc times) number disk = offer_written number (offers_written times number disk)

unfoldable pub offer_agrees : OfferRow → Bool
offer_agrees row =
    eqb row.2 (offer_told row.0 (offers_written row.1 row.0 (live_drive None)))
