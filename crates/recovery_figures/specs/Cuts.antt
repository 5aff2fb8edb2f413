-- When a write with an offer that is cut, and the recovery after it, agree with the model. Assumes nothing.
use Rattle.std.specs.Prelude.{Bool, ◌&&◌, List, [], ◌∷◌, ℕ, eqb, length, take, replicate}
use Rattle.model.specs.Blocks.{Bytes, DiskAddress}
use Rattle.model.specs.Table.{digit}
use Rattle.model.specs.Refusals.{public_read_refusal}
use Rattle.model.specs.Calls.{Written, written}
use Rattle.model.specs.Promises.Figures.{filled}
use Rattle.model.specs.Promises.Limits.{one_offer}
use Rattle.recovery_model.specs.Cuts.{cut_trace, is_cut, cut_disk, cut_list}
use Rattle.recovery_model.specs.Recovery.{recovered, recovery_refusal}
use Rattle.figure_lines.specs.Counts.{is_listed}
use Rattle.recovery_figures.specs.Listed.{five_drive}
use Rattle.recovery_figures.specs.Tells.{public_first, hidden_first, bits_told}
use Rattle.recovery_figures.specs.declared.cuts.CutRow.{CutRow}

-- ---- the write ----

-- data 8 to public 0, and hidden 0, data 8, offered, with a list of so much room
abbrev pub pulled_on : (disk : Bytes) → (room : ℕ) → Written
pulled_on disk room = written disk 0 (filled 8) (replicate 256 165) room (one_offer 0 8)

-- all its stores
abbrev pub cut_stores : List DiskAddress
cut_stores = 7 ∷ 8 ∷ 9 ∷ 3 ∷ 0 ∷ 10 ∷ 11 ∷ 12 ∷ 3 ∷ 0 ∷ 13 ∷ 14 ∷ 15 ∷ 3 ∷ 1 ∷ 2 ∷ 0 ∷ []

-- how many stores are made, whether some are left out, and the list
unfoldable pub cut_told : CutRow → Written → Bool
cut_told row result =
    eqb row.1 (length (cut_trace row.0 result)) && eqb (digit row.2) (digit (is_cut row.0 result)) &&
    is_listed (take row.0 cut_stores) (cut_list row.0 result (replicate 23 99))

-- ---- the recovery ----

-- what both volumes show, and the bitmap
abbrev pub shown_told : CutRow → (disk : Bytes) → Bool
shown_told row disk =
    eqb row.4 (public_first 0 disk) && eqb row.5 (hidden_first 0 disk) && bits_told row.6 row.7 disk

-- the refusal before it, its answer, and what is shown then
abbrev pub mended_told : CutRow → (disk : Bytes) → Bool
mended_told row disk =
    eqb row.3 (public_read_refusal disk 0 (filled 0)) && eqb 0 (recovery_refusal disk) &&
    shown_told row (recovered disk)

-- ---- a row ----

abbrev pub cut_holds : CutRow → (disk : Bytes) → Bool
cut_holds row disk =
    cut_told row (pulled_on disk 23) && mended_told row (cut_disk row.0 (pulled_on disk 23) disk)

unfoldable pub cut_agrees : CutRow → Bool
cut_agrees row = cut_holds row five_drive
