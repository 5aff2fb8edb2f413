-- When a write with a line that is cut, and the recovery after it, agree with the model. Assumes nothing.
use Rattle.std.specs.Prelude.{Bool, ◌&&◌, ◌++◌, eqb, length, replicate}
use Rattle.model.specs.Blocks.{Bytes}
use Rattle.model.specs.Table.{digit}
use Rattle.model.specs.Calls.{Written, in_line, written}
use Rattle.model.specs.Promises.Figures.{filled}
use Rattle.recovery_model.specs.Cuts.{cut_trace, is_cut, cut_disk}
use Rattle.recovery_model.specs.Recovery.{recovered, recovery_refusal}
use Rattle.line.specs.declared.offers.Line.{Line}
use Rattle.line.specs.Offers.{line_of}
use Rattle.mapper.specs.Within.{line_within}
use Rattle.line_cases.specs.Offers.{line_said}
use Rattle.recovery_figures.specs.Listed.{five_drive}
use Rattle.recovery_figures.specs.Tells.{hidden_first}
use Rattle.recovery_figures.specs.declared.line_cuts.LineCutRow.{LineCutRow}

-- ---- the write ----

abbrev pub two_blocks : Bytes
two_blocks = filled 8 ++ filled 9

-- hidden 0 with the first of them, then hidden 1 with the second
abbrev pub zero_one : Line
zero_one = line_said 8591048704

-- data 8 to public 0 with that line
abbrev pub line_pulled_on : (disk : Bytes) → Written
line_pulled_on disk =
    written disk 0 (filled 8) (replicate 256 165) 23 (in_line two_blocks (line_of zero_one))

-- how many stores are made, whether some are left out, and how many still wait
unfoldable pub line_cut_told : LineCutRow → (disk : Bytes) → Bool
line_cut_told row disk =
    let result = line_pulled_on disk in
    eqb row.1 (length (cut_trace row.0 result)) && eqb (digit row.2) (digit (is_cut row.0 result)) &&
    eqb row.3 (length (line_within row.0 result disk two_blocks (line_of zero_one)))

-- ---- the recovery ----

-- its answer, and what is shown then
abbrev pub line_mended_told : LineCutRow → (disk : Bytes) → Bool
line_mended_told row disk =
    eqb 0 (recovery_refusal disk) && eqb row.4 (hidden_first 0 (recovered disk)) &&
    eqb row.5 (hidden_first 1 (recovered disk))

-- ---- a row ----

abbrev pub line_cut_holds : LineCutRow → (disk : Bytes) → Bool
line_cut_holds row disk =
    line_cut_told row disk && line_mended_told row (cut_disk row.0 (line_pulled_on disk) disk)

unfoldable pub line_cut_agrees : LineCutRow → Bool
line_cut_agrees row = line_cut_holds row five_drive
