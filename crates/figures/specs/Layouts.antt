-- When a row of a geometry agrees with the model. Assumes nothing.
use Rattle.std.specs.Prelude.{Bool, ◌&&◌, cond, ℕ, eqb, ltb, take, replicate, get_or}
use Rattle.model.specs.Geometry.{Geometry, is_geometry, area_start}
use Rattle.model.specs.Blocks.{Bytes}
use Rattle.model.specs.Layout.{bit_place}
use Rattle.model.specs.Refusals.{format_refusal}
use Rattle.model.specs.Calls.{formatted}
use Rattle.model.specs.Promises.Figures.{geometry}
use Rattle.questions.specs.Drives.{Size, size_for}
use Rattle.figures.specs.declared.layouts.SizeRow.{SizeRow}
use Rattle.figures.specs.declared.layouts.FormatRow.{FormatRow}

-- ---- sizes ----

abbrev pub start_of : Geometry → ℕ
start_of g = cond (is_geometry g) (area_start g) 0

abbrev pub place_of : Geometry → (slot : ℕ) → ℕ
place_of g slot = cond (is_geometry g) (cond (ltb slot g.slots) (bit_place g slot) 0) 0

-- the size, the start of the data area and the place of a slot's bit
abbrev pub laid_agrees : SizeRow → Size → (start place : ℕ) → Bool
laid_agrees row size start place =
    eqb row.6 size.answer && eqb row.7 size.blocks && eqb row.8 size.bytes &&
    eqb row.9 start && eqb row.10 place

unfoldable pub size_agrees : SizeRow → Bool
size_agrees row =
    let g = geometry row.0 row.1 row.2 row.3 row.4 in
    laid_agrees row (size_for g) (start_of g) (place_of g row.5)

-- ---- formatting ----

-- the answer, and a byte after it
abbrev pub formatted_agrees : (disk : Bytes) → Geometry → (index answer value : ℕ) → Bool
formatted_agrees disk g index answer value =
    eqb answer (format_refusal disk g) && eqb value (get_or (formatted disk g) index 256)

unfoldable pub format_agrees : FormatRow → Bool
format_agrees row =
    formatted_agrees (take row.5 (replicate 5696 170))
    (geometry row.0 row.1 row.2 row.3 row.4) row.6 row.7 row.8
