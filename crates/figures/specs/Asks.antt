-- When what a drive is asked agrees with the model. Assumes nothing.
use Rattle.std.specs.Prelude.{Bool, ◌&&◌, ℕ, eqb, get_or, take, replicate}
use Rattle.model.specs.Blocks.{Bytes}
use Rattle.model.specs.Refusals.{public_read_refusal, hidden_read_refusal}
use Rattle.model.specs.Calls.{public_read, hidden_read}
use Rattle.model.specs.Needs.{Needed, needs_of}
use Rattle.questions.specs.Drives.{Identity, identity_in}
use Rattle.figures.specs.Drives.{row_drive, small_drive, lent_of}
use Rattle.figures.specs.declared.asks.IdentityRow.{IdentityRow}
use Rattle.figures.specs.declared.asks.ReadRow.{ReadRow}
use Rattle.figures.specs.declared.asks.Volume.{Volume}
use Rattle.figures.specs.declared.asks.Volume.TheVariants.{Public, Hidden}
use Rattle.figures.specs.declared.asks.NeedsRow.{NeedsRow}

-- ---- which drive it is ----

abbrev pub identity_told : IdentityRow → Identity → Bool
identity_told row told =
    eqb row.3 told.answer && eqb row.4 told.geometry.block_size &&
    eqb row.5 told.geometry.height && eqb row.6 told.geometry.publics &&
    eqb row.7 told.geometry.hidden && eqb row.8 told.geometry.slots &&
    eqb row.9 told.head

unfoldable pub identity_agrees : IdentityRow → Bool
identity_agrees row = identity_told row (identity_in (lent_of (row_drive row.0 row.1) row.2))

-- ---- reads ----

abbrev pub read_refusal : Volume → (disk : Bytes) → (number : ℕ) → (blank : Bytes) → ℕ
read_refusal Public disk number blank = public_read_refusal disk number blank
read_refusal Hidden disk number blank = hidden_read_refusal disk number blank

abbrev pub read_of : Volume → (disk : Bytes) → (number : ℕ) → (blank : Bytes) → Bytes
read_of Public disk number blank = public_read disk number blank
read_of Hidden disk number blank = hidden_read disk number blank

-- the refusal, and the first byte shown, 256 where there is none
abbrev pub tells_read : ReadRow → (disk : Bytes) → Bool
tells_read row disk =
    let blank : Bytes = take row.5 (replicate 33 9) in
    eqb row.6 (read_refusal row.3 disk row.4 blank) &&
    eqb row.7 (get_or (read_of row.3 disk row.4 blank) 0 256)

unfoldable pub read_agrees : ReadRow → Bool
read_agrees row = tells_read row (lent_of (row_drive row.0 row.1) row.2)

-- ---- what a write takes ----

abbrev pub needs_told : NeedsRow → Needed → Bool
needs_told row needed =
    eqb row.3 needed.answer && eqb row.4 needed.rounds && eqb row.5 needed.stores &&
    eqb row.6 needed.random_blocks

unfoldable pub needs_agrees : NeedsRow → Bool
needs_agrees row = needs_told row (needs_of (small_drive (row_drive row.0 row.1)) row.2)
