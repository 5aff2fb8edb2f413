-- The rule of the table of eight rows, tested over all of it by one computation: a valid block is always
-- kept; else the public block takes the call's data, and the hidden blocks the waiting write, or random
-- bytes. Assumes nothing.
use mathlib.Core.Path.{◌≡◌, refl}
use mathlib.Core.Bool.{Bool, true, false, cond}
use mathlib.Core.List.{List, [], ◌∷◌}
use lib.ListN.{get_or}
use Rattle.model.specs.Table.{Row, row, keep_public, write_public, keep_hidden, place_hidden, fill_hidden}
use Rattle.model.specs.Table.{table, row_index, row_at}

-- a row by the rule
abbrev pub ruled_row : (is_waiting is_allocated is_live : Bool) → Row
ruled_row is_waiting is_allocated is_live =
    row (cond is_allocated keep_public write_public) (cond is_live keep_hidden
    (cond is_waiting place_hidden fill_hidden))

-- the eight rows by the rule, in the table's order
abbrev ruled_rows : List Row
ruled_rows =
    ruled_row false false false ∷ ruled_row false false true ∷ ruled_row false true false ∷
    ruled_row false true true ∷
    ruled_row true false false ∷ ruled_row true false true ∷ ruled_row true true false ∷
    ruled_row true true true ∷ []

table_ruled : table ≡ ruled_rows
unfolding table
table_ruled = refl

pub row_at_ruled : (is_waiting is_allocated is_live : Bool) →
    row_at is_waiting is_allocated is_live ≡ ruled_row is_waiting is_allocated is_live
unfolding row_at
row_at_ruled is_waiting is_allocated is_live = rw table_ruled (at is_waiting is_allocated is_live)
  where
    at : (w a l : Bool) → get_or ruled_rows (row_index w a l) (row keep_public keep_hidden) ≡ ruled_row w a l
    at false false false = refl
    at false false true = refl
    at false true false = refl
    at false true true = refl
    at true false false = refl
    at true false true = refl
    at true true false = refl
    at true true true = refl
