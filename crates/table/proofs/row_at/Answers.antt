-- `row_at` meets its contract: at each of the eight ways the constant holds the row of `model`'s table, by
-- the rule. Assumes nothing.
use mathlib.Core.Path.{◌≡◌, refl, sym, ap, ◌∙◌}
use mathlib.Core.Bool.{Bool, true, false}
use mathlib.Core.List.{List, [], ◌∷◌}
use Prim.Native.Nat.{ℕ}
use lib.ListN.{get_or}
use Rattle.model.specs.Table.{row_index}
use Rattle.model.proofs.Laws.Table.{ruled_row, row_at_ruled}
use Rattle.table.specs.declared.PublicChoice.{PublicChoice}
use Rattle.table.specs.declared.PublicChoice.TheVariants as public
use Rattle.table.specs.declared.HiddenChoice.{HiddenChoice}
use Rattle.table.specs.declared.HiddenChoice.TheVariants as hidden
use Rattle.table.specs.declared.Row.{Row}
use Rattle.table.specs.Rows.{table_row_of}
use Rattle.table.proofs.row_at.Goals as goal

abbrev row : PublicChoice → HiddenChoice → Row
row public hidden = record { public = public; hidden = hidden }

-- the constant
abbrev rows : List Row
rows =
    row public.Write hidden.Fill ∷ row public.Write hidden.Keep ∷
    row public.Keep hidden.Fill ∷ row public.Keep hidden.Keep ∷
    row public.Write hidden.Place ∷ row public.Write hidden.Keep ∷
    row public.Keep hidden.Place ∷ row public.Keep hidden.Keep ∷ []

rows-ruled :
    (is_waiting is_allocated is_live : Bool) →
    table_row_of (get_or rows (row_index is_waiting is_allocated is_live) (row public.Keep hidden.Keep)) ≡
    ruled_row is_waiting is_allocated is_live
rows-ruled false false false = refl
rows-ruled false false true = refl
rows-ruled false true false = refl
rows-ruled false true true = refl
rows-ruled true false false = refl
rows-ruled true false true = refl
rows-ruled true true false = refl
rows-ruled true true true = refl

pub returns : goal.returns
returns c =
    let start = c.args in
    ap (λ (index : ℕ). table_row_of (get_or rows index (row public.Keep hidden.Keep)))
    c.row_index-index.ensures.0
    ∙ rows-ruled start.is_waiting start.is_allocated start.is_live
    ∙ sym (row_at_ruled start.is_waiting start.is_allocated start.is_live)
