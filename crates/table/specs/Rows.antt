-- The choices and the row of `model` that declared ones say. Assumes nothing.
use Rattle.model.specs.Table as model
use Rattle.table.specs.declared.PublicChoice.{PublicChoice}
use Rattle.table.specs.declared.PublicChoice.TheVariants as public
use Rattle.table.specs.declared.HiddenChoice.{HiddenChoice}
use Rattle.table.specs.declared.HiddenChoice.TheVariants as hidden
use Rattle.table.specs.declared.Row.{Row}

abbrev pub public_of : PublicChoice → model.PublicChoice
public_of public.Keep = model.keep_public
public_of public.Write = model.write_public

abbrev pub hidden_of : HiddenChoice → model.HiddenChoice
hidden_of hidden.Keep = model.keep_hidden
hidden_of hidden.Place = model.place_hidden
hidden_of hidden.Fill = model.fill_hidden

abbrev pub table_row_of : Row → model.Row
table_row_of row = record { public = public_of row.public; hidden = hidden_of row.hidden }
