-- What a write that is cut came to, as C is told. Assumes nothing.
use Rattle.std.specs.Prelude.{cond}
use Rattle.mapper.specs.Cuts.{CutAnswer}
use Rattle.answers_c.specs.declared.cuts.Cut.{Cut}

-- the mapper's numbers, and 1 where stores are left out
abbrev pub cut_said : CutAnswer → Cut
cut_said told = record { answer = told.answer; stores = told.stores; cut = cond told.is_cut 1 0 }
