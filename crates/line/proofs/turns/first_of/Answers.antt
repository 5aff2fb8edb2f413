-- `first_of` meets its contract: the turn at the index. Assumes nothing.
use Rattle.std.proofs.Common.{◌≡◌, ◌∙◌, arith}
use Rattle.std.proofs.lemmas.Grind.{common_steps}
use Rattle.std.proofs.lemmas.Option.{gets}
use Rattle.std.specs.Prelude.{slice_get}
use Rattle.line.proofs.Laws.Turns.{first_at-offers_of}
use Rattle.line.proofs.turns.first_of.Goals as goal

pub returns : goal.returns
returns c =
    let there : c.copied.result ≡ slice_get c.args.turns.now c.args.placed =
    grind (arith, common_steps, gets) in
    there ∙ first_at-offers_of c.args.turns.now c.args.placed
