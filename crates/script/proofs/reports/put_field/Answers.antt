-- A number, and one byte after it.
use Rattle.std.proofs.Common.{[], ◌∷◌, arith, length-append}
use Rattle.script.specs.Texts.{space, decimal}
use Rattle.script.proofs.Laws.Texts.{put_snoc}
use Rattle.script.proofs.reports.put_field.Goals as goal

pub returns : goal.returns
returns c =
    let put = c.put_number-last in
    put_snoc (decimal c.args.value) c.args.out.now c.args.at put.new.out put.result put.ensures
    (omega (arith, c.requires, length-append (decimal c.args.value) (space ∷ []))) space
