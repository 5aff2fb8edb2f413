-- One write, its rounds, and whether it told that one waits.
use Rattle.std.proofs.Common.{eqb, arith}
use Rattle.wait_figures.proofs.Laws.Carries.{carried_more, from_bool_most}
use Rattle.wait_figures.proofs.carries.carry_more.Goals as goal

pub returns-clause-made : goal.returns-clause-made
returns-clause-made c =
    carried_more c.args.carried c.write_with-made.ensures c.line_written_as-told.ensures
    c.left_after-left.ensures c.from.ensures c.from-2.ensures

pub returns-clause-few : goal.returns-clause-few
returns-clause-few c =
    let one = from_bool_most (eqb c.line_written_as-told.result.outcome 2) in
    λ times few. record {
      rounds_few = omega (arith, few.rounds_few, c.from.ensures);
      waits_few = omega (arith, few.waits_few, c.from-2.ensures, one);
    }
