-- A number below ten is one digit, and a larger one is its tenth and its last digit.
use Rattle.std.proofs.Common.{arith}
use Rattle.script.proofs.Laws.Decimals.{decimal_fits-small, decimal_fits_large, put_small, put_large}
use Rattle.script.proofs.texts.+put_number.Goals as goal

pub bounds-out-at : goal.bounds-out-at
bounds-out-at t c = decimal_fits-small c.args.value c.args.out.now c.args.at c.requires c.if-value-lt10.true

pub returns-then-value-lt10 : goal.returns-then-value-lt10
returns-then-value-lt10 t c = put_small c.args.value c.args.out.now c.args.at c.requires c.if-value-lt10.true

pub put_number-last-requires : goal.put_number-last-requires
put_number-last-requires t c =
    let fits = decimal_fits_large c.args.value c.args.out.now c.args.at c.requires c.if-value-lt10.false in
    (omega (arith, c.decreases), omega (arith, fits))

pub bounds-out-last : goal.bounds-out-last
bounds-out-last t c =
    let fits = decimal_fits_large c.args.value c.args.out.now c.args.at c.requires c.if-value-lt10.false in
    omega (arith, c.put_number-last.auto.out, c.put_number-last.ensures.ended, fits)

pub overflow_add-result-2 : goal.overflow_add-result-2
overflow_add-result-2 t c =
    let fits = decimal_fits_large c.args.value c.args.out.now c.args.at c.requires c.if-value-lt10.false in
    omega (arith, c.put_number-last.ensures.ended, fits)

pub returns : goal.returns
returns t c =
    let put = c.put_number-last in
    put_large c.args.value c.args.out.now c.args.at c.requires c.if-value-lt10.false put.new.out put.result
    put.ensures
