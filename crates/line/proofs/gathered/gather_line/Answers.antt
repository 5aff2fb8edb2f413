-- `gather_line` meets its contract: an offer more is pushed, or the runs have ended. Assumes nothing.
use Rattle.std.proofs.Common.{[], ◌∷◌, ◌<◌, ◌∙◌, take, length, arith, rules}
use Rattle.std.proofs.lemmas.List.{length-take, length-append, get_or-take}
use Rattle.std.proofs.lemmas.Slice.Zip.{zip_turn, zip_end}
use Rattle.line.proofs.Laws.Gathered.{gathering_next, gathered_all}
use Rattle.line.proofs.gathered.gather_line.Goals as goal

pub loop-number-preserved : goal.loop-number-preserved
loop-number-preserved c =
    let a = c.args in
    let at = c.loop-number in
    let most = c.min-most.result in
    let i = length at.yielded in
    let turn = zip_turn (take most a.numbers.now) a.places.now at.yielded c.into_iter-number-iterator.result
    at.number-iterator c.next.new.self c.next.result (search rules) (search rules) at.yielded_by
    (c.in-Some.number, c.in-Some.place) c.in-Some.is c.next.ensures.steps in
    let low : i < most = omega (arith, turn.0, length-take most a.numbers.now) in
    rw (c.add_offer.ensures, length-append at.yielded ((c.in-Some.number, c.in-Some.place) ∷ []))
    (gathering_next a.numbers.now a.places.now at.line i at.invariant _ (omega arith) (omega arith) turn.1
    (turn.2 0 ∙ get_or-take most a.numbers.now i 0 low) (turn.3 0))

pub returns : goal.returns
returns c =
    let a = c.args in
    let at = c.loop-number in
    let most = c.min-most.result in
    let end = zip_end (take most a.numbers.now) a.places.now at.yielded c.into_iter-number-iterator.result
    at.number-iterator c.next.new.self c.next.result (search rules) (search rules) at.yielded_by c.in-None.is
    c.next.ensures.steps in
    gathered_all a.numbers.now a.places.now at.line (length at.yielded) at.invariant a.waiting
    (omega (arith, end, length-take most a.numbers.now, c.min.ensures, c.min-most.ensures))
