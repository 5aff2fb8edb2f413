-- `turns_of` meets its contract: an offer more is a turn where it is the first of its number and good.
-- Assumes nothing.
use Rattle.std.proofs.Common.{◌≡◌, length, arith}
use Rattle.layout.specs.Geometries.{geometry_of}
use Rattle.line.proofs.Laws.Counting.{counting_start, counting_end}
use Rattle.line.proofs.Laws.Counting.{counting_again, counting_bad, counting_good}
use Rattle.line.proofs.turns.turns_of.Goals as goal
use Rattle.line.proofs.turns.turns_of.Goals.{then-first+then-good, else-first}
use Rattle.line.proofs.turns.turns_of.Goals.{else-first-via-then-first+else-good, else-first-via-else-first}

pub loop-i-init : goal.loop-i-init
loop-i-init c = rw c.no_line-turns.ensures (counting_start _ _ _)

pub loop-i-preserved : goal.loop-i-preserved
loop-i-preserved c =
    let a = c.args in
    let g = geometry_of a.g in
    let offers = c.waiting_offers-offers in
    let at = c.loop-i in
    let found = c.find_number in
    let told = c.check_offer in
    elim c.if-first.branch [
      | then-first+then-good w ↦
          rw (w.turns-is, w.push_offer-turns.ensures) (
          counting_good g a.lent offers.result.now a.line offers.ensures at.turns at.i at.invariant
          (omega arith) found.result found.ensures w.if-first.ensures told.result told.ensures
          w.if-good.ensures.value)
      | else-first w ↦
          rw w.turns-is (elim w.else-first.branch [
            | else-first-via-then-first+else-good v ↦
                counting_bad g a.lent offers.result.now a.line offers.ensures at.turns at.i at.invariant
                (omega arith) found.result found.ensures v.if-first.ensures told.result told.ensures
                v.if-good.ensures.value
            | else-first-via-else-first v ↦
                counting_again g a.lent offers.result.now a.line offers.ensures at.turns at.i at.invariant
                (omega arith) found.result found.ensures v.if-first.ensures
          ])
    ]

pub returns : goal.returns
returns c =
    let a = c.args in
    let offers = c.waiting_offers-offers in
    let all : c.loop-i.i ≡ length offers.result.now = omega arith in
    counting_end (geometry_of a.g) a.lent offers.result.now a.line offers.ensures c.loop-i.turns
    (rw all at c.loop-i.invariant)
