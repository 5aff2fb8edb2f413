-- The first stores are put, in no more than eleven bytes each.
use Rattle.script.proofs.Laws.Reports.{Listed}
use Rattle.script.proofs.reports.put_later.Given as goal

abbrev pub invariant-loop-store : goal.invariant-loop-store
invariant-loop-store l = Listed l.stores l.initial.out l.at l.out l.next l.store-index
