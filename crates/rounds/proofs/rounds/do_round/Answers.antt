-- `do_round` meets its contract: both halves are planned on the disk as it is, the planned round is the
-- model's, and of its stores those are made that the bound leaves room for. Assumes nothing.
use mathlib.Core.Path.{◌≡◌, ap, ◌∙◌}
use Prim.Native.Nat.{ℕ, ◌-◌, min}
use lib.Dec.{ltb}
use Rattle.layout.specs.Geometries.{geometry_of}
use Rattle.round_stores.specs.declared.planned.PlannedRound.{PlannedRound}
use Rattle.round_stores.specs.Planned.{planned_count}
use Rattle.rounds.proofs.Laws.Steps.{Begun, step_ready, step_made, step_cut, step_state, step_goes_on}
use Rattle.rounds.proofs.rounds.do_round.Goals as goal
use Rattle.rounds.proofs.rounds.do_round.Goals.{After-min-count}

-- both halves are planned
begun : (c : After-min-count) → let a = c.args in
    Begun (geometry_of a.g) a.disk.now a.number.0 a.slot a.content.now a.random.now a.first a.blocks.now
    c.plan_round-plans.result c.plan_public.result
begun c =
    record {
      fits = c.requires.round_lent.lent.drive.fits;
      ready = c.requires.round_ready;
      planned = c.plan_round-plans.ensures;
      public_planned = c.plan_public.ensures;
    }

-- and so many of the stores are made
counted : (c : After-min-count) → let a = c.args in
    let round : PlannedRound =
    record { slot = a.slot; public = c.plan_public.result; hidden = c.plan_round-plans.result.plan } in
    c.min-count.result ≡ min (planned_count (geometry_of a.g) round) (a.bound - a.next)
counted c =
    let a = c.args in
    c.min-count.ensures ∙ ap (λ (n : ℕ). min n (a.bound - a.next)) c.store_count-all.ensures

pub store_round-last-requires : goal.store_round-last-requires
store_round-last-requires c =
    let here = (goal.at.store_round-last-requires c).After-min-count in
    let lent = c.requires.round_lent in
    step_ready (begun here) lent.later lent.state lent.waits c.args.next c.args.bound (counted here) lent.lent

pub returns : goal.returns
returns c later state waits =
    let here = (goal.at.returns c).After-min-count in
    let round = begun here in
    let next = c.args.next in
    let bound = c.args.bound in
    record {
      made = step_made round later state waits next bound (counted here) c.store_round-last.ensures;
      cut_is =
          ap (ltb c.min-count.result) c.store_count-all.ensures
          ∙ step_cut round later state waits next bound (counted here) c.requires.round_lent.bounded;
      state_is = step_state round later state waits;
      goes_on = c.is_kept.ensures ∙ step_goes_on round later state waits;
    }
