-- `checks::counts::first_round` meets its contract. Assumes nothing.
use mathlib.Core.Path.{sym, ap, ◌∙◌}
use Prim.Native.Nat.{◌+◌}
use native.Mathlib.Nat.{mod-lt}
use native.Mathlib.Omega.{arith}
use Rattle.model.proofs.Laws.RoundSearch.{looked_none, looked_next, looked_free, looked_all}
use Rattle.layout.specs.Geometries.{geometry_of}
use Rattle.checks.specs.Counts.{found_round}
use Rattle.checks.proofs.Laws.Counts.{found_round-some}
use Rattle.checks.proofs.counts.first_round.Goals as goal

pub loop-done-init : goal.loop-done-init
loop-done-init g c = (
  c.requires.head_bound,
  λ taken tells. looked_none taken (geometry_of c.args.g) c.args.head c.requires.head_bound,
)

pub returns-then-not-is_taken : goal.returns-then-not-is_taken
returns-then-not-is_taken g c =
    λ taken tells. let at = c.loop-done in
    let free = sym (tells at.slot at.invariant.0 c.is_taken.result c.is_taken.ensures)
    ∙ c.if-not-is_taken.true in
    found_round-some (at.done + 1) (λ z. omega arith)
    ∙ ap found_round (looked_free taken (geometry_of c.args.g) c.args.head at.done at.slot
    (at.invariant.1 taken tells) c.loop-done-test.true free)

pub loop-done-preserved : goal.loop-done-preserved
loop-done-preserved g c =
    let at = c.loop-done in (
      mod-lt (at.slot + 1) (omega arith),
      λ taken tells. let held = sym (tells at.slot at.invariant.0 c.is_taken.result c.is_taken.ensures)
          ∙ c.if-not-is_taken.false in
          looked_next taken (geometry_of c.args.g) c.args.head at.done at.slot (at.invariant.1 taken tells)
          c.loop-done-test.true held,
    )

pub returns : goal.returns
returns g c =
    λ taken tells. let at = c.loop-done in
    ap found_round (looked_all taken (geometry_of c.args.g) c.args.head at.done at.slot
    (at.invariant.1 taken tells) c.loop-done-test.false)
