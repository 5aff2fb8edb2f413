-- `span_of` meets its contract: a fanout of at most 1,024 keeps its power and the product in 64 bits. Assumes
-- nothing.
use Rattle.std.proofs.Common.{◌≡◌, ◌*◌, ◌-◌, arith}
use Rattle.model.proofs.Laws.Branches.{span_data}
use Rattle.model.specs.HiddenTree.{span}
use Rattle.layout.specs.Geometries.{geometry_of}
use Rattle.tree_check.proofs.Laws.Spans.{span_le, span_above, power_le}
use Rattle.tree_check.proofs.spans.span_of.Goals as goal
use Rattle.tree_check.proofs.spans.span_of.Goals.{After-pow}

pub returns-then-level-eq0 : goal.returns-then-level-eq0
returns-then-level-eq0 c = span_data (geometry_of c.args.g) c.args.level c.if-level-eq0.true

pub pow-requires : goal.pow-requires
pow-requires c =
    rw c.fanout-fanout.ensures
    (omega (
      arith,
      power_le (geometry_of c.args.g) c.requires.fits c.args.level c.requires.level_lt_height
          c.if-level-eq0.false,
    ))

-- the product is the span
product_is : (c : After-pow) →
    (c.fanout-fanout.result - 1) * c.pow.result ≡ span (geometry_of c.args.g) c.args.level
product_is c =
    let g = geometry_of c.args.g in
    rw (c.pow.ensures, c.fanout-fanout.ensures)
    (span_above g c.requires.fits c.args.level c.requires.level_lt_height c.if-level-eq0.false)

pub overflow_mul-result : goal.overflow_mul-result
overflow_mul-result c =
    omega (
      arith,
      product_is (goal.at.overflow_mul-result c).After-pow,
      span_le (geometry_of c.args.g) c.requires.fits c.args.level c.requires.level_lt_height,
    )

pub returns : goal.returns
returns c = product_is (goal.at.returns c).After-pow
