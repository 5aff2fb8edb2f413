-- `first_below` meets its contract: a node's places times what one spans stays in 64 bits. Assumes nothing.
use Rattle.std.proofs.Common.{arith}
use Rattle.layout.specs.Geometries.{geometry_of}
use Rattle.tree_check.proofs.Laws.Spans.{spans_le}
use Rattle.tree_check.proofs.nodes.first_below.Goals as goal

pub overflow_mul-result : goal.overflow_mul-result
overflow_mul-result c =
    omega (
      arith,
      spans_le (geometry_of c.args.g) c.requires.fits c.args.level c.requires.level_lt
          c.args.place c.span_of.result c.requires.place_lt c.span_of.ensures,
    )

pub overflow_add-result : goal.overflow_add-result
overflow_add-result c =
    omega (
      arith,
      spans_le (geometry_of c.args.g) c.requires.fits c.args.level c.requires.level_lt
          c.args.place c.span_of.result c.requires.place_lt c.span_of.ensures,
    )
