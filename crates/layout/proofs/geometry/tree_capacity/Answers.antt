-- `layout::geometry::tree_capacity` meets its contract, height by height: a fanout of at most 1,024 keeps
-- every product in 64 bits. Assumes nothing.
use Prim.Native.Nat.{◌*◌}
use native.Mathlib.Omega.{arith}
use Rattle.model.specs.Geometry.{fanout}
use Rattle.layout.specs.Geometries.{geometry_of}
use Rattle.layout.proofs.Laws.Geometry.{fanout_cube_le, leaf_times_le}
use Rattle.layout.proofs.Laws.Geometry.{tree_capacity_two, tree_capacity_four}
use Rattle.layout.proofs.geometry.tree_capacity.Goals as goal

pub returns-then-height-eq2 : goal.returns-then-height-eq2
returns-then-height-eq2 c =
    rw c.fanout-fanout.ensures
    (tree_capacity_two (geometry_of c.args.g) c.requires c.if-height-eq2.true)

pub overflow_mul-result-4 : goal.overflow_mul-result-4
overflow_mul-result-4 c =
    let g = geometry_of c.args.g in
    rw c.fanout-fanout.ensures
    (omega (
      arith,
      leaf_times_le g c.requires (fanout g * fanout g * fanout g) 1073741824
          (fanout_cube_le (geometry_of c.args.g) c.requires),
    ))

pub returns : goal.returns
returns c =
    rw c.fanout-fanout.ensures
    (tree_capacity_four (geometry_of c.args.g) c.requires
    (omega (arith, c.requires, c.if-height-eq2.false, c.if-height-eq3.false)))
