-- `layout::geometry::has_room` meets its contract: one law for each way through the tests. Assumes nothing.
use mathlib.Core.Path.{ap, ◌∙◌}
use Prim.Native.Nat.{ℕ}
use native.Mathlib.Omega.{arith}
use lib.Dec.{leb}
use Rattle.model.proofs.Laws.Geometry.{refused_publics, refused_hidden, refused_public_slots}
use Rattle.model.proofs.Laws.Geometry.{refused_hidden_slots, refused_tree, left_to_blocks}
use Rattle.layout.specs.Geometries.{geometry_of}
use Rattle.layout.proofs.geometry.has_room.Goals as goal

pub returns-then-publics-lt1 : goal.returns-then-publics-lt1
returns-then-publics-lt1 c = refused_publics (geometry_of c.args.g) c.if-publics-lt1.true

pub returns-then-hidden-lt1 : goal.returns-then-hidden-lt1
returns-then-hidden-lt1 c = refused_hidden (geometry_of c.args.g) c.if-hidden-lt1.true

pub returns-then-slots-publics : goal.returns-then-slots-publics
returns-then-slots-publics c = refused_public_slots (geometry_of c.args.g) c.if-slots-publics.true

pub returns-then-slots-hidden : goal.returns-then-slots-hidden
returns-then-slots-hidden c = refused_hidden_slots (geometry_of c.args.g) c.if-slots-hidden.true

pub returns-then-tree_capacity-hidden : goal.returns-then-tree_capacity-hidden
returns-then-tree_capacity-hidden c = refused_tree (geometry_of c.args.g)
    (omega (arith, c.tree_capacity.ensures, c.if-tree_capacity-hidden.true))

pub returns : goal.returns
returns c =
    ap (λ (n : ℕ). leb n 2147483647) c.block_count.ensures
    ∙ left_to_blocks (geometry_of c.args.g) c.requires.size_good c.requires.height_low c.requires.height_high
    c.if-publics-lt1.false c.if-hidden-lt1.false c.if-slots-publics.false
    c.if-slots-hidden.false
    (omega (arith, c.tree_capacity.ensures, c.if-tree_capacity-hidden.false))
