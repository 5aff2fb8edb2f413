-- `layout::refusals::check_size` meets its contract: one law for each way through the tests. Assumes nothing.
use mathlib.Core.Bool.{true}
use mathlib.Core.Path.{◌≡◌, sym, ap, ◌∙◌}
use Prim.Native.Nat.{ℕ, ◌*◌}
use native.Mathlib.Nat.{mul-le-mul, le_of_lt}
use native.Mathlib.Omega.{arith}
use Rattle.model.proofs.Laws.Geometry.{fits_of_is_geometry}
use Rattle.model.specs.Geometry.{Fits, is_geometry, block_count}
use Rattle.model.proofs.Laws.Refusals.{size_short, size_outside, size_whole, size_other}
use Rattle.layout.specs.Geometries.{geometry_of}
use Rattle.layout.proofs.Laws.Geometry.{bounded_of_fits}
use Rattle.layout.proofs.refusals.check_size.Goals as goal

pub returns-then-len-lt24 : goal.returns-then-len-lt24
returns-then-len-lt24 c = size_short c.args.len (geometry_of c.args.g) c.if-len-lt24.true

pub returns-then-not-is_geometry : goal.returns-then-not-is_geometry
returns-then-not-is_geometry c =
    size_outside c.args.len (geometry_of c.args.g)
    (sym c.is_geometry.ensures ∙ c.if-not-is_geometry.true)

pub block_count-requires : goal.block_count-requires
block_count-requires c =
    let good : is_geometry (geometry_of c.args.g) ≡ true =
    sym c.is_geometry.ensures ∙ c.if-not-is_geometry.false in
    let fits : Fits (geometry_of c.args.g) =
    fits_of_is_geometry (geometry_of c.args.g) good in
    bounded_of_fits (geometry_of c.args.g) fits

pub overflow_mul-block_count : goal.overflow_mul-block_count
overflow_mul-block_count c =
    let good : is_geometry (geometry_of c.args.g) ≡ true =
    sym c.is_geometry.ensures ∙ c.if-not-is_geometry.false in
    let fits : Fits (geometry_of c.args.g) =
    fits_of_is_geometry (geometry_of c.args.g) good in
    let f = fits in
    rw c.block_count.ensures (omega (
      arith,
      mul-le-mul (le_of_lt f.blocks_high) f.size_high,
    ))

pub returns-then-len-block_count : goal.returns-then-len-block_count
returns-then-len-block_count c =
    let good : is_geometry (geometry_of c.args.g) ≡ true =
    sym c.is_geometry.ensures ∙ c.if-not-is_geometry.false in
    let bytes : c.block_count.result * c.args.g.block_size ≡ block_count (geometry_of c.args.g) *
    c.args.g.block_size =
    ap (λ (n : ℕ). n * c.args.g.block_size)
    c.block_count.ensures in
    let s = c.args in
    size_whole s.len (geometry_of s.g) c.if-len-lt24.false good
    (c.if-len-block_count.true ∙ bytes)

pub returns-else-len-block_count : goal.returns-else-len-block_count
returns-else-len-block_count c =
    let good : is_geometry (geometry_of c.args.g) ≡ true =
    sym c.is_geometry.ensures ∙ c.if-not-is_geometry.false in
    let bytes : c.block_count.result * c.args.g.block_size ≡ block_count (geometry_of c.args.g) *
    c.args.g.block_size =
    ap (λ (n : ℕ). n * c.args.g.block_size)
    c.block_count.ensures in
    let s = c.args in
    size_other s.len (geometry_of s.g) c.if-len-lt24.false good
    (λ q. c.if-len-block_count.false (q ∙ sym bytes))
