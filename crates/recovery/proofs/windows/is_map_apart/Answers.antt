-- `recovery::windows::is_map_apart` meets its contract. Invariant: no two numbers share a place in a slot
-- before this one. Assumes nothing.
use mathlib.Core.Path.{sym, ◌∙◌}
use Prim.Native.Nat.{◌+◌}
use native.Mathlib.Omega.{arith}
use Rattle.layout.specs.Geometries.{geometry_of}
use Rattle.recovery.proofs.Laws.Maps.{swept_none, swept_next, swept_shared, swept_all}
use Rattle.recovery.proofs.windows.is_map_apart.Goals as goal

-- ---- answers ----
pub loop-first-init : goal.loop-first-init
loop-first-init c = swept_none (geometry_of c.args.g) c.args.disk.now

pub returns-then-not-is_window_apart : goal.returns-then-not-is_window_apart
returns-then-not-is_window_apart c =
    let a = c.args in
    let told = c.is_window_apart in
    swept_shared (geometry_of a.g) a.disk.now c.loop-first.first
    (sym told.ensures ∙ c.if-not-is_window_apart.true)

pub loop-first-preserved : goal.loop-first-preserved
loop-first-preserved c =
    let a = c.args in
    let told = c.is_window_apart in
    swept_next (geometry_of a.g) a.disk.now c.loop-first.first c.loop-first.invariant
    (sym told.ensures ∙ c.if-not-is_window_apart.false)

-- the last window's slots are past the last of the drive
pub returns-else-not-is_window_apart : goal.returns-else-not-is_window_apart
returns-else-not-is_window_apart c =
    let a = c.args in
    let told = c.is_window_apart in
    let first = c.loop-first.first in
    swept_all (geometry_of a.g) a.disk.now c.requires (first + 32768)
    (swept_next (geometry_of a.g) a.disk.now first c.loop-first.invariant
    (sym told.ensures ∙ c.if-not-is_window_apart.false))
    (omega arith)

pub returns : goal.returns
returns c =
    swept_all (geometry_of c.args.g) c.args.disk.now c.requires c.loop-first.first
    c.loop-first.invariant c.loop-first-test.false
