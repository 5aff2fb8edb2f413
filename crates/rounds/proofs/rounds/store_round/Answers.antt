-- `store_round` meets its contract. The invariant: so many stores of the round are made. Assumes nothing.
use mathlib.Core.Path.{refl, ◌∙◌}
use Prim.Native.Nat.{◌<◌}
use native.Mathlib.Omega.{arith}
use lib.ListN.{length}
use Rattle.layout.specs.Geometries.{geometry_of}
use Rattle.round_stores.specs.Planned.{planned_trace}
use Rattle.round_stores.proofs.Laws.Planned.{length-planned_trace}
use Rattle.rounds.proofs.Laws.Stores.{none_so_far}
use Rattle.rounds.proofs.Laws.Stores.{turn_makeable, turn_lent, turn_made}
use Rattle.rounds.proofs.rounds.store_round.Goals as goal
use Rattle.rounds.proofs.rounds.store_round.Goals.{After-round_store-descriptor}

pub loop-place-init : goal.loop-place-init
loop-place-init c =
    let a = c.args in
    record {
      so_far =
          none_so_far (geometry_of a.g)
          (planned_trace a.round (geometry_of a.g) a.disk.now a.content.now a.blocks.now a.random.now)
          a.disk.now a.list.now a.first (omega (arith, c.requires.lent.room));
      disk_kept = refl;
      list_kept = refl;
      buffer_kept = refl;
    }

-- the store that is described is one of the round's
more : (c : After-round_store-descriptor) → let a = c.args in
    c.loop-place.place <
    length (planned_trace a.round (geometry_of a.g) a.disk.now a.content.now a.blocks.now a.random.now)
more c =
    let a = c.args in
    omega (
      arith,
      c.loop-place-test.true,
      c.requires.count_most,
      length-planned_trace (geometry_of a.g) c.requires.lent.drive.fits a.round a.disk.now
          a.content.now a.blocks.now a.random.now,
    )

pub make_store-next-requires : goal.make_store-next-requires
make_store-next-requires c =
    let here = (goal.at.make_store-next-requires c).After-round_store-descriptor in
    let pre = c.requires in
    let storing = c.loop-place.invariant in
    let means = c.round_store-descriptor.ensures in
    record {
      lent_for = turn_lent pre.storable means pre.lent storing.so_far (more here) storing.buffer_kept;
      makeable = turn_makeable pre.storable means;
    }

pub loop-place-preserved : goal.loop-place-preserved
loop-place-preserved c =
    let here = (goal.at.loop-place-preserved c).After-round_store-descriptor in
    let pre = c.requires in
    let storing = c.loop-place.invariant in
    let made = c.make_store-next in
    record {
      so_far =
          turn_made pre.storable c.round_store-descriptor.ensures pre.lent storing.so_far (more here)
          made.ensures;
      disk_kept = made.auto.disk ∙ storing.disk_kept;
      list_kept = made.auto.list ∙ storing.list_kept;
      buffer_kept = made.auto.buffer ∙ storing.buffer_kept;
    }
