-- `bits_ending_store` meets its contract: where the bits are known, so is the store at an index, and the
-- header is the last. Assumes nothing.
use mathlib.Core.Path.{ap}
use native.Mathlib.Omega.{arith}
use Rattle.layout.specs.Geometries.{geometry_of}
use Rattle.round_stores.specs.Endings.{bit_count}
use Rattle.round_stores.proofs.Laws.Endings.{bits_ending, describes_known}
use Rattle.round_stores.proofs.endings.bits_ending_store.Goals as goal

pub returns-in-0 : goal.returns-in-0
returns-in-0 c =
    let g = geometry_of c.args.g in
    describes_known g (bits_ending g c.args.slot) 0 c.in-New.is
    c.in-0.is
    c.bit_store.ensures

pub returns-in_default : goal.returns-in_default
returns-in_default c =
    let g = geometry_of c.args.g in
    let e = c.in-New.is in
    describes_known g (bits_ending g c.args.slot) 1 e
    (omega (arith, ap bit_count e, c.requires.slot_place.high)) c.header_store.ensures

pub returns-in-0-index : goal.returns-in-0-index
returns-in-0-index c =
    let g = geometry_of c.args.g in
    describes_known g (bits_ending g c.args.slot) 0 c.in-Shared.is
    c.in-0-index.is c.both_bits_store.ensures

pub returns-in_default-index : goal.returns-in_default-index
returns-in_default-index c =
    let g = geometry_of c.args.g in
    let e = c.in-Shared.is in
    describes_known g (bits_ending g c.args.slot) 1 e
    (omega (arith, ap bit_count e, c.requires.slot_place.high))
    c.header_store-in_default-index.ensures

pub returns-in-0-index-2 : goal.returns-in-0-index-2
returns-in-0-index-2 c =
    let g = geometry_of c.args.g in
    describes_known g (bits_ending g c.args.slot) 0 c.in-Apart.is
    c.in-0-index-2.is c.bit_store-in-0-index-2.ensures

pub returns-in-1 : goal.returns-in-1
returns-in-1 c =
    let g = geometry_of c.args.g in
    describes_known g (bits_ending g c.args.slot) 1 c.in-Apart.is
    c.in-1.is c.bit_store-in-1.ensures

pub returns-in_default-index-2 : goal.returns-in_default-index-2
returns-in_default-index-2 c =
    let g = geometry_of c.args.g in
    let e = c.in-Apart.is in
    describes_known g (bits_ending g c.args.slot) 2 e
    (omega (arith, ap bit_count e, c.requires.slot_place.high))
    c.header_store-in_default-index-2.ensures
