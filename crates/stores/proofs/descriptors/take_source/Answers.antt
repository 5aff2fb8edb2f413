-- `take_source` meets its contract: the block of the source is copied whole, or cleared whole. Assumes
-- nothing.
use mathlib.Core.Path.{refl, ap}
use native.Mathlib.Omega.{arith}
use lib.ListN.{length}
use Rattle.stores.proofs.Laws.Descriptors.{length-known, took}
use Rattle.stores.proofs.descriptors.take_source.Goals as goal

pub copy_at-requires : goal.copy_at-requires
copy_at-requires c = omega (arith, ap length c.block_at.ensures, length-known c.in-Disk.is c.requires)

pub copy_at-requires-in-Offered : goal.copy_at-requires-in-Offered
copy_at-requires-in-Offered c =
    omega (arith, ap length c.lent_block.ensures, length-known c.in-Offered.is c.requires)

pub copy_at-requires-in-Random : goal.copy_at-requires-in-Random
copy_at-requires-in-Random c =
    omega (arith, ap length c.lent_block-in-Random.ensures, length-known c.in-Random.is c.requires)

pub returns-in-Disk : goal.returns-in-Disk
returns-in-Disk c = took c.in-Disk.is c.requires _ c.copy_at.ensures c.block_at.ensures

pub returns-in-Zeros : goal.returns-in-Zeros
returns-in-Zeros c = took c.in-Zeros.is c.requires _ c.clear_at.ensures refl

pub returns-in-Content : goal.returns-in-Content
returns-in-Content c = took c.in-Content.is c.requires _ c.copy_at-in-Content.ensures refl

pub returns-in-Offered : goal.returns-in-Offered
returns-in-Offered c = took c.in-Offered.is c.requires _ c.copy_at-in-Offered.ensures c.lent_block.ensures

pub returns-in-Random : goal.returns-in-Random
returns-in-Random c =
    took c.in-Random.is c.requires _ c.copy_at-in-Random.ensures c.lent_block-in-Random.ensures
