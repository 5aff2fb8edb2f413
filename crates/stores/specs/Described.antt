-- What a descriptor of a round is held to: the store that it means whatever the disk, that it stands inside
-- the drive, and what it takes. Assumes nothing.
use Rattle.std.specs.Prelude.{◌≡◌, true, ◌⊎◌, [], ℕ, ◌<◌, get_or}
use Rattle.std.proofs.Math.Option.{Option, some}
use Rattle.model.specs.Geometry.{Geometry, block_count, block_width}
use Rattle.model.specs.Blocks.{Bytes, DiskAddress}
use Rattle.model.specs.Layout.{is_well_formed}
use Rattle.model.specs.Stores.{Store, Trace, store}
use Rattle.stores.specs.declared.descriptors.Source.{Source}
use Rattle.stores.specs.declared.descriptors.Source.TheVariants.{Disk, Zeros, Content, Offered, Random}
use Rattle.stores.specs.declared.descriptors.Descriptor.{Descriptor}
use Rattle.stores.specs.Changes.{Inside}
use Rattle.stores.specs.Descriptors.{store_of}

-- the store at a place of a trace; past its end one of nothing
abbrev pub store_at : (place : ℕ) → Trace → Store
store_at place trace = get_or trace place (store 0 [])

-- what the store at a place of a round takes: of the disk the block that it goes to, or a node of the level
-- that is its place; of the lent blocks the one that is offered, if one is; of the random bytes one of the
-- first k blocks
abbrev pub Takes : Geometry → (offered : Option ℕ) → (place : ℕ) → (own : DiskAddress) → Source → Type 0
Takes g offered place own (Disk address) =
    (address.0 ≡ own) ⊎ ((place < g.height) × (is_well_formed g place address.0 ≡ true))
Takes g offered place own Zeros = Unit {0}
Takes g offered place own Content = Unit {0}
Takes g offered place own (Offered at) = offered ≡ some at
Takes g offered place own (Random index) = index < g.height

-- a store by the disk and by what is lent
abbrev pub Meaning : Type 0
Meaning = (disk content blocks random : Bytes) → Store

-- a descriptor of the store at a place of a round, which is this one on every disk, whatever is lent
pub record Describes (g : Geometry) (offered : Option ℕ) (place : ℕ) (meant : Meaning)
    (descriptor : Descriptor) : Type 0 where
  pub means :
      (disk content blocks random : Bytes) →
      store_of descriptor g disk content blocks random ≡ meant disk content blocks random
  pub address_inside : descriptor.address.0 < block_count g
  pub first_inside : Inside (block_width g) descriptor.first
  pub second_inside : Inside (block_width g) descriptor.second
  pub takes : Takes g offered place descriptor.address.0 descriptor.source
