-- What a descriptor means: the block that its store begins with, the store, and when both can be had. Assumes
-- nothing.
use Rattle.std.specs.Prelude.{◌≡◌, ◌+◌, ◌*◌, ◌≤◌, ◌<◌, length}
use Rattle.model.specs.Geometry.{Geometry, block_count, block_width}
use Rattle.model.specs.Blocks.{Bytes, block_at, zero_block}
use Rattle.model.specs.Layout.{Drive}
use Rattle.model.specs.Stores.{Store, store}
use Rattle.layout.specs.declared.numbers.DiskAddress.{DiskAddress}
use Rattle.stores.specs.declared.changes.Change.{Change}
use Rattle.stores.specs.declared.changes.Change.TheVariants.{Nothing}
use Rattle.stores.specs.declared.descriptors.Source.{Source}
use Rattle.stores.specs.declared.descriptors.Source.TheVariants.{Disk, Zeros, Content, Offered, Random}
use Rattle.stores.specs.declared.descriptors.Descriptor.{Descriptor}
use Rattle.stores.specs.Changes.{changed, Inside}

-- ---- what is taken ----

-- the block of a source: one of the disk, zeros, the call's data, or one of the lent blocks or of the random
-- bytes, by its index
abbrev pub source_block : Source → Geometry → (disk content blocks random : Bytes) → Bytes
source_block (Disk address) g disk content blocks random = block_at (block_width g) disk address.0
source_block Zeros g disk content blocks random = zero_block g.block_size
source_block Content g disk content blocks random = content
source_block (Offered place) g disk content blocks random = block_at (block_width g) blocks place
source_block (Random index) g disk content blocks random = block_at (block_width g) random index

-- it stands on the drive, or is lent whole
abbrev pub Takeable : Source → Geometry → (content blocks random : Bytes) → Type 0
Takeable (Disk address) g content blocks random = address.0 < block_count g
Takeable Zeros g content blocks random = Unit {0}
Takeable Content g content blocks random = length content ≡ g.block_size
Takeable (Offered place) g content blocks random = place * g.block_size + g.block_size ≤ length blocks
Takeable (Random index) g content blocks random = index * g.block_size + g.block_size ≤ length random

-- it can be taken from a whole drive into a buffer of one block
pub record Fillable (source : Source) (g : Geometry) (disk content blocks random buffer : Bytes) : Type 0
  where
    pub drive : Drive g disk
    pub takeable : Takeable source g content blocks random
    pub whole : length buffer ≡ g.block_size

-- ---- what is stored ----

-- a block that is stored as it is taken
abbrev pub plain_of : DiskAddress → Source → Descriptor
plain_of address source = record { address = address; source = source; first = Nothing; second = Nothing }

-- a block of the disk that is stored where it stands, with these changes
abbrev pub own_of : DiskAddress → (first second : Change) → Descriptor
own_of address first second =
    record { address = address; source = Disk address; first = first; second = second }

-- the store that a descriptor means: the block with both changes made, at its address
abbrev pub store_of : Descriptor → Geometry → (disk content blocks random : Bytes) → Store
store_of descriptor g disk content blocks random =
    store descriptor.address.0
    (changed descriptor.second
    (changed descriptor.first (source_block descriptor.source g disk content blocks random)))

-- it goes to the drive, its block can be taken, and its changes stand inside a block
pub record Makeable (descriptor : Descriptor) (g : Geometry) (content blocks random : Bytes) : Type 0 where
  pub address_inside : descriptor.address.0 < block_count g
  pub takeable : Takeable descriptor.source g content blocks random
  pub first_inside : Inside (block_width g) descriptor.first
  pub second_inside : Inside (block_width g) descriptor.second
