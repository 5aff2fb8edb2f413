-- Laws of descriptors: a source that is known, its block taken into a buffer, and the store of a descriptor
-- that can be made, which is whole and inside the drive. Assumes nothing.
use mathlib.Core.Path.{◌≡◌, refl, sym, ap, ◌∙◌}
use Prim.Native.Nat.{ℕ, ◌+◌, ◌*◌, ◌≤◌}
use lib.ListN.{length, length-replicate}
use Rattle.laws.specs.Lists.{over}
use Rattle.laws.proofs.Lists.{over_whole, length_part}
use Rattle.laws.proofs.Bits.{length-set_bit}
use Rattle.model.specs.Geometry.{Geometry, block_count, block_width}
use Rattle.model.specs.Blocks.{Bytes, block_at}
use Rattle.model.specs.Layout.{Drive}
use Rattle.model.proofs.Laws.Blocks.{block_at_is, length-block_at}
use Rattle.model.proofs.Laws.Entries.{length-set_entry}
use Rattle.model.proofs.Laws.Stores.{Stored}
use Rattle.stores.specs.declared.changes.Change.{Change}
use Rattle.stores.specs.declared.changes.Change.TheVariants.{Nothing, Entry, Bit}
use Rattle.stores.specs.declared.descriptors.Source.{Source}
use Rattle.stores.specs.declared.descriptors.Source.TheVariants.{Disk, Zeros, Content, Offered, Random}
use Rattle.stores.specs.declared.descriptors.Descriptor.{Descriptor}
use Rattle.stores.specs.Changes.{changed, Inside}
use Rattle.stores.specs.Descriptors.{source_block, Takeable, Fillable, store_of, Makeable}

-- ---- lengths ----

length-changed : (change : Change) (block : Bytes) → Inside (length block) change →
    length (changed change block) ≡ length block
length-changed Nothing block h = refl
length-changed (Entry index value) block h = length-set_entry index value block h
length-changed (Bit place is_set) block h = length-set_bit place is_set block

-- a block inside lent bytes
pub length-lent_block : (g : Geometry) (lent : Bytes) (index : ℕ) →
    index * g.block_size + g.block_size ≤ length lent →
    length (block_at (block_width g) lent index) ≡ g.block_size
length-lent_block g lent index h =
    ap length (block_at_is (block_width g) lent index)
    ∙ length_part (index * g.block_size) g.block_size lent h

module _ (g : Geometry) (disk content blocks random : Bytes) (drive : Drive g disk) where
  pub length-source_block :
      (source : Source) → Takeable source g content blocks random →
      length (source_block source g disk content blocks random) ≡ g.block_size
  length-source_block (Disk address) h =
      length-block_at (block_width g) disk (block_count g) drive.whole address.0 h
  length-source_block Zeros h = length-replicate g.block_size 0
  length-source_block Content h = h
  length-source_block (Offered place) h = length-lent_block g blocks place h
  length-source_block (Random index) h = length-lent_block g random index h

-- ---- a source that is known, taken ----

module _ {g : Geometry} {source known : Source} {disk content blocks random buffer : Bytes}
    (e : source ≡ known) (fillable : Fillable source g disk content blocks random buffer) where
  pub length-known : length (source_block known g disk content blocks random) ≡ length buffer
  length-known =
      length-source_block g disk content blocks random fillable.drive known (rw e at fillable.takeable)
      ∙ sym fillable.whole

  -- a buffer that took the known source's block took the source's
  pub took :
      {filled : Bytes} (new : Bytes) → filled ≡ over 0 new buffer →
      new ≡ source_block known g disk content blocks random →
      filled ≡ source_block source g disk content blocks random
  took new f n = f ∙ over_whole new buffer (ap length n ∙ length-known) ∙ n ∙ rw e

-- ---- a store ----

module _ (g : Geometry) (disk content blocks random : Bytes) (drive : Drive g disk) where
  -- the store of a descriptor that can be made is of a whole block and inside the drive
  pub store_of_stored :
      (descriptor : Descriptor) → Makeable descriptor g content blocks random →
      Stored (block_width g) (block_count g) (store_of descriptor g disk content blocks random)
  store_of_stored descriptor m =
      let taken = source_block descriptor.source g disk content blocks random in
      let whole : length taken ≡ g.block_size =
      length-source_block g disk content blocks random drive descriptor.source m.takeable in
      let once = changed descriptor.first taken in
      let long : length once ≡ g.block_size =
      length-changed descriptor.first taken (rw whole m.first_inside) ∙ whole in (
        m.address_inside,
        length-changed descriptor.second once (rw long m.second_inside) ∙ long,
      )
