-- Laws of the store at a place of a joined trace, and of what describes a store: a block stored where it
-- stands or as it is taken, and a description said in another way or of a round that offers. Assumes nothing.
use mathlib.Core.Path.{◌≡◌, refl, sym, ap, ◌∙◌}
use mathlib.Core.Logic.{inl}
use mathlib.Core.List.{[], ◌++◌}
use mathlib.Core.Option.{Option, none}
use Prim.Native.Nat.{ℕ, ◌+◌, ◌-◌, ◌≤◌, ◌<◌}
use native.Mathlib.Omega.{arith}
use lib.ListN.{length, get_or-append}
use lib.Seq.{get_or-append-add}
use Rattle.model.specs.Geometry.{Geometry, block_count, block_width}
use Rattle.model.specs.Blocks.{Bytes, block_at}
use Rattle.model.specs.Stores.{Trace, store}
use Rattle.layout.specs.declared.numbers.DiskAddress.{DiskAddress}
use Rattle.stores.specs.declared.changes.Change.{Change}
use Rattle.stores.specs.declared.descriptors.Source.{Source}
use Rattle.stores.specs.declared.descriptors.Source.TheVariants.{Disk, Zeros, Content, Offered, Random}
use Rattle.stores.specs.declared.descriptors.Descriptor.{Descriptor}
use Rattle.stores.specs.Changes.{changed, Inside}
use Rattle.stores.specs.Descriptors.{source_block, plain_of, own_of}
use Rattle.stores.specs.Described.{store_at, Takes, Meaning, Describes}

-- ---- one trace after another ----

module _ (xs ys : Trace) (count place : ℕ) (long : length xs ≡ count) where
  pub store_at_first : place < count → store_at place (xs ++ ys) ≡ store_at place xs
  store_at_first h = get_or-append xs ys (store 0 []) place (omega arith)

  pub store_at_past : count ≤ place → store_at place (xs ++ ys) ≡ store_at (place - count) ys
  store_at_past h =
      let e : place ≡ length xs + (place - count) = omega arith in
      ap (λ (n : ℕ). store_at n (xs ++ ys)) e ∙ get_or-append-add xs ys (place - count) (store 0 [])

-- ---- what describes a store ----

-- a block of the disk that is stored where it stands, with changes
pub describes_own :
    {g : Geometry} {offered : Option ℕ} {place : ℕ} {meant : Meaning} {descriptor : Descriptor}
    (address : DiskAddress) (first second : Change) → descriptor ≡ own_of address first second →
    address.0 < block_count g → Inside (block_width g) first → Inside (block_width g) second →
    ((disk content blocks random : Bytes) →
    store address.0 (changed second (changed first (block_at (block_width g) disk address.0))) ≡
    meant disk content blocks random) → Describes g offered place meant descriptor
describes_own address first second e inside one two means =
    rw e
    (record {
      means = means;
      address_inside = inside;
      first_inside = one;
      second_inside = two;
      takes = inl refl;
    })

-- a block that is stored as it is taken
pub describes_plain :
    {g : Geometry} {offered : Option ℕ} {place : ℕ} {meant : Meaning} {descriptor : Descriptor}
    (address : DiskAddress) (taken : Source) → descriptor ≡ plain_of address taken →
    address.0 < block_count g →
    Takes g offered place address.0 taken →
    ((disk content blocks random : Bytes) →
    store address.0 (source_block taken g disk content blocks random) ≡
    meant disk content blocks random) → Describes g offered place meant descriptor
describes_plain address taken e inside takes means =
    rw e
    (record {
      means = means;
      address_inside = inside;
      first_inside = tt;
      second_inside = tt;
      takes = takes;
    })

-- place and store said in another way
pub describes_same :
    {g : Geometry} {offered : Option ℕ} {place other : ℕ} {meant same : Meaning} {descriptor : Descriptor} →
    Describes g offered other same descriptor → place ≡ other →
    ((disk content blocks random : Bytes) →
    meant disk content blocks random ≡ same disk content blocks random) →
    Describes g offered place meant descriptor
describes_same d e means =
    rw e
    (record {
      means = λ disk content blocks random.
          d.means disk content blocks random ∙ sym (means disk content blocks random);
      address_inside = d.address_inside;
      first_inside = d.first_inside;
      second_inside = d.second_inside;
      takes = d.takes;
    })

-- of a round that offers nothing: also of one that offers
pub describes_offering :
    {g : Geometry} {offered : Option ℕ} {place : ℕ} {meant : Meaning} {descriptor : Descriptor} →
    Describes g none place meant descriptor → Describes g offered place meant descriptor
describes_offering {g} {offered} {place} {meant} {descriptor} d =
    record {
      means = d.means;
      address_inside = d.address_inside;
      first_inside = d.first_inside;
      second_inside = d.second_inside;
      takes = by descriptor.source d.takes;
    }
  where
    by : (source : Source) → Takes g none place descriptor.address.0 source →
        Takes g offered place descriptor.address.0 source
    by (Disk address) h = h
    by Zeros h = h
    by Content h = h
    by (Offered at) h = absurd (let z : ◌≡◌ {A = ℕ} 0 1 = cc in omega arith)
    by (Random index) h = h
