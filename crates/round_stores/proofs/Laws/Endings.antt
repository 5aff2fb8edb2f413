-- The stores of bits as those of blocks that are stored where they stand, the stores of an ending by index,
-- and how many there are. Assumes nothing.
use mathlib.Core.Path.{◌≡◌, refl}
use mathlib.Core.Bool.{Bool, true, false}
use mathlib.Core.List.{[], ◌∷◌, ◌++◌}
use mathlib.Core.Option.{none}
use Prim.Native.Nat.{ℕ, ◌<◌}
use native.Mathlib.Omega.{arith}
use lib.ListN.{length}
use Rattle.laws.specs.Bits.{set_bit}
use Rattle.model.specs.Geometry.{Geometry, Fits}
use Rattle.model.specs.Blocks.{Bytes}
use Rattle.model.specs.Layout.{bit_address, bit_place, bitmap_with}
use Rattle.model.specs.Stores.{Trace, store}
use Rattle.model.specs.Rounds.{bit_store, header_store}
use Rattle.model.proofs.Laws.Geometry.{bit_address_lt}
use Rattle.model.proofs.Laws.Bitmap.{bitmap_with_is, bit_place_byte_lt}
use Rattle.layout.specs.declared.numbers.DiskAddress.{DiskAddress}
use Rattle.stores.specs.declared.changes.Change.TheVariants.{Nothing, Bit}
use Rattle.stores.specs.declared.descriptors.Descriptor.{Descriptor}
use Rattle.stores.specs.Descriptors.{own_of}
use Rattle.stores.specs.Described.{store_at, Describes}
use Rattle.plans.specs.declared.public_plans.Bits.{Bits}
use Rattle.plans.specs.declared.public_plans.Bits.TheVariants.{New, Shared, Apart}
use Rattle.plans.specs.declared.public_plans.PublicPlan.{PublicPlan}
use Rattle.plans.specs.declared.public_plans.PublicPlan.TheVariants.{Keep, Write}
use Rattle.plans.specs.PublicPlans.{bit_trace}
use Rattle.stores.proofs.Laws.Described.{describes_own}
use Rattle.round_stores.specs.Endings.{ending_trace, ending_count}

-- ---- bits ----

module _ (g : Geometry) (f : Fits g) where
  pub describes_bit :
      (slot : ℕ) (is_set : Bool) → slot < g.slots → (address : DiskAddress) (bit : ℕ) →
      address.0 ≡ bit_address g slot → bit ≡ bit_place g slot → {descriptor : Descriptor} →
      descriptor ≡ own_of address (Bit bit is_set) Nothing → (place : ℕ) →
      Describes g none place (λ disk content blocks random. bit_store g disk slot is_set) descriptor
  describes_bit slot is_set inside address bit e b d place =
      describes_own address (Bit bit is_set) Nothing d (omega (arith, bit_address_lt g f slot inside))
      (rw b (bit_place_byte_lt g f slot)) tt (λ disk content blocks random. rw (e, b, bitmap_with_is))

  pub describes_both_bits :
      (slot old : ℕ) → slot < g.slots → (address : DiskAddress) (new-bit old_bit : ℕ) →
      address.0 ≡ bit_address g slot → new-bit ≡ bit_place g slot → old_bit ≡ bit_place g old →
      {descriptor : Descriptor} →
      descriptor ≡ own_of address (Bit new-bit true) (Bit old_bit false) → (place : ℕ) →
      Describes g none place (λ disk content blocks random.
      store (bit_address g slot) (set_bit (bit_place g old) false (bitmap_with g disk slot true))) descriptor
  describes_both_bits slot old inside address new-bit old_bit e n o d place =
      describes_own address (Bit new-bit true) (Bit old_bit false) d
      (omega (arith, bit_address_lt g f slot inside)) (rw n (bit_place_byte_lt g f slot))
      (rw o (bit_place_byte_lt g f old)) (λ disk content blocks random. rw (e, n, o, bitmap_with_is))

-- ---- by index ----

-- the bitmap's stores and then the header, by the bits
abbrev pub bits_ending : Geometry → (slot : ℕ) → Bits → (disk : Bytes) → Trace
bits_ending g slot bits disk = bit_trace bits g disk slot ++ (header_store g disk slot ∷ [])

-- all stores of an ending, by the plan
abbrev pub ending : Geometry → (slot : ℕ) → PublicPlan → (disk : Bytes) → Trace
ending g slot public disk = ending_trace public g disk slot

-- the store at an index where both the index and what the stores go by are known
pub describes_known :
    (g : Geometry) {A : Type 0} (trace : A → (disk : Bytes) → Trace) (at : ℕ) {value known : A}
    {index : ℕ} {descriptor : Descriptor} → value ≡ known → index ≡ at →
    ((place : ℕ) →
    Describes g none place (λ disk content blocks random. store_at at (trace known disk)) descriptor) →
    (place : ℕ) →
    Describes g none place (λ disk content blocks random. store_at index (trace value disk)) descriptor
describes_known g trace at e z d place = rw (e, z) (d place)

-- ---- count ----

pub length-ending_trace :
    (public : PublicPlan) (g : Geometry) (disk : Bytes) (slot : ℕ) →
    length (ending_trace public g disk slot) ≡ ending_count public
length-ending_trace Keep g disk slot = refl
length-ending_trace (Write number New) g disk slot = refl
length-ending_trace (Write number (Shared old)) g disk slot = refl
length-ending_trace (Write number (Apart old)) g disk slot = refl
