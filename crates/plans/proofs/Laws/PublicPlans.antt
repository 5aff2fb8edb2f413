-- Laws of the plan of a public half: the bitmap's stores of a number that had no place, that stays in one
-- bitmap block, or that goes to another; and the plan by the table's choice. Assumes nothing.
use mathlib.Core.Path.{◌≡◌, ap}
use mathlib.Core.Logic.{◌≢◌}
use mathlib.Core.Bool.{true, false}
use mathlib.Core.List.{◌∷◌}
use Prim.Native.Nat.{ℕ, ◌<◌}
use native.Mathlib.Omega.{arith}
use Rattle.model.specs.Geometry.{Geometry}
use Rattle.model.specs.Blocks.{Bytes, DiskAddress}
use Rattle.model.specs.Layout.{Drive, slot_of, is_shared, map_entry}
use Rattle.model.specs.Stores.{Trace}
use Rattle.model.specs.Rounds.{map_store}
use Rattle.model.proofs.Laws.PublicHalf.{bit_stores_none, bit_stores_both, bit_stores_each}
use Rattle.model.proofs.Laws.Traces.{map_stores_keep, map_stores_write}
use Rattle.layout.specs.declared.numbers.PublicNumber.{PublicNumber}
use Rattle.table.specs.declared.PublicChoice.{PublicChoice}
use Rattle.table.specs.declared.PublicChoice.TheVariants as choice
use Rattle.plans.specs.declared.public_plans.Bits.{Bits}
use Rattle.plans.specs.declared.public_plans.Bits.TheVariants.{New, Shared, Apart}
use Rattle.plans.specs.declared.public_plans.PublicPlan.TheVariants.{Keep, Write}
use Rattle.plans.specs.PublicPlans.{BitsPlanned, PublicPlanned}

-- ---- bits ----

module _ (g : Geometry) (slot : ℕ) (inside : slot < g.slots) (entry : DiskAddress) where
  pub bits_new : entry ≡ 0 → BitsPlanned g slot entry New
  bits_new e =
      record {
        stores_are = λ disk drive. bit_stores_none g drive.fits disk drive.whole slot inside entry e;
        placed = tt;
      }

  module _ (ne : entry ≢ 0) (old : ℕ) (from : old ≡ slot_of g entry) (old_inside : slot_of g entry < g.slots)
    where
      pub bits_shared : is_shared g slot old ≡ true → BitsPlanned g slot entry (Shared old)
      bits_shared e =
          record {
            stores_are = λ disk drive.
                rw from (bit_stores_both g drive.fits disk drive.whole slot inside entry ne
                (rw from at e));
            placed = omega arith;
          }

      pub bits_apart : is_shared g slot old ≡ false → BitsPlanned g slot entry (Apart old)
      bits_apart e =
          record {
            stores_are = λ disk drive.
                rw from (bit_stores_each g drive.fits disk drive.whole slot inside entry ne
                (rw from at e));
            placed = (omega arith, e);
          }

-- ---- the plan by the table's choice ----

module _ (g : Geometry) (disk : Bytes) (slot : ℕ) (chosen : PublicChoice) where
  pub public_kept : (number : ℕ) → chosen ≡ choice.Keep → PublicPlanned g disk number slot chosen Keep
  public_kept number e = record { chosen = rw e; stores_are = rw (e, map_stores_keep); placed = tt }

  pub public_written :
      (number : PublicNumber) → chosen ≡ choice.Write → Drive g disk → number.0 < g.publics →
      (entry : DiskAddress) → entry ≡ map_entry g disk number.0 → (bits : Bits) →
      BitsPlanned g slot entry bits → PublicPlanned g disk number.0 slot chosen (Write number bits)
  public_written number e drive counted entry at bits planned =
      record {
        chosen = rw e;
        stores_are =
            rw (e, map_stores_write, ← at)
            (ap {B = Trace} (λ (xs : Trace). map_store g disk number.0 slot ∷ xs)
            (planned.stores_are disk drive));
        placed = (counted, planned.placed);
      }
