-- A drive that may be cut: its map is good and its places are marked, and a sound drive is one; and a drive
-- whose tree is sound and whose map 17 does not meet is sound once it is recovered. Assumes nothing.
use mathlib.Core.Path.{◌≡◌, sym, ap, ◌∙◌}
use mathlib.Core.Logic.{◌≢◌}
use mathlib.Core.Bool.{true}
use Prim.Native.Nat.{ℕ, ◌<◌}
use native.Mathlib.Omega.{arith}
use Rattle.model.specs.Geometry.{Geometry, Fits}
use Rattle.model.specs.Blocks.{Bytes}
use Rattle.model.specs.Layout.{geometry_in, slot_start, slot_of, area_place, is_allocated, map_entry}
use Rattle.model.specs.Refusals.{drive_refusal}
use Rattle.model.specs.Invariants.{PublicInvariant, HiddenInvariant}
use Rattle.model.specs.Promises.ReadAfterWrite.{Sound}
use Rattle.model.proofs.Laws.Slots.{slot_block_of, slot_of-slot_start}
use Rattle.model.proofs.Laws.Places.{is_place_of_place, place_of_is_place, is_slot_block_of-is_place}
use Rattle.model.proofs.Laws.Bitmap.{area_place_lt, is_allocated_bit}
use Rattle.model.proofs.Volumes.Writes.{fits_of_accepted}
use Rattle.model.proofs.Volumes.Damage.{hidden_sound_of_sound}
use Rattle.model.proofs.Theorems.TreeCheck.{accepted_of_pass, pass_of_sound}
use Rattle.recovery_model.specs.Recovery.{recovery_refusal, recovered}
use Rattle.recovery_model.specs.Promises.Recovery.{Rebuilt, Recoverable}
use Rattle.recovery_model.proofs.Laws.SameButBits.{geometry_in_torn, drive_refusal_torn, map_entry_torn}
use Rattle.recovery_model.proofs.Laws.SameButBits.{hidden_invariant_torn}
use Rattle.recovery_model.proofs.Laws.MapRefusal.{GoodMap, drive_refusal_of_recovery, good_map_same}
use Rattle.recovery_model.proofs.Laws.MapRefusal.{good_map_of_recovery, recovery_refusal_of-good_map}
use Rattle.recovery_model.proofs.Laws.Recovery.{rebuilt_recovered}

-- a good map whose places are marked
public_of_good_map :
    (g : Geometry) (disk : Bytes) → GoodMap g disk →
    ((number slot : ℕ) → number < g.publics → slot < g.slots → map_entry g disk number ≡ slot_start g slot →
    is_allocated g disk slot ≡ true) →
    PublicInvariant g disk
public_of_good_map g disk good marked =
    record {
      in_place = λ number h ne.
          let entry = map_entry g disk number in
          let block = slot_block_of g 0 entry (good.starts number h ne) in
          let at : entry ≡ slot_start g (slot_of g entry) = omega (arith, block.address_is) in
          is_place_of_place g disk entry
          (record {
            slot_inside = block.slot_inside;
            entry_is = at;
            allocated = marked number (slot_of g entry) h block.slot_inside at;
          });
      apart = good.apart;
    }

-- ---- a drive that may be cut ----

module _ (g : Geometry) (disk : Bytes) (whole : Recoverable g disk) where
  pub accepted_of_recoverable : drive_refusal disk ≡ 0
  accepted_of_recoverable = accepted_of_pass disk whole.passes

  pub good_map_of_recoverable : GoodMap g disk
  good_map_of_recoverable = good_map_of_recovery g disk whole.geometry whole.map_good

  pub public_of_recoverable : PublicInvariant g disk
  public_of_recoverable = public_of_good_map g disk good_map_of_recoverable whole.mapped_marked

-- ---- a sound one is ----

pub recoverable_of_sound : (g : Geometry) (disk : Bytes) → Sound g disk → Recoverable g disk
recoverable_of_sound g disk sound =
    record {
      geometry = sound.geometry;
      passes = pass_of_sound g disk (hidden_sound_of_sound g disk sound);
      map_good =
          recovery_refusal_of-good_map g disk sound.geometry sound.accepted
          (record {
            starts = λ number h ne.
                is_slot_block_of-is_place g disk (map_entry g disk number)
                (sound.public_sound.in_place number h ne);
            apart = sound.public_sound.apart;
          });
      marked_mapped = λ slot h e.
          sound.bitmap_sound.mapped (area_place g slot) (area_place_lt g f slot h)
          (sym (is_allocated_bit g disk slot) ∙ e);
      mapped_marked = λ number slot h k e.
          let ne : map_entry g disk number ≢ 0 = λ z. omega (arith, e, z) in
          ap (is_allocated g disk) (sym (ap (slot_of g) e ∙ slot_of-slot_start g slot))
          ∙ (place_of_is_place g disk (map_entry g disk number)
          (sound.public_sound.in_place number h ne)).allocated;
    }
  where
    f : Fits g
    f = fits_of_accepted g disk sound.geometry sound.accepted

-- ---- recovered ----

module _ (g : Geometry) (disk : Bytes) (states : geometry_in disk ≡ g) (good : recovery_refusal disk ≡ 0) where
  accepted : drive_refusal disk ≡ 0
  accepted = drive_refusal_of_recovery disk good

  rebuilt : Rebuilt g disk (recovered disk)
  rebuilt = rebuilt_recovered g disk states good

  entry_same : (number : ℕ) → number < g.publics →
      map_entry g (recovered disk) number ≡ map_entry g disk number
  entry_same = map_entry_torn g disk (recovered disk) states accepted rebuilt.same_but_bits

  pub sound_recovered : HiddenInvariant g disk → Sound g (recovered disk)
  sound_recovered hidden =
      record {
        geometry = geometry_in_torn g disk (recovered disk) states accepted rebuilt.same_but_bits;
        accepted = drive_refusal_torn g disk (recovered disk) states accepted rebuilt.same_but_bits;
        public_sound =
            public_of_good_map g (recovered disk)
            (good_map_same g disk (recovered disk) entry_same (good_map_of_recovery g disk states good))
            (λ number slot h k e.
            is_allocated_bit g (recovered disk) slot
            ∙ rebuilt.mapped_bit number (area_place g slot) h (sym (entry_same number h) ∙ e));
        bitmap_sound =
            record {
              mapped = λ place h e.
                  let owner = rebuilt.bit_mapped place h e in
                  (owner.0, owner.1, entry_same owner.0 owner.1 ∙ owner.2);
            };
        hidden_sound =
            hidden_invariant_torn g disk (recovered disk) states accepted rebuilt.same_but_bits hidden;
      }
