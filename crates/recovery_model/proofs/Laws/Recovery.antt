-- Laws of what a recovery leaves: a refused drive as it was; of any other the bitmap rebuilt from the map and
-- nothing else changed; and of a drive that differs from it in the bitmap alone the same bytes. Assumes
-- nothing.
use mathlib.Core.Path.{◌≡◌, sym, ap, ap₂, ◌∙◌}
use mathlib.Core.Logic.{◌≢◌, inl, inr, ⊎_elim}
use mathlib.Core.Bool.{true, ◌||◌}
use Prim.Native.Nat.{ℕ, ◌+◌, ◌*◌, ◌<◌}
use native.Mathlib.Omega.{arith}
use lib.ListN.{length}
use borrow.Author.Tests.{eq-eqb, ne_eqb}
use Rattle.laws.proofs.Cases.{cond_true, cond_false, lt_cases, or_right}
use Rattle.model.specs.Geometry.{Geometry, Fits, is_one_of, map_blocks, root_address, area_start, block_count}
use Rattle.model.specs.Geometry.{bitmap_blocks, block_width}
use Rattle.model.specs.Blocks.{Bytes, DiskAddress, block_at}
use Rattle.model.specs.Layout.{geometry_in}
use Rattle.model.specs.Refusals.{drive_refusal}
use Rattle.model.specs.Invariants.{bitmap_bit}
use Rattle.model.proofs.Laws.Blocks.{blocks_ext}
use Rattle.model.proofs.Laws.Refusals.{drive_read}
use Rattle.model.proofs.Volumes.Writes.{fits_of_accepted}
use Rattle.recovery_model.specs.Recovery.{used_entries, are_starts, recovery_refusal, without_bits}
use Rattle.recovery_model.specs.Recovery.{with_marks, recovered}
use Rattle.recovery_model.specs.Promises.Recovery.{SameButBits, Rebuilt}
use Rattle.recovery_model.proofs.Laws.Used.{UsedBy, used_by_of-is_one_of, is_one_of_of-used_by}
use Rattle.recovery_model.proofs.Laws.Used.{used_from_same}
use Rattle.recovery_model.proofs.Laws.Marks.{Elsewhere, length-without_bits, length-with_marks}
use Rattle.recovery_model.proofs.Laws.Marks.{block_at-without_bits_elsewhere, block_at-without_bits_zeros}
use Rattle.recovery_model.proofs.Laws.Marks.{bitmap_bit-without_bits, block_at-with_marks_elsewhere}
use Rattle.recovery_model.proofs.Laws.Marks.{bitmap_bit-with_marks}
use Rattle.recovery_model.proofs.Laws.SameButBits.{geometry_in_torn, drive_refusal_torn, map_entry_torn}
use Rattle.recovery_model.proofs.Laws.MapRefusal.{drive_refusal_of_recovery, are_starts_of_recovery}
use Rattle.recovery_model.proofs.Laws.MapRefusal.{good_map_of_recovery, good_map_same}
use Rattle.recovery_model.proofs.Laws.MapRefusal.{recovery_refusal_of-good_map}

pub recovered_refused : (disk : Bytes) → recovery_refusal disk ≢ 0 → recovered disk ≡ disk
unfolding recovered
recovered_refused disk ne = cond_false _ _ (ne_eqb (recovery_refusal disk) 0 ne)

module _ (g : Geometry) (disk : Bytes) (states : geometry_in disk ≡ g) (good : recovery_refusal disk ≡ 0) where
  -- ---- not refused ----

  pub recovered_done : recovered disk ≡ with_marks g (used_entries g disk) (without_bits g disk)
  unfolding recovered
  recovered_done =
      cond_true _ _ (eq-eqb (recovery_refusal disk) 0 good)
      ∙ ap (λ (stated : Geometry). with_marks stated (used_entries stated disk) (without_bits stated disk))
      states

  accepted : drive_refusal disk ≡ 0
  accepted = drive_refusal_of_recovery disk good

  f : Fits g
  f = fits_of_accepted g disk states accepted

  whole : length disk ≡ block_count g * g.block_size
  whole = (drive_read disk accepted g (sym states)).whole

  cleared_whole : length (without_bits g disk) ≡ block_count g * g.block_size
  cleared_whole = length-without_bits g f disk whole ∙ whole

  starts : are_starts g (used_entries g disk) ≡ true
  starts = are_starts_of_recovery g disk states good

  -- ---- the bitmap alone is changed ----

  pub same_but_bits-recovered : SameButBits g disk (recovered disk)
  same_but_bits-recovered =
      record {
        same_length =
            ap length recovered_done
            ∙ length-with_marks g f (used_entries g disk) (without_bits g disk) cleared_whole starts
            ∙ length-without_bits g f disk whole;
        elsewhere = λ address h.
            ap (λ (bytes : Bytes). block_at (block_width g) bytes address) recovered_done
            ∙ block_at-with_marks_elsewhere g f (used_entries g disk) (without_bits g disk) cleared_whole starts
            address h
            ∙ block_at-without_bits_elsewhere g f disk whole address h;
      }

  -- ---- its bits are those of the mapped places ----

  bitmap_bit-recovered :
      (place : ℕ) →
      bitmap_bit g (recovered disk) place ≡
      (bitmap_bit g (without_bits g disk) place || is_one_of (area_start g + place) (used_entries g disk))
  bitmap_bit-recovered place =
      ap (λ (bytes : Bytes). bitmap_bit g bytes place) recovered_done
      ∙ bitmap_bit-with_marks g f (used_entries g disk) (without_bits g disk) cleared_whole starts place

  bit_used :
      (place : ℕ) → place < bitmap_blocks g * (8 * g.block_size) → bitmap_bit g (recovered disk) place ≡ true →
      UsedBy g disk 0 g.publics (area_start g + place)
  bit_used place h e =
      let either = sym (bitmap_bit-recovered place) ∙ e in
      used_by_of-is_one_of g disk (area_start g + place) 0 g.publics
      (rw (bitmap_bit-without_bits g f disk whole place h) at either)

  pub rebuilt_recovered : Rebuilt g disk (recovered disk)
  rebuilt_recovered =
      record {
        bit_mapped = λ place h e.
            let used = bit_used place h e in
            (used.owner, omega arith, used.entry_is);
        mapped_bit = λ number place h e.
            bitmap_bit-recovered place
            ∙ or_right (bitmap_bit g (without_bits g disk) place)
            (is_one_of_of-used_by g disk (area_start g + place) 0 g.publics
            (record {
              owner = number;
              low = omega arith;
              high = omega arith;
              mapped = λ z. omega (arith, e, z);
              entry_is = e;
            }));
        same_but_bits = same_but_bits-recovered;
      }

-- ---- a recovery made again ----

module _ (g : Geometry) (disk torn : Bytes) (states : geometry_in disk ≡ g) (good : recovery_refusal disk ≡ 0)
    (same : SameButBits g disk torn) where
  abbrev before : drive_refusal disk ≡ 0
  before = accepted g disk states good

  abbrev states_torn : geometry_in torn ≡ g
  states_torn = geometry_in_torn g disk torn states before same

  recovery_refusal_torn : recovery_refusal torn ≡ 0
  recovery_refusal_torn =
      recovery_refusal_of-good_map g torn states_torn (drive_refusal_torn g disk torn states before same)
      (good_map_same g disk torn (map_entry_torn g disk torn states before same)
      (good_map_of_recovery g disk states good))

  -- without its bits the drive is as before
  without_bits_torn : without_bits g torn ≡ without_bits g disk
  without_bits_torn =
      let fits = f g disk states good in
      let size = whole g disk states good in
      let size-torn = whole g torn states_torn recovery_refusal_torn in
      let outside : (address : DiskAddress) → Elsewhere g address →
      block_at (block_width g) (without_bits g torn) address ≡
      block_at (block_width g) (without_bits g disk) address =
      λ address h.
      block_at-without_bits_elsewhere g fits torn size-torn address h ∙ same.elsewhere address h
      ∙ sym (block_at-without_bits_elsewhere g fits disk size address h) in
      blocks_ext (block_width g) (block_count g) (without_bits g torn) (without_bits g disk)
      (omega (arith, fits.size_low)) (cleared_whole g torn states_torn recovery_refusal_torn)
      (cleared_whole g disk states good)
      (λ address h. ⊎_elim
      (λ low. outside address (inl low))
      (λ low. ⊎_elim
      (λ high.
      block_at-without_bits_zeros g fits torn size-torn address low high
      ∙ sym (block_at-without_bits_zeros g fits disk size address low high))
      (λ high. outside address (inr high)) (lt_cases address (root_address g)))
      (lt_cases address (1 + map_blocks g)))

  pub recovered_again : recovered torn ≡ recovered disk
  recovered_again =
      recovered_done g torn states_torn recovery_refusal_torn
      ∙ ap₂ (with_marks g)
      (used_from_same g torn disk 0 g.publics
      (λ number h. map_entry_torn g disk torn states before same number (omega arith)))
      without_bits_torn
      ∙ sym (recovered_done g disk states good)
