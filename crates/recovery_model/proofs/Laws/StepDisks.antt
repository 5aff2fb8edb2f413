-- Laws of the disks on the way of a recovery: marks set and bits cleared leave a drive whose map is the same,
-- and what is answered and stored by the tests. Assumes nothing.
use mathlib.Core.Path.{◌≡◌, refl, ap, ◌∙◌}
use mathlib.Core.Logic.{◌≢◌, inl, ⊎_elim}
use mathlib.Core.Bool.{true, false, not}
use mathlib.Core.List.{List, []}
use Prim.Native.Nat.{ℕ, ◌+◌, ◌*◌, ◌≤◌, ◌<◌}
use native.Mathlib.Nat.{mul-le-mul_right, add-mul}
use native.Mathlib.Omega.{arith}
use lib.ListN.{length, replicate}
use Rattle.laws.specs.Lists.{over}
use Rattle.laws.specs.Checks.{first_of}
use Rattle.laws.proofs.Cases.{and_both, and_false_left, and_false_right}
use Rattle.laws.proofs.Cases.{bool_cases}
use Rattle.laws.proofs.Checks.{first_of_nil, first_of_stop, first_of_pass}
use Rattle.model.specs.Geometry.{Geometry, block_count, block_width, map_blocks, bitmap_blocks}
use Rattle.model.specs.Blocks.{Bytes, DiskAddress, block_at}
use Rattle.model.specs.Layout.{Drive, geometry_in, map_address}
use Rattle.model.specs.Layout.{map_entry}
use Rattle.model.specs.Refusals.{drive_refusal}
use Rattle.model.proofs.Laws.Geometry.{map_address_lt}
use Rattle.model.proofs.Laws.PublicMap.{map_entry_block}
use Rattle.model.proofs.Laws.Refusals.{after_drive_stop, after_drive_pass}
use Rattle.recovery_model.specs.Recovery.{used_entries, are_starts, are_apart, map_checks, recovery_refusal}
use Rattle.recovery_model.specs.Recovery.{with_marks, without_bits}
use Rattle.recovery_model.proofs.Laws.Used.{used_from_same}
use Rattle.recovery_model.proofs.Laws.Marks.{Elsewhere, length-with_marks, length-without_bits}
use Rattle.recovery_model.proofs.Laws.Marks.{block_at-with_marks_elsewhere}
use Rattle.recovery_model.proofs.Laws.Marks.{block_at-without_bits_elsewhere}

-- ---- a drive with the same map ----

pub record SameMap (g : Geometry) (disk after : Bytes) : Type 0 where
  pub drive : Drive g after
  pub entries_same : (number : ℕ) → number < g.publics → map_entry g after number ≡ map_entry g disk number

module _ (g : Geometry) where
  pub used_entries_same :
      (disk after : Bytes) → SameMap g disk after → used_entries g after ≡ used_entries g disk
  used_entries_same disk after same =
      used_from_same g after disk 0 g.publics (λ number h. same.entries_same number (omega arith))

  -- a disk as long, with the same blocks outside the bitmap
  same_map_elsewhere :
      (disk after : Bytes) → Drive g disk → length after ≡ length disk →
      ((address : DiskAddress) → Elsewhere g address →
      block_at (block_width g) after address ≡ block_at (block_width g) disk address) → SameMap g disk after
  same_map_elsewhere disk after d long same =
      record {
        drive = record { fits = d.fits; whole = long ∙ d.whole };
        entries_same = λ number h.
            map_entry_block g after disk number
            (same (map_address g number) (inl (omega (arith, map_address_lt g d.fits number h))));
      }

  pub same_map-with_marks :
      (entries : List DiskAddress) (disk : Bytes) → Drive g disk → are_starts g entries ≡ true →
      SameMap g disk (with_marks g entries disk)
  same_map-with_marks entries disk d starts =
      same_map_elsewhere disk (with_marks g entries disk) d
      (length-with_marks g d.fits entries disk d.whole starts)
      (block_at-with_marks_elsewhere g d.fits entries disk d.whole starts)

  -- ---- bits cleared ----

  pub without_bits_is :
      (disk : Bytes) → without_bits g disk ≡
      over ((1 + map_blocks g) * g.block_size) (replicate (bitmap_blocks g * g.block_size) 0) disk
  unfolding without_bits
  without_bits_is disk = refl

  module _ (disk : Bytes) (d : Drive g disk) where
    pub bitmap_inside : (1 + map_blocks g) * g.block_size + bitmap_blocks g * g.block_size ≤ length disk
    bitmap_inside =
        let blocks = 1 + map_blocks g + bitmap_blocks g in
        let below : blocks ≤ block_count g = omega arith in
        omega (
          arith,
          d.whole,
          mul-le-mul_right g.block_size below,
          add-mul (1 + map_blocks g) (bitmap_blocks g) g.block_size,
        )

    pub same_map-without_bits : SameMap g disk (without_bits g disk)
    same_map-without_bits =
        same_map_elsewhere disk (without_bits g disk) d (length-without_bits g d.fits disk d.whole)
        (block_at-without_bits_elsewhere g d.fits disk d.whole)

-- ---- 17 ----

module _ (g : Geometry) (disk : Bytes) where
  pub map_checks_no_starts : are_starts g (used_entries g disk) ≡ false → first_of (map_checks g disk) ≡ 17
  unfolding map_checks
  map_checks_no_starts e = first_of_stop 17 [] (ap not (and_false_left (are_apart (used_entries g disk)) e))

  pub map_checks_not_apart : are_apart (used_entries g disk) ≡ false → first_of (map_checks g disk) ≡ 17
  unfolding map_checks
  map_checks_not_apart e =
      first_of_stop 17 [] (ap not (and_false_right (are_starts g (used_entries g disk)) e))

  pub map_checks_good :
      are_starts g (used_entries g disk) ≡ true → are_apart (used_entries g disk) ≡ true →
      first_of (map_checks g disk) ≡ 0
  unfolding map_checks
  map_checks_good starts apart = first_of_pass 17 [] (ap not (and_both starts apart)) ∙ first_of_nil

  pub starts_of_map_checks : first_of (map_checks g disk) ≡ 0 → are_starts g (used_entries g disk) ≡ true
  starts_of_map_checks z = ⊎_elim
      (λ e. e) (λ e. absurd (omega (arith, map_checks_no_starts e)))
      (bool_cases (are_starts g (used_entries g disk)))

-- ---- what is answered and stored ----

module _ (disk : Bytes) where
  pub recovery_refusal_drive : drive_refusal disk ≢ 0 → recovery_refusal disk ≡ drive_refusal disk
  unfolding recovery_refusal
  recovery_refusal_drive ne = after_drive_stop disk (map_checks (geometry_in disk) disk) ne

  pub recovery_refusal-map :
      drive_refusal disk ≡ 0 → recovery_refusal disk ≡ first_of (map_checks (geometry_in disk) disk)
  unfolding recovery_refusal
  recovery_refusal-map e = after_drive_pass disk (map_checks (geometry_in disk) disk) e
