-- What a write keeps of a drive, refused or not: its geometry, that refusals 1 to 3 do not meet it, and the
-- invariants of its volumes. Assumes nothing.
use mathlib.Core.Path.{◌≡◌}
use Prim.Native.Nat.{ℕ}
use Rattle.model.specs.Geometry.{Geometry, Fits}
use Rattle.model.specs.Blocks.{Bytes}
use Rattle.model.specs.Layout.{geometry_in}
use Rattle.model.specs.Refusals.{drive_refusal}
use Rattle.model.specs.Calls.{Offered, Written, written, written_disk}
use Rattle.model.specs.Invariants.{PublicInvariant, BitmapInvariant, HiddenInvariant}
use Rattle.model.specs.Promises.ReadAfterWrite.{Sound}
use Rattle.model.proofs.Tree.Invariant.{hidden_invariant_of_ghost}
use Rattle.model.proofs.Tree.FromInvariant.{tree_of, ghost_of_hidden_invariant}
use Rattle.model.proofs.Volumes.Public.{write_preserves_public}
use Rattle.model.proofs.Volumes.Bitmap.{write_preserves_bitmap}
use Rattle.model.proofs.Volumes.Writes.{final_disk, fits_of_accepted, write_cases}

module _ (g : Geometry) (disk : Bytes) (states : geometry_in disk ≡ g) (accepted : drive_refusal disk ≡ 0)
    (number : ℕ) (content random : Bytes) (room : ℕ) (offer : Offered) where
  -- the disk after the write
  abbrev after : Bytes
  after = written_disk (written disk number content random room offer) disk

  f : Fits g
  f = fits_of_accepted g disk states accepted

  pub write_keeps_geometry : geometry_in after ≡ g
  write_keeps_geometry =
      write_cases g disk states accepted number content random room offer
      (λ (made : Written) (final : Bytes). geometry_in final ≡ g) (λ ne. states)
      (λ run leaves. leaves.geometry)

  pub write_keeps_accepted : drive_refusal after ≡ 0
  write_keeps_accepted =
      write_cases g disk states accepted number content random room offer
      (λ (made : Written) (final : Bytes). drive_refusal final ≡ 0) (λ ne. accepted)
      (λ run leaves. leaves.accepted)

  pub write_keeps_public : PublicInvariant g disk → PublicInvariant g after
  write_keeps_public public =
      write_cases g disk states accepted number content random room offer
      (λ (made : Written) (final : Bytes). PublicInvariant g final) (λ ne. public)
      (λ run leaves.
      write_preserves_public g f disk (final_disk g disk run) number leaves.last content leaves.counted
      public leaves.wrote)

  pub write_keeps_bitmap : PublicInvariant g disk → BitmapInvariant g disk → BitmapInvariant g after
  write_keeps_bitmap public bitmap =
      write_cases g disk states accepted number content random room offer
      (λ (made : Written) (final : Bytes). BitmapInvariant g final) (λ ne. bitmap)
      (λ run leaves.
      write_preserves_bitmap g disk (final_disk g disk run) number leaves.last content leaves.counted
      public bitmap leaves.wrote)

  pub write_keeps_hidden : HiddenInvariant g disk → HiddenInvariant g after
  write_keeps_hidden hidden =
      write_cases g disk states accepted number content random room offer
      (λ (made : Written) (final : Bytes). HiddenInvariant g final) (λ ne. hidden)
      (λ run leaves.
      let grew = leaves.grew (tree_of g disk) (ghost_of_hidden_invariant g f disk hidden) in
      hidden_invariant_of_ghost g f (final_disk g disk run) grew.grown grew.ghost)

-- a sound drive stays sound
pub write_keeps_sound :
    (g : Geometry) (disk : Bytes) → Sound g disk → (number : ℕ) (content random : Bytes) (room : ℕ)
    (offer : Offered) → Sound g (written_disk (written disk number content random room offer) disk)
write_keeps_sound g disk sound number content random room offer =
    let states = sound.geometry in
    let accepted = sound.accepted in
    let public = sound.public_sound in
    record {
      geometry = write_keeps_geometry g disk states accepted number content random room offer;
      accepted = write_keeps_accepted g disk states accepted number content random room offer;
      public_sound = write_keeps_public g disk states accepted number content random room offer public;
      bitmap_sound =
          write_keeps_bitmap g disk states accepted number content random room offer public
          sound.bitmap_sound;
      hidden_sound =
          write_keeps_hidden g disk states accepted number content random room offer sound.hidden_sound;
    }
