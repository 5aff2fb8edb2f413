-- One call: what it keeps, what it does to a sound drive, and that a sound drive is read without refusal or
-- damage. Assumes nothing.
use mathlib.Core.Path.{◌≡◌, sym, subst}
use lib.ListN.{length, take}
use Rattle.model.specs.Calls.{hidden_read, offered_writes, written}
use Rattle.model.specs.Promises.ReadAfterWrite.{shown_after}
use Rattle.model.specs.Geometry.{Geometry, Fits}
use Rattle.model.specs.Blocks.{Bytes}
use Rattle.model.specs.Layout.{geometry_in}
use Rattle.model.specs.Refusals.{drive_refusal}
use Rattle.model.specs.Runs.{Call, read_public, ask_hidden, write, disk_after}
use Rattle.model.specs.Invariants.{PublicInvariant, BitmapInvariant, HiddenInvariant}
use Rattle.model.specs.Promises.ReadAfterWrite.{Sound, Readable}
use Rattle.model.proofs.Tree.Ghost.{Ghost}
use Rattle.model.proofs.Tree.Walks.{walk_not_damaged}
use Rattle.model.proofs.Tree.FromInvariant.{tree_of, ghost_of_hidden_invariant}
use Rattle.model.proofs.Volumes.Reads.{public_read_accepted, hidden_read_accepted}
use Rattle.model.proofs.Volumes.Writes.{fits_of_accepted}
use Rattle.model.proofs.Volumes.Kept.{write_keeps_public, write_keeps_bitmap, write_keeps_hidden}
use Rattle.model.proofs.Volumes.Kept.{write_keeps_sound, write_keeps_geometry, write_keeps_accepted}
use Rattle.model.proofs.Volumes.Lists.{Stepped, Carries}
use Rattle.model.proofs.Volumes.Shown.{write_carries_public, write_carries_hidden}

-- ---- what a call keeps ----

module _ (g : Geometry) (disk : Bytes) where
  pub call_keeps_geometry :
      (call : Call) → geometry_in disk ≡ g → drive_refusal disk ≡ 0 → geometry_in (disk_after disk call) ≡ g
  call_keeps_geometry (read_public number blank) states accepted = states
  call_keeps_geometry (ask_hidden asked) states accepted = states
  call_keeps_geometry (write number content random list offer) states accepted =
      write_keeps_geometry g disk states accepted number content random (length list) offer

  pub call_keeps_accepted :
      (call : Call) → geometry_in disk ≡ g → drive_refusal disk ≡ 0 → drive_refusal (disk_after disk call) ≡ 0
  call_keeps_accepted (read_public number blank) states accepted = accepted
  call_keeps_accepted (ask_hidden asked) states accepted = accepted
  call_keeps_accepted (write number content random list offer) states accepted =
      write_keeps_accepted g disk states accepted number content random (length list) offer

  pub call_keeps_public :
      (call : Call) → geometry_in disk ≡ g → drive_refusal disk ≡ 0 → PublicInvariant g disk →
      PublicInvariant g (disk_after disk call)
  call_keeps_public (read_public number blank) states accepted public = public
  call_keeps_public (ask_hidden asked) states accepted public = public
  call_keeps_public (write number content random list offer) states accepted public =
      write_keeps_public g disk states accepted number content random (length list) offer public

  pub call_keeps_bitmap :
      (call : Call) → geometry_in disk ≡ g → drive_refusal disk ≡ 0 → PublicInvariant g disk →
      BitmapInvariant g disk → BitmapInvariant g (disk_after disk call)
  call_keeps_bitmap (read_public number blank) states accepted public bitmap = bitmap
  call_keeps_bitmap (ask_hidden asked) states accepted public bitmap = bitmap
  call_keeps_bitmap (write number content random list offer) states accepted public bitmap =
      write_keeps_bitmap g disk states accepted number content random (length list) offer public bitmap

  pub call_keeps_hidden :
      (call : Call) → geometry_in disk ≡ g → drive_refusal disk ≡ 0 → HiddenInvariant g disk →
      HiddenInvariant g (disk_after disk call)
  call_keeps_hidden (read_public number blank) states accepted hidden = hidden
  call_keeps_hidden (ask_hidden asked) states accepted hidden = hidden
  call_keeps_hidden (write number content random list offer) states accepted hidden =
      write_keeps_hidden g disk states accepted number content random (length list) offer hidden

  -- ---- a sound drive ----

  pub call_stepped : (call : Call) → Sound g disk → Stepped g disk call
  call_stepped (read_public number blank) sound =
      record {
        sound = sound;
        public_step = λ other shown h sized before otherwise e. e;
        hidden_step = λ other shown h sized before otherwise e. e;
      }
  call_stepped (ask_hidden asked) sound =
      record {
        sound = sound;
        public_step = λ other shown h sized before otherwise e. e;
        hidden_step = λ other shown h sized before otherwise e. e;
      }
  call_stepped (write number content random list offer) sound =
      record {
        sound = write_keeps_sound g disk sound number content random (length list) offer;
        public_step = λ other blank h sized.
            write_carries_public g disk sound number content random (length list) offer other blank sized h;
        hidden_step = λ other blank h sized.
            subst (λ (stated : Geometry). Carries (hidden_read disk other blank)
            (hidden_read (disk_after disk (write number content random list offer)) other blank)
            (λ before. shown_after (take (written disk number content random (length list) offer).placed
            (offered_writes stated offer)) other before)) (sym sound.geometry)
            (write_carries_hidden g disk sound number content random (length list) offer other blank sized h);
      }

  pub readable_of_sound : Sound g disk → Readable g disk
  readable_of_sound sound =
      record {
        public_answer = λ number blank h sized.
            public_read_accepted g disk sound.geometry sound.accepted number blank sized
            sound.public_sound h;
        hidden_answer = λ number blank h sized.
            hidden_read_accepted g disk sound.geometry sound.accepted number blank sized f
            (tree_of g disk) ghost h;
        no_damage = λ number h. walk_not_damaged g disk (tree_of g disk) ghost.links number h f;
      }
    where
      f : Fits g
      f = fits_of_accepted g disk sound.geometry sound.accepted

      ghost : Ghost g disk (tree_of g disk)
      ghost = ghost_of_hidden_invariant g f disk sound.hidden_sound
