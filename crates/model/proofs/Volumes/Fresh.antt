-- A formatted drive: its volumes are sound and empty, so that every read shows the blank. Assumes nothing.
use mathlib.Core.Path.{◌≡◌, ap, ◌∙◌}
use mathlib.Core.Option.{Option}
use Prim.Native.Nat.{ℕ, ◌<◌}
use lib.ListN.{length}
use borrow.Author.Tests.{eq-eqb}
use Rattle.laws.proofs.Cases.{true_is_not_false, cond_true}
use Rattle.model.specs.Calls.{or_else}
use Rattle.model.specs.Geometry.{Geometry}
use Rattle.model.specs.Blocks.{Bytes}
use Rattle.model.specs.Layout.{map_entry}
use Rattle.model.specs.Refusals.{format_refusal}
use Rattle.model.specs.Calls.{formatted, public_read, hidden_read}
use Rattle.model.specs.Invariants.{PublicInvariant, BitmapInvariant}
use Rattle.model.specs.Promises.ReadAfterWrite.{Sound}
use Rattle.model.proofs.Laws.Formatting.{fits_formatted, geometry-formatted, refusal_formatted}
use Rattle.model.proofs.Laws.Formatting.{root_formatted, map_entry-formatted, bitmap_bit-formatted}
use Rattle.model.proofs.Tree.Ghost.{Ghost, empty_tree, ghost_empty}
use Rattle.model.proofs.Tree.Invariant.{hidden_invariant_of_ghost}
use Rattle.model.proofs.Volumes.Reads.{public_read_shows, hidden_read_shows}

module _ (disk : Bytes) (g : Geometry) (good : format_refusal disk g ≡ 0) where
  formatted_public : PublicInvariant g (formatted disk g)
  formatted_public =
      record {
        in_place = λ number h ne. absurd (ne (map_entry-formatted disk g good number h));
        apart = λ number other h k ne e. absurd (ne (map_entry-formatted disk g good number h));
      }

  formatted_bitmap : BitmapInvariant g (formatted disk g)
  formatted_bitmap =
      record { mapped = λ place h e. true_is_not_false e (bitmap_bit-formatted disk g good place h) }

  formatted_ghost : Ghost g (formatted disk g) empty_tree
  formatted_ghost = ghost_empty g (formatted disk g) (root_formatted disk g good)

  pub formatted_sound : Sound g (formatted disk g)
  formatted_sound =
      record {
        geometry = geometry-formatted disk g good;
        accepted = refusal_formatted disk g good;
        public_sound = formatted_public;
        bitmap_sound = formatted_bitmap;
        hidden_sound =
            hidden_invariant_of_ghost g (fits_formatted disk g good) (formatted disk g) empty_tree
            formatted_ghost;
      }

  pub public_read-formatted :
      (number : ℕ) (blank : Bytes) → number < g.publics → length blank ≡ g.block_size →
      public_read (formatted disk g) number blank ≡ blank
  public_read-formatted number blank h sized =
      public_read_shows g (formatted disk g) (geometry-formatted disk g good) (refusal_formatted disk g good)
      number blank sized formatted_public h
      ∙ ap (λ (value : Option Bytes). or_else value blank)
      (cond_true _ _ (eq-eqb (map_entry g (formatted disk g) number) 0
      (map_entry-formatted disk g good number h)))

  pub hidden_read-formatted :
      (number : ℕ) (blank : Bytes) → number < g.hidden → length blank ≡ g.block_size →
      hidden_read (formatted disk g) number blank ≡ blank
  hidden_read-formatted number blank h sized =
      hidden_read_shows g (formatted disk g) (geometry-formatted disk g good) (refusal_formatted disk g good)
      number blank sized (fits_formatted disk g good) empty_tree formatted_ghost h
