-- What reads of a sound drive show after a write, refused or not: the block that it placed under their
-- number, else what they showed before. Assumes nothing.
use mathlib.Core.Path.{◌≡◌, refl, sym, ap, ◌∙◌}
use mathlib.Core.Logic.{⊎_elim}
use mathlib.Core.Bool.{Bool, true, false, cond, ◌&&◌}
use mathlib.Core.List.{List, [], ◌∷◌}
use mathlib.Core.Option.{Option, some}
use Prim.Native.Nat.{ℕ, ◌<◌}
use lib.Dec.{eqb}
use lib.ListN.{length, take}
use borrow.Author.Tests.{eq-eqb, ne_eqb}
use Rattle.laws.proofs.Cases.{eq_cases, and_false_right, cond_true, cond_false}
use Rattle.model.specs.Geometry.{Geometry, Fits}
use Rattle.model.specs.Blocks.{Bytes}
use Rattle.model.specs.HiddenHalf.{HiddenWrite}
use Rattle.model.specs.Rounds.{Run}
use Rattle.model.specs.Refusals.{write_refusal}
use Rattle.model.specs.Calls.{public_read, hidden_read, Offered, offer_refusal, offered_writes, Written}
use Rattle.model.specs.Calls.{done_write, written, written_disk, or_else}
use Rattle.model.specs.Promises.ReadAfterWrite.{shown_after, Sound}
use Rattle.model.proofs.Tree.Ghost.{Tree, Ghost, value_of}
use Rattle.model.proofs.Tree.FromInvariant.{tree_of, ghost_of_hidden_invariant}
use Rattle.model.proofs.Volumes.Public.{write_preserves_public, public_value, public_value_same}
use Rattle.model.proofs.Volumes.Public.{public_value_other}
use Rattle.model.proofs.Volumes.Reads.{public_read_shows, hidden_read_shows}
use Rattle.model.proofs.Volumes.Progress.{shows_of_progress}
use Rattle.model.proofs.Volumes.Writes.{final_disk, Leaves, fits_of_accepted, write_cases}
use Rattle.model.proofs.Volumes.Lists.{Carries}

-- what is shown, told in two ways, stays so under hidden writes that are placed
pub carries_placed :
    (writes : List HiddenWrite) (number : ℕ) (old before : Option Bytes) (blank otherwise : Bytes) →
    or_else old blank ≡ or_else before otherwise →
    or_else (shown_after writes number old) blank ≡ or_else (shown_after writes number before) otherwise
unfolding shown_after
carries_placed [] number old before blank otherwise e = e
carries_placed (next ∷ later) number old before blank otherwise e =
    carries_placed later number _ _ blank otherwise (by (eqb next.number number))
  where
    by : (is_same : Bool) →
        or_else (cond is_same (some next.content) old) blank ≡
        or_else (cond is_same (some next.content) before) otherwise
    by true = refl
    by false = e

module _ (g : Geometry) (disk : Bytes) (sound : Sound g disk) (number : ℕ) (content random : Bytes) (room : ℕ)
    (offer : Offered) (other : ℕ) (blank : Bytes) (sized : length blank ≡ g.block_size) where
  abbrev refusal : ℕ
  refusal = write_refusal disk number content (length random) room

  abbrev result : Written
  result = written disk number content random room offer

  f : Fits g
  f = fits_of_accepted g disk sound.geometry sound.accepted

  -- ---- public ----

  module _ (h : other < g.publics) where
    abbrev PublicCarried : Written → (final : Bytes) → Type 0
    PublicCarried made final =
        Carries (public_read disk other blank) (public_read final other blank)
        (λ before. cond (eqb number other && eqb made.answer 0) (some content) before)

    module _ (run : Run) (leaves : Leaves g disk number content offer run) where
      abbrev final : Bytes
      final = final_disk g disk run

      value_shown :
          or_else (public_value g final other) blank ≡
          cond (eqb number other) content (public_read disk other blank)
      value_shown = ⊎_elim
          (λ e.
          ap (λ (value : Option Bytes). or_else value blank)
          (ap (public_value g final) (sym e)
          ∙ public_value_same g f disk final number leaves.last content leaves.counted
          sound.public_sound leaves.wrote)
          ∙ sym (cond_true content (public_read disk other blank) (eq-eqb number other e)))
          (λ ne.
          ap (λ (value : Option Bytes). or_else value blank)
          (public_value_other g f disk final number leaves.last content leaves.counted
          sound.public_sound leaves.wrote other h (λ z. ne (sym z)))
          ∙ sym (public_read_shows g disk sound.geometry sound.accepted other blank sized
          sound.public_sound h)
          ∙ sym (cond_false content (public_read disk other blank) (ne_eqb number other ne)))
          (eq_cases number other)

      public_carried : PublicCarried (done_write (offer_refusal g offer) run) final
      public_carried before otherwise e =
          public_read_shows g final leaves.geometry leaves.accepted other blank sized
          (write_preserves_public g f disk final number leaves.last content leaves.counted
          sound.public_sound leaves.wrote) h
          ∙ value_shown ∙ by (eqb number other)
        where
          by : (is_same : Bool) →
              cond is_same content (public_read disk other blank) ≡
              or_else (cond (is_same && true) (some content) before) otherwise
          by true = refl
          by false = e

    pub write_carries_public : PublicCarried result (written_disk result disk)
    write_carries_public =
        write_cases g disk sound.geometry sound.accepted number content random room offer PublicCarried
        (λ ne before otherwise e.
        e
        ∙ ap (λ (value : Option Bytes). or_else value otherwise)
        (sym (cond_false (some content) before (and_false_right (eqb number other) (ne_eqb refusal 0 ne)))))
        public_carried

  -- ---- hidden ----

  module _ (h : other < g.hidden) where
    abbrev HiddenCarried : Written → (final : Bytes) → Type 0
    HiddenCarried made final =
        Carries (hidden_read disk other blank) (hidden_read final other blank)
        (λ before. shown_after (take made.placed (offered_writes g offer)) other before)

    abbrev tree : Tree
    tree = tree_of g disk

    ghost : Ghost g disk tree
    ghost = ghost_of_hidden_invariant g f disk sound.hidden_sound

    hidden_carried :
        (run : Run) → Leaves g disk number content offer run →
        HiddenCarried (done_write (offer_refusal g offer) run) (final_disk g disk run)
    hidden_carried run leaves before otherwise e =
        let grew = leaves.grew tree ghost in
        hidden_read_shows g (final_disk g disk run) leaves.geometry leaves.accepted other blank sized f
        grew.grown grew.ghost h
        ∙ ap (λ (value : Option Bytes). or_else value blank)
        (shows_of_progress g run.state (value_of g disk tree)
        (value_of g (final_disk g disk run) grew.grown) other h (offered_writes g offer)
        grew.progress)
        ∙ carries_placed (take run.state.placed (offered_writes g offer)) other
        (value_of g disk tree other) before blank otherwise
        (sym (hidden_read_shows g disk sound.geometry sound.accepted other blank sized f tree ghost h)
        ∙ e)

    pub write_carries_hidden : HiddenCarried result (written_disk result disk)
    unfolding shown_after
    write_carries_hidden =
        write_cases g disk sound.geometry sound.accepted number content random room offer HiddenCarried
        (λ ne before otherwise e. e) hidden_carried
