-- Laws of the finds for C: an answer shows what the find shows, and a block that it names lies wholly on the
-- disk; so for both volumes. Assumes nothing.
use mathlib.Core.Path.{◌≡◌, refl, sym, ap, ◌∙◌, subst}
use Prim.Native.Nat.{ℕ, ◌+◌, ◌*◌, ◌≤◌}
use native.Mathlib.Omega.{arith}
use native.Mathlib.Nat.{mul-le-mul_right}
use lib.ListN.{length}
use Rattle.model.specs.Geometry.{block_count}
use Rattle.model.specs.Blocks.{Bytes}
use Rattle.model.specs.Layout.{geometry_in}
use Rattle.model.specs.Calls.{public_read, hidden_read}
use Rattle.model.proofs.Laws.Refusals.{drive_of_refusal}
use Rattle.reads.specs.Finds.{Find, refused_find, blank_find, block_find, public_find, hidden_find}
use Rattle.reads.specs.Finds.{shown_find, BlockInside}
use Rattle.reads.proofs.Laws.Finds.{shown_find-public_find, inside_public_find, shown_find-hidden_find}
use Rattle.reads.proofs.Laws.Finds.{inside_hidden_find}
use Rattle.answers_c.specs.declared.finds.Found.{Found}
use Rattle.answers_c.specs.Finds.{found_of}
use Rattle.mapper_c.specs.Finds.{found_public, found_hidden, shown_by, FindAnswered}

-- ---- any find ----

pub shown_by-found_of :
    (find : Find) (disk blank : Bytes) → shown_by (found_of find) disk blank ≡ shown_find find disk blank
unfolding shown_by
shown_by-found_of (refused_find fault) disk blank = refl
shown_by-found_of blank_find disk blank = refl
shown_by-found_of (block_find address) disk blank = refl

-- an answer of kind 2 names a whole block of the disk
abbrev pub WholeOnDisk : Found → (disk : Bytes) → Type 0
WholeOnDisk answer disk =
    answer.kind ≡ 2 → (answer.address + 1) * (geometry_in disk).block_size ≤ length disk

pub whole_block : (find : Find) (disk : Bytes) → BlockInside find disk → WholeOnDisk (found_of find) disk
whole_block (refused_find fault) disk inside k = absurd (omega arith)
whole_block blank_find disk inside k = absurd (omega arith)
whole_block (block_find address) disk inside k =
    let next : address + 1 ≤ block_count (geometry_in disk) = omega (arith, inside.inside) in
    rw (drive_of_refusal disk inside.accepted).whole (mul-le-mul_right (geometry_in disk).block_size next)

answered :
    (find : Find) (shown disk blank : Bytes) → shown_find find disk blank ≡ shown → BlockInside find disk →
    (answer : Found) → answer ≡ found_of find → FindAnswered (found_of find) shown disk blank answer
answered find shown disk blank shows inside answer e =
    record {
      found_is = e;
      shows = ap (λ (r : Found). shown_by r disk blank) e ∙ shown_by-found_of find disk blank ∙ shows;
      inside = subst (λ (r : Found). WholeOnDisk r disk) (sym e) (whole_block find disk inside);
    }

-- ---- the two volumes ----

module _ (disk : Bytes) (number : ℕ) (blank : Bytes) where
  pub public_answers :
      (answer : Found) → answer ≡ found_public disk number blank →
      FindAnswered (found_public disk number blank) (public_read disk number blank) disk blank answer
  public_answers =
      answered (public_find disk number blank) (public_read disk number blank) disk blank
      (shown_find-public_find disk number blank) (inside_public_find disk number blank)

  pub hidden_answers :
      (answer : Found) → answer ≡ found_hidden disk number blank →
      FindAnswered (found_hidden disk number blank) (hidden_read disk number blank) disk blank answer
  hidden_answers =
      answered (hidden_find disk number blank) (hidden_read disk number blank) disk blank
      (shown_find-hidden_find disk number blank) (inside_hidden_find disk number blank)
