-- Laws of the bitmap cleared, and of the loop that marks every number's slot. Assumes nothing.
use mathlib.Core.Path.{◌≡◌, sym, ap, ap₂, ◌∙◌}
use mathlib.Core.Bool.{true}
use mathlib.Core.List.{List, []}
use Prim.Native.Nat.{ℕ, ◌+◌, ◌*◌, ◌≤◌, ◌<◌}
use native.Mathlib.Omega.{arith}
use lib.ListN.{replicate}
use Rattle.laws.specs.Lists.{over}
use Rattle.laws.proofs.Cases.{and_left}
use Rattle.model.specs.Geometry.{Geometry, map_blocks, bitmap_blocks}
use Rattle.model.specs.Blocks.{Bytes, DiskAddress}
use Rattle.model.specs.Layout.{Drive, map_entry}
use Rattle.recovery_model.specs.Recovery.{unless_zero, used_from, are_starts, with_marks}
use Rattle.recovery_model.specs.Recovery.{without_bits}
use Rattle.recovery_model.proofs.Laws.Steps.{used_from-zero, used_from_end, used_entries_split, are_starts-append}
use Rattle.recovery_model.proofs.Laws.Steps.{start_of_are_starts, with_marks_nil, with_marks-append}
use Rattle.recovery_model.proofs.Laws.StepDisks.{SameMap, same_map-with_marks}
use Rattle.recovery_model.proofs.Laws.StepDisks.{without_bits_is}
use Rattle.recovery.specs.Windows.{Started}

-- ---- the bitmap cleared ----

module _ (g : Geometry) (disk : Bytes) (drive : Drive g disk) (map bitmap : ℕ) (m : map ≡ map_blocks g)
    (b : bitmap ≡ bitmap_blocks g) where
  pub bits_cleared :
      over ((1 + map) * g.block_size) (replicate (bitmap * g.block_size) 0) disk ≡ without_bits g disk
  bits_cleared = rw (m, b) (sym (without_bits_is g disk))

-- ---- the slots marked ----

-- those of the numbers before one are marked, and the map is as it was
pub record Marking (g : Geometry) (disk : Bytes) (number : ℕ) (now : Bytes) : Type 0 where
  pub marked : now ≡ with_marks g (used_from g disk 0 number) disk
  pub same : SameMap g disk now

module _ (g : Geometry) (disk : Bytes) (started : Started g disk) where
  marking_of :
      (number : ℕ) → number ≤ g.publics → (now : Bytes) → now ≡ with_marks g (used_from g disk 0 number) disk →
      Marking g disk number now
  marking_of number h now e =
      let used = used_from g disk 0 number in
      let starts : are_starts g used ≡ true =
      and_left (are_starts g used) _
      (sym (are_starts-append g used _) ∙ ap (are_starts g) (sym (used_entries_split g disk number h))
      ∙ started.starts) in
      record {
        marked = e;
        same = rw e (same_map-with_marks g used disk started.drive starts);
      }

  pub marking_none : Marking g disk 0 disk
  marking_none =
      marking_of 0 (omega arith) disk
      (sym (ap (λ (used : List DiskAddress). with_marks g used disk) (used_from-zero g disk 0)
      ∙ with_marks_nil g disk))

  module _ (number : ℕ) (now : Bytes) (before : Marking g disk number now) where
    module _ (inside : number < g.publics) (entry : DiskAddress) (told : entry ≡ map_entry g now number) where
      entry_is : entry ≡ map_entry g disk number
      entry_is = told ∙ before.same.entries_same number inside

      pub marking_start : are_starts g (unless_zero entry []) ≡ true
      marking_start =
          ap (λ (at : DiskAddress). are_starts g (unless_zero at [])) entry_is
          ∙ start_of_are_starts g disk started.starts number inside

      pub marking_next :
          (after : Bytes) → after ≡ with_marks g (unless_zero entry []) now → Marking g disk (number + 1) after
      marking_next after e =
          marking_of (number + 1) (omega arith) after
          (e
          ∙ ap₂ (λ (at : DiskAddress) (bytes : Bytes). with_marks g (unless_zero at []) bytes) entry_is
          before.marked
          ∙ sym (with_marks-append g (used_from g disk 0 number) (unless_zero (map_entry g disk number) []) disk)
          ∙ ap (λ (used : List DiskAddress). with_marks g used disk) (sym (used_from_end g disk number)))
