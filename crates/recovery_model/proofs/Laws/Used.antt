-- Laws of the list of the map's entries that are not 0: whose entries are in it, and two disks with the same
-- entries. Assumes nothing.
use mathlib.Core.Path.{◌≡◌, refl, sym, ap, ap₂, ◌∙◌}
use mathlib.Core.Logic.{◌≢◌, ◌⊎◌, inl, inr, ⊎_elim}
use mathlib.Core.Bool.{true}
use Prim.Native.Nat.{ℕ, zero, suc, ◌+◌, ◌≤◌, ◌<◌}
use native.Mathlib.Omega.{arith}
use lib.Dec.{eqb}
use borrow.Author.Tests.{eqb-true, eq-eqb}
use Rattle.laws.proofs.Cases.{eq_cases, or_cases, or_left, or_right, true_is_not_false}
use Rattle.model.specs.Geometry.{Geometry, is_one_of}
use Rattle.model.specs.Blocks.{Bytes, DiskAddress}
use Rattle.model.specs.Layout.{map_entry}
use Rattle.recovery_model.specs.Recovery.{unless_zero, used_from}

-- two disks with the same entries
pub used_from_same :
    (g : Geometry) (disk other : Bytes) (number count : ℕ) →
    ((at : ℕ) → at < number + count → map_entry g disk at ≡ map_entry g other at) →
    used_from g disk number count ≡ used_from g other number count
unfolding used_from
used_from_same g disk other number zero same = refl
used_from_same g disk other number (suc count) same =
    ap₂ unless_zero (same number (omega arith))
    (used_from_same g disk other (suc number) count (λ at h. same at (omega arith)))

-- ---- whose entries are in the list ----

-- a number of so many from one on whose entry is this one, which is not 0
pub record UsedBy (g : Geometry) (disk : Bytes) (number count : ℕ) (entry : DiskAddress) : Type 0 where
  pub owner : ℕ
  pub low : number ≤ owner
  pub high : owner < number + count
  pub mapped : map_entry g disk owner ≢ 0
  pub entry_is : map_entry g disk owner ≡ entry

module _ (g : Geometry) (disk : Bytes) where
  -- the first number's, or a later one's
  used_cases :
      (entry : DiskAddress) (number count : ℕ) → UsedBy g disk number (suc count) entry →
      (map_entry g disk number ≡ entry) ⊎ UsedBy g disk (suc number) count entry
  used_cases entry number count used = ⊎_elim
      (λ e. inl (ap (map_entry g disk) (sym e) ∙ used.entry_is))
      (λ ne.
      inr (record {
        owner = used.owner;
        low = omega arith;
        high = omega arith;
        mapped = used.mapped;
        entry_is = used.entry_is;
      })) (eq_cases used.owner number)

  used_later :
      (entry : DiskAddress) (number count : ℕ) → UsedBy g disk (suc number) count entry →
      UsedBy g disk number (suc count) entry
  used_later entry number count used =
      record {
        owner = used.owner;
        low = omega arith;
        high = omega arith;
        mapped = used.mapped;
        entry_is = used.entry_is;
      }

  pub used_by_of-is_one_of :
      (entry : DiskAddress) (number count : ℕ) → is_one_of entry (used_from g disk number count) ≡ true →
      UsedBy g disk number count entry
  unfolding used_from
  used_by_of-is_one_of entry number zero e = true_is_not_false e refl
  used_by_of-is_one_of entry number (suc count) e =
      by (map_entry g disk number) refl e
      (λ later. used_later entry number count (used_by_of-is_one_of entry (suc number) count later))
    where
      by : (first : DiskAddress) → map_entry g disk number ≡ first →
          is_one_of entry (unless_zero first (used_from g disk (suc number) count)) ≡ true →
          (is_one_of entry (used_from g disk (suc number) count) ≡ true →
          UsedBy g disk number (suc count) entry) →
          UsedBy g disk number (suc count) entry
      by zero p e later = later e
      by (suc first) p e later = ⊎_elim
          (λ same.
          record {
            owner = number;
            low = omega arith;
            high = omega arith;
            mapped = λ z. omega arith;
            entry_is = p ∙ sym (eqb-true entry (suc first) same);
          })
          later (or_cases (eqb entry (suc first)) _ e)

  pub is_one_of_of-used_by :
      (entry : DiskAddress) (number count : ℕ) → UsedBy g disk number count entry →
      is_one_of entry (used_from g disk number count) ≡ true
  unfolding used_from
  is_one_of_of-used_by entry number zero used = absurd (omega arith)
  is_one_of_of-used_by entry number (suc count) used =
      by (map_entry g disk number) refl (used_cases entry number count used)
      (is_one_of_of-used_by entry (suc number) count)
    where
      by : (first : DiskAddress) → map_entry g disk number ≡ first →
          (map_entry g disk number ≡ entry) ⊎ UsedBy g disk (suc number) count entry →
          (UsedBy g disk (suc number) count entry →
          is_one_of entry (used_from g disk (suc number) count) ≡ true) →
          is_one_of entry (unless_zero first (used_from g disk (suc number) count)) ≡ true
      by zero p (inl same) later = absurd (used.mapped (used.entry_is ∙ sym same ∙ p))
      by zero p (inr rest) later = later rest
      by (suc first) p (inl same) later = or_left _ (eq-eqb entry (suc first) (sym same ∙ p))
      by (suc first) p (inr rest) later = or_right (eqb entry (suc first)) (later rest)
