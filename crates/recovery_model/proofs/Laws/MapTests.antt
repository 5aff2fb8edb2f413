-- Laws of the two tests of refusal 17, by the numbers: every entry other than 0 is block A of a slot, and no
-- two numbers share one; where a test fails, the numbers that it fails at. Assumes nothing.
use mathlib.Core.Path.{◌≡◌, refl, sym, ap, ◌∙◌}
use mathlib.Core.Logic.{◌≢◌, ◌⊎◌, inl, inr, ⊎_elim}
use mathlib.Core.Bool.{true, false, not}
use mathlib.Core.List.{List, [], ◌∷◌}
use Prim.Native.Nat.{ℕ, zero, suc, ◌+◌, ◌≤◌, ◌<◌}
use native.Mathlib.Omega.{arith}
use lib.Dec.{eqb}
use borrow.Author.Tests.{eqb-true, eq-eqb, not-true}
use Rattle.laws.proofs.Cases.{and_left, and_right, bool_cases, eq_cases, or_cases, or_left, or_right}
use Rattle.laws.proofs.Cases.{true_is_not_false}
use Rattle.model.specs.Geometry.{Geometry, is_one_of}
use Rattle.model.specs.Blocks.{Bytes, DiskAddress}
use Rattle.model.specs.Layout.{is_slot_block, map_entry}
use Rattle.recovery_model.specs.Recovery.{unless_zero, used_from, are_starts, are_apart}
use Rattle.recovery_model.proofs.Laws.Used.{UsedBy, used_by_of-is_one_of, is_one_of_of-used_by}

-- one whose entry is neither 0 nor block A of a slot
pub record Unstarted (g : Geometry) (disk : Bytes) (number count : ℕ) : Type 0 where
  pub owner : ℕ
  pub low : number ≤ owner
  pub high : owner < number + count
  pub mapped : map_entry g disk owner ≢ 0
  pub no_start : is_slot_block g 0 (map_entry g disk owner) ≡ false

-- two that share an entry other than 0
pub record Sharing (g : Geometry) (disk : Bytes) (number count : ℕ) : Type 0 where
  pub first : ℕ
  pub second : ℕ
  pub low : number ≤ first
  pub before : first < second
  pub high : second < number + count
  pub mapped : map_entry g disk first ≢ 0
  pub shared : map_entry g disk first ≡ map_entry g disk second

-- ---- no entry comes twice ----

module _ (g : Geometry) (disk : Bytes) where
  pub apart_of_are_apart :
      (number count : ℕ) → are_apart (used_from g disk number count) ≡ true →
      Sharing g disk number count → ⊥
  unfolding used_from are_apart
  apart_of_are_apart number zero e pair = omega arith
  apart_of_are_apart number (suc count) e pair =
      by (map_entry g disk number) refl e (eq_cases pair.first number)
      (λ low rest.
      apart_of_are_apart (suc number) count rest
      (record {
        first = pair.first;
        second = pair.second;
        low = low;
        before = pair.before;
        high = omega arith;
        mapped = pair.mapped;
        shared = pair.shared;
      }))
    where
      again : (entry : DiskAddress) → map_entry g disk number ≡ entry → pair.first ≡ number →
          UsedBy g disk (suc number) count entry
      again entry p same =
          let e : map_entry g disk pair.second ≡ entry =
          sym pair.shared ∙ ap (map_entry g disk) same ∙ p in
          record {
            owner = pair.second;
            low = omega arith;
            high = omega arith;
            mapped = λ z. pair.mapped (pair.shared ∙ z);
            entry_is = e;
          }

      by : (entry : DiskAddress) → map_entry g disk number ≡ entry →
          are_apart (unless_zero entry (used_from g disk (suc number) count)) ≡ true →
          (pair.first ≡ number) ⊎ (pair.first ≢ number) →
          (suc number ≤ pair.first → are_apart (used_from g disk (suc number) count) ≡ true → ⊥) → ⊥
      by zero p e (inl same) later = pair.mapped (ap (map_entry g disk) same ∙ p)
      by zero p e (inr ne) later = later (omega arith) e
      by (suc entry) p e (inl same) later =
          true_is_not_false
          (is_one_of_of-used_by g disk (suc entry) (suc number) count (again (suc entry) p same))
          (not-true _ (and_left (not (is_one_of (suc entry) (used_from g disk (suc number) count))) _ e))
      by (suc entry) p e (inr ne) later =
          later (omega arith)
          (and_right (not (is_one_of (suc entry) (used_from g disk (suc number) count))) _ e)

  pub sharing_of_are_apart :
      (number count : ℕ) → are_apart (used_from g disk number count) ≡ false → Sharing g disk number count
  unfolding used_from are_apart
  sharing_of_are_apart number zero e = true_is_not_false refl e
  sharing_of_are_apart number (suc count) e =
      by (map_entry g disk number) refl e
      (λ rest.
      let pair = sharing_of_are_apart (suc number) count rest in
      record {
        first = pair.first;
        second = pair.second;
        low = omega arith;
        before = pair.before;
        high = omega arith;
        mapped = pair.mapped;
        shared = pair.shared;
      })
    where
      of_used : (entry : DiskAddress) → map_entry g disk number ≡ entry →
          UsedBy g disk (suc number) count entry → Sharing g disk number (suc count)
      of_used entry p used =
          record {
            first = number;
            second = used.owner;
            low = omega arith;
            before = omega arith;
            high = omega arith;
            mapped = λ z. used.mapped (used.entry_is ∙ sym p ∙ z);
            shared = p ∙ sym used.entry_is;
          }

      by : (entry : DiskAddress) → map_entry g disk number ≡ entry →
          are_apart (unless_zero entry (used_from g disk (suc number) count)) ≡ false →
          (are_apart (used_from g disk (suc number) count) ≡ false → Sharing g disk number (suc count)) →
          Sharing g disk number (suc count)
      by zero p e later = later e
      by (suc entry) p e later =
          let isUsed = is_one_of (suc entry) (used_from g disk (suc number) count) in
          ⊎_elim (λ t. of_used (suc entry) p (used_by_of-is_one_of g disk (suc entry) (suc number) count t))
          (λ t. later (rw t at e)) (bool_cases isUsed)

  pub are_apart_of_apart :
      (number count : ℕ) → (Sharing g disk number count → ⊥) → are_apart (used_from g disk number count) ≡ true
  are_apart_of_apart number count none = ⊎_elim
      (λ e. e) (λ e. absurd (none (sharing_of_are_apart number count e)))
      (bool_cases (are_apart (used_from g disk number count)))

-- ---- every entry is block A of a slot ----

module _ (g : Geometry) where
  is_slot_block_of-are_starts :
      (entries : List DiskAddress) → are_starts g entries ≡ true → (entry : DiskAddress) →
      is_one_of entry entries ≡ true → is_slot_block g 0 entry ≡ true
  unfolding are_starts
  is_slot_block_of-are_starts [] e entry h = true_is_not_false h refl
  is_slot_block_of-are_starts (first ∷ later) e entry h = ⊎_elim
      (λ same. ap (is_slot_block g 0) (eqb-true entry first same) ∙ and_left (is_slot_block g 0 first) _ e)
      (is_slot_block_of-are_starts later (and_right (is_slot_block g 0 first) _ e) entry)
      (or_cases (eqb entry first) _ h)

  -- an entry of a list that is no block A
  record Astray (entries : List DiskAddress) : Type 0 where
    entry : DiskAddress
    is_one : is_one_of entry entries ≡ true
    no_start : is_slot_block g 0 entry ≡ false

  astray_of_are_starts : (entries : List DiskAddress) → are_starts g entries ≡ false → Astray entries
  unfolding are_starts
  astray_of_are_starts [] e = true_is_not_false refl e
  astray_of_are_starts (first ∷ later) e = ⊎_elim
      (λ t.
      let rest = astray_of_are_starts later (rw t at e) in
      record {
        entry = rest.entry;
        is_one = or_right (eqb rest.entry first) rest.is_one;
        no_start = rest.no_start;
      })
      (λ t. record { entry = first; is_one = or_left _ (eq-eqb first first refl); no_start = t })
      (bool_cases (is_slot_block g 0 first))

  module _ (disk : Bytes) (number count : ℕ) where
    pub start_of_used :
        are_starts g (used_from g disk number count) ≡ true → (entry : DiskAddress) →
        UsedBy g disk number count entry → is_slot_block g 0 entry ≡ true
    start_of_used e entry used =
        is_slot_block_of-are_starts (used_from g disk number count) e entry
        (is_one_of_of-used_by g disk entry number count used)

    pub unstarted_of_are_starts :
        are_starts g (used_from g disk number count) ≡ false → Unstarted g disk number count
    unstarted_of_are_starts e =
        let astray = astray_of_are_starts (used_from g disk number count) e in
        let used = used_by_of-is_one_of g disk astray.entry number count astray.is_one in
        record {
          owner = used.owner;
          low = used.low;
          high = used.high;
          mapped = used.mapped;
          no_start = ap (is_slot_block g 0) used.entry_is ∙ astray.no_start;
        }

    pub are_starts_of_starts :
        (Unstarted g disk number count → ⊥) → are_starts g (used_from g disk number count) ≡ true
    are_starts_of_starts none = ⊎_elim
        (λ e. e) (λ e. absurd (none (unstarted_of_are_starts e)))
        (bool_cases (are_starts g (used_from g disk number count)))
