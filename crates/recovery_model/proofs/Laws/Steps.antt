-- Laws of the map's entries taken one number at a time: the list with one more number at its end and the rest
-- after it, and each test of the list, and the marks, over its parts. Assumes nothing.
use mathlib.Core.Path.{◌≡◌, refl, sym, ap, ◌∙◌}
use mathlib.Core.Logic.{◌≢◌}
use mathlib.Core.Bool.{true, not, ◌&&◌, and_assoc, and-true}
use mathlib.Core.List.{List, [], ◌∷◌, ◌++◌}
use Prim.Native.Nat.{ℕ, zero, suc, ◌+◌, ◌-◌, ◌≤◌, ◌<◌}
use native.Mathlib.Omega.{arith}
use Rattle.laws.proofs.Cases.{and_left, and_right}
use Rattle.model.specs.Geometry.{Geometry, is_one_of}
use Rattle.model.specs.Blocks.{Bytes, DiskAddress}
use Rattle.model.specs.Layout.{slot_of, is_slot_block, map_entry}
use Rattle.recovery_model.specs.Recovery.{unless_zero, used_from, used_entries, are_starts, are_apart}
use Rattle.recovery_model.specs.Recovery.{with_mark, with_marks}

-- ---- an entry in front ----

pub unless_zero-zero :
    (entry : DiskAddress) (later : List DiskAddress) → entry ≡ 0 → unless_zero entry later ≡ later
unless_zero-zero entry later e = rw e

pub unless_zero_some :
    (entry : DiskAddress) (later : List DiskAddress) → entry ≢ 0 → unless_zero entry later ≡ entry ∷ later
unless_zero_some zero later ne = absurd (ne refl)
unless_zero_some (suc entry) later ne = refl

unless_zero-append :
    (entry : DiskAddress) (later last : List DiskAddress) →
    unless_zero entry (later ++ last) ≡ unless_zero entry later ++ last
unless_zero-append zero later last = refl
unless_zero-append (suc entry) later last = refl

-- ---- the list by its numbers ----

module _ (g : Geometry) (disk : Bytes) where
  pub used_from-zero : (number : ℕ) → used_from g disk number 0 ≡ []
  unfolding used_from
  used_from-zero number = refl

  -- so many numbers, and so many after them
  used_from-append :
      (number count more : ℕ) →
      used_from g disk number (count + more) ≡
      used_from g disk number count ++ used_from g disk (number + count) more
  unfolding used_from
  used_from-append number zero more =
      let e : zero + more ≡ more = omega arith in
      let h : number + zero ≡ number = omega arith in
      rw (e, h)
  used_from-append number (suc count) more =
      let e : suc count + more ≡ suc (count + more) = omega arith in
      let h : suc number + count ≡ number + suc count = omega arith in
      rw e
      (ap (unless_zero (map_entry g disk number)) (rw h at (used_from-append (suc number) count more))
      ∙ unless_zero-append (map_entry g disk number) (used_from g disk (suc number) count)
      (used_from g disk (number + suc count) more))

  -- one more number at the end
  pub used_from_end :
      (number : ℕ) →
      used_from g disk 0 (number + 1) ≡ used_from g disk 0 number ++ unless_zero (map_entry g disk number) []
  unfolding used_from
  used_from_end number =
      let e : 0 + number ≡ number = omega arith in
      rw e at (used_from-append 0 number 1)

  -- the entries of the numbers before one, and the rest
  pub used_entries_split :
      (number : ℕ) → number ≤ g.publics →
      used_entries g disk ≡ used_from g disk 0 number ++ used_from g disk number (g.publics - number)
  used_entries_split number h =
      let e : g.publics ≡ number + (g.publics - number) = omega arith in
      let z : 0 + number ≡ number = omega arith in
      ap (used_from g disk 0) e ∙ rw z at (used_from-append 0 number (g.publics - number))

-- ---- every entry is block A of a slot ----

module _ (g : Geometry) where
  pub are_starts_nil : are_starts g [] ≡ true
  unfolding are_starts
  are_starts_nil = refl

  pub are_starts-cons :
      (entry : DiskAddress) (later : List DiskAddress) →
      are_starts g (entry ∷ later) ≡ (is_slot_block g 0 entry && are_starts g later)
  unfolding are_starts
  are_starts-cons entry later = refl

  pub are_starts-append :
      (front rest : List DiskAddress) →
      are_starts g (front ++ rest) ≡ (are_starts g front && are_starts g rest)
  unfolding are_starts
  are_starts-append [] rest = refl
  are_starts-append (entry ∷ front) rest =
      rw (are_starts-append front rest)
      (sym (and_assoc (is_slot_block g 0 entry) (are_starts g front) (are_starts g rest)))

  -- of one entry: a 0 passes, any other is to be one
  pub are_starts-zero : (entry : DiskAddress) → entry ≡ 0 → are_starts g (unless_zero entry []) ≡ true
  are_starts-zero entry e = ap (are_starts g) (unless_zero-zero entry [] e) ∙ are_starts_nil

  pub are_starts_some :
      (entry : DiskAddress) → entry ≢ 0 → are_starts g (unless_zero entry []) ≡ is_slot_block g 0 entry
  unfolding are_starts
  are_starts_some entry ne = ap (are_starts g) (unless_zero_some entry [] ne) ∙ and-true (is_slot_block g 0 entry)

  -- each entry of a list that passes
  are_starts_of_front :
      (front rest : List DiskAddress) → are_starts g (front ++ rest) ≡ true → are_starts g front ≡ true
  are_starts_of_front front rest e =
      and_left (are_starts g front) (are_starts g rest) (sym (are_starts-append front rest) ∙ e)

  pub start_of_are_starts :
      (disk : Bytes) → are_starts g (used_entries g disk) ≡ true → (number : ℕ) → number < g.publics →
      are_starts g (unless_zero (map_entry g disk number) []) ≡ true
  start_of_are_starts disk e number h =
      let front = used_from g disk 0 number in
      let one = unless_zero (map_entry g disk number) [] in
      let next = are_starts_of_front (used_from g disk 0 (number + 1)) _
      (ap (are_starts g) (sym (used_entries_split g disk (number + 1) (omega arith))) ∙ e) in
      and_right (are_starts g front) (are_starts g one)
      (sym (are_starts-append front one) ∙ ap (are_starts g) (sym (used_from_end g disk number)) ∙ next)

-- ---- no entry comes twice ----

pub are_apart_nil : are_apart [] ≡ true
unfolding are_apart
are_apart_nil = refl

pub are_apart-cons :
    (entry : DiskAddress) (later : List DiskAddress) →
    are_apart (entry ∷ later) ≡ (not (is_one_of entry later) && are_apart later)
unfolding are_apart
are_apart-cons entry later = refl

-- ---- marks ----

module _ (g : Geometry) where
  pub with_marks_nil : (disk : Bytes) → with_marks g [] disk ≡ disk
  unfolding with_marks
  with_marks_nil disk = refl

  pub with_marks-append :
      (front rest : List DiskAddress) (disk : Bytes) →
      with_marks g (front ++ rest) disk ≡ with_marks g rest (with_marks g front disk)
  unfolding with_marks
  with_marks-append [] rest disk = refl
  with_marks-append (entry ∷ front) rest disk =
      with_marks-append front rest (with_mark g (slot_of g entry) disk)

  -- of one entry: a 0 marks nothing
  pub with_marks-zero :
      (entry : DiskAddress) (disk : Bytes) → entry ≡ 0 → with_marks g (unless_zero entry []) disk ≡ disk
  with_marks-zero entry disk e =
      ap (λ (used : List DiskAddress). with_marks g used disk) (unless_zero-zero entry [] e)
      ∙ with_marks_nil disk

  pub with_marks_some :
      (entry : DiskAddress) (disk : Bytes) → entry ≢ 0 →
      with_marks g (unless_zero entry []) disk ≡ with_mark g (slot_of g entry) disk
  unfolding with_marks
  with_marks_some entry disk ne =
      ap (λ (used : List DiskAddress). with_marks g used disk) (unless_zero_some entry [] ne)
