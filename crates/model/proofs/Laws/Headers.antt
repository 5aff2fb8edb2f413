-- Laws of a fresh header: entries written one after another, and the header over zeros as the front of a
-- fresh drive. Assumes nothing.
use mathlib.Core.Path.{◌≡◌, refl, sym, ap, ◌∙◌}
use mathlib.Core.List.{List, [], ◌∷◌, ◌++◌, append_assoc, append-nil}
use Prim.Native.Nat.{ℕ, zero, suc, ◌+◌, ◌*◌, ◌-◌, ◌≤◌}
use native.Mathlib.Nat.{suc-mul, mul-le-mul_right}
use native.Mathlib.Omega.{arith}
use lib.ListN.{length, drop, replicate, length-append, replicate-append-replicate}
use lib.Seq.{drop_at}
use Rattle.laws.specs.Lists.{over}
use Rattle.laws.specs.Numbers.{little_endian}
use Rattle.laws.proofs.Lists.{over_is, over_append, over_nil}
use Rattle.laws.proofs.Numbers.{length-little_endian}
use Rattle.model.specs.Geometry.{Geometry, Fits, area_start, block_count}
use Rattle.model.specs.Blocks.{Bytes, set_entry, packed}
use Rattle.model.specs.Layout.{Drive}
use Rattle.model.specs.Calls.{header_block, fresh_front}
use Rattle.model.proofs.Laws.Entries.{length-packed}

-- B, k, P, H, M and the head 0, in the order in which they stand
abbrev pub fresh_entries : Geometry → List ℕ
fresh_entries g = g.block_size ∷ g.height ∷ g.publics ∷ g.hidden ∷ g.slots ∷ 0 ∷ []

-- ---- entries one after another ----

-- the bytes with entries put from an index on
unfoldable entries_from : (index : ℕ) → (entries : List ℕ) → Bytes → Bytes
entries_from index [] bytes = bytes
entries_from index (entry ∷ entries) bytes = entries_from (suc index) entries (set_entry index entry bytes)

packed-append : (xs ys : List ℕ) → packed (xs ++ ys) ≡ packed xs ++ packed ys
unfolding packed
packed-append [] ys = refl
packed-append (x ∷ xs) ys =
    ap (λ (bytes : Bytes). little_endian 4 x ++ bytes) (packed-append xs ys)
    ∙ sym (append_assoc (little_endian 4 x) (packed xs) (packed ys))

-- one more entry where the packed ones end
set_entry-packed :
    (entries : List ℕ) (entry : ℕ) (bytes : Bytes) → 4 * length entries + 4 ≤ length bytes →
    set_entry (length entries) entry (over 0 (packed entries) bytes) ≡
    over 0 (packed (entries ++ (entry ∷ []))) bytes
unfolding set_entry packed
set_entry-packed entries entry bytes h =
    let size = length-packed entries in
    let four = length-little_endian 4 entry in
    let end : 4 * length entries ≡ 0 + length (packed entries) = omega arith in
    ap (λ (n : ℕ). over n (little_endian 4 entry) (over 0 (packed entries) bytes)) end
    ∙ over_append (packed entries) bytes 0 (omega arith) (little_endian 4 entry) (omega arith)
    ∙ ap (λ (xs : Bytes). over 0 xs bytes)
    (sym (packed-append entries (entry ∷ []) ∙ ap (λ (xs : Bytes). packed entries ++ xs)
    (append-nil (little_endian 4 entry))))

entries_from-packed :
    (entries more : List ℕ) (bytes : Bytes) → 4 * length entries + 4 * length more ≤ length bytes →
    entries_from (length entries) more (over 0 (packed entries) bytes) ≡
    over 0 (packed (entries ++ more)) bytes
unfolding entries_from
entries_from-packed entries [] bytes h = ap (λ (xs : List ℕ). over 0 (packed xs) bytes)
    (sym (append-nil entries))
entries_from-packed entries (entry ∷ more) bytes h =
    let size : length (entries ++ (entry ∷ [])) ≡ suc (length entries) = simp length-append (omega arith) in
    ap (entries_from (suc (length entries)) more) (set_entry-packed entries entry bytes (omega arith))
    ∙ ap (λ (n : ℕ). entries_from n more (over 0 (packed (entries ++ (entry ∷ []))) bytes)) (sym size)
    ∙ entries_from-packed (entries ++ (entry ∷ [])) more bytes (omega arith)
    ∙ ap (λ (xs : List ℕ). over 0 (packed xs) bytes) (append_assoc entries (entry ∷ []) more)

-- the header's six entries
pub header_put :
    (g : Geometry) (disk : Bytes) → 24 ≤ length disk →
    set_entry 5 0 (set_entry 4 g.slots (set_entry 3 g.hidden (set_entry 2 g.publics
    (set_entry 1 g.height (set_entry 0 g.block_size disk))))) ≡
    over 0 (packed (fresh_entries g)) disk
unfolding entries_from packed
header_put g disk h =
    ap (entries_from 0 (fresh_entries g)) (sym (over_nil 0 disk (omega arith)))
    ∙ entries_from-packed [] (fresh_entries g) disk (omega arith)

-- ---- the header over zeros ----

-- a front written over again
over_front :
    (new xs ys bytes : Bytes) → length new ≡ length xs →
    over 0 new (over 0 (xs ++ ys) bytes) ≡ over 0 (new ++ ys) bytes
over_front new xs ys bytes e =
    let size : 0 + length (xs ++ ys) ≡ 0 + length (new ++ ys) = simp length-append (omega arith) in
    let rest = drop (0 + length (new ++ ys)) bytes in
    over_is 0 new (over 0 (xs ++ ys) bytes)
    ∙ ap (λ (zs : Bytes). new ++ drop (0 + length new) zs)
    (over_is 0 (xs ++ ys) bytes ∙ ap (λ (n : ℕ). xs ++ ys ++ drop n bytes) size ∙ append_assoc xs ys rest)
    ∙ ap (λ (zs : Bytes). new ++ zs) (drop_at xs (ys ++ rest) (0 + length new) (omega arith))
    ∙ sym (append_assoc new ys rest) ∙ sym (over_is 0 (new ++ ys) bytes)

zeros_of_blocks : (start size : ℕ) → 1 ≤ start → 24 ≤ size →
    size - 24 + (start - 1) * size ≡ start * size - 24
zeros_of_blocks zero size h k = absurd (omega arith)
zeros_of_blocks (suc start) size h k =
    let e : suc start - 1 ≡ start = omega arith in
    rw e (omega (arith, suc-mul start size))

module _ (g : Geometry) (f : Fits g) where
  length_header : length (packed (fresh_entries g)) ≡ 24
  length_header = length-packed (fresh_entries g)

  front_zeros : 24 + (area_start g * g.block_size - 24) ≡ area_start g * g.block_size
  front_zeros =
      let some : 1 ≤ area_start g = omega arith in
      omega (arith, f.size_low, mul-le-mul_right g.block_size some)

  fresh_front_is : fresh_front g ≡ packed (fresh_entries g) ++ replicate (area_start g * g.block_size - 24) 0
  unfolding fresh_front header_block
  fresh_front_is =
      append_assoc (packed (fresh_entries g)) (replicate (g.block_size - 24) 0)
      (replicate ((area_start g - 1) * g.block_size) 0)
      ∙ ap (λ (xs : Bytes). packed (fresh_entries g) ++ xs)
      (replicate-append-replicate (g.block_size - 24) ((area_start g - 1) * g.block_size) 0
      ∙ ap (λ (n : ℕ). replicate n 0)
      (zeros_of_blocks (area_start g) g.block_size (omega arith) (omega (arith, f.size_low))))

  pub header_over_zeros :
      (disk : Bytes) →
      over 0 (packed (fresh_entries g)) (over 0 (replicate (area_start g * g.block_size) 0) disk) ≡
      over 0 (fresh_front g) disk
  header_over_zeros disk =
      let header = packed (fresh_entries g) in
      let rest : Bytes = replicate (area_start g * g.block_size - 24) 0 in
      ap (λ (xs : Bytes). over 0 header (over 0 xs disk))
      (sym (replicate-append-replicate 24 (area_start g * g.block_size - 24) 0
      ∙ ap (λ (n : ℕ). replicate n 0) front_zeros))
      ∙ over_front header (replicate 24 0) rest disk length_header
      ∙ ap (λ (xs : Bytes). over 0 xs disk) (sym fresh_front_is)

  -- the front ends inside the disk
  pub area_start_inside : (disk : Bytes) → Drive g disk → area_start g * g.block_size ≤ length disk
  area_start_inside disk d =
      let h : area_start g ≤ block_count g = omega arith in
      omega (arith, d.whole, mul-le-mul_right g.block_size h)
