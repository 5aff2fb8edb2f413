-- Laws of entries: length, the four bytes, read after write at the same and at another index, zeros, an entry
-- of a block as one of the disk, and entries packed one after another. Assumes nothing.
use mathlib.Core.Path.{◌≡◌, refl, sym, ap, ◌∙◌, ap₂}
use mathlib.Core.Logic.{◌≢◌, ⊎_elim}
use mathlib.Core.List.{List, [], ◌∷◌, append_assoc, ◌++◌}
use Prim.Native.Nat.{ℕ, suc, ◌+◌, ◌*◌, ◌/◌, ◌%◌, ◌^◌, ◌≤◌, ◌<◌, zero}
use native.Mathlib.Nat.{zero-mul, mul_left_comm}
use native.Mathlib.Numerals.{add-one, add-two, add-three}
use native.Mathlib.Omega.{arith}
use lib.ListN.{length, get_or, drop, set, replicate, length-append}
use lib.Seq.{drop-cons, sets-eq}
use Rattle.laws.specs.Lists.{part, over}
use Rattle.laws.specs.Numbers.{number_of, little_endian}
use Rattle.laws.proofs.Cases.{lt_cases}
use Rattle.laws.proofs.Lists.{part_part, get_d_zeros, get_d_part_zeros, length_over, part_over_same}
use Rattle.laws.proofs.Lists.{part_over_before, part_over_after, part_is, over_is, part_append_front}
use Rattle.laws.proofs.Lists.{part_append_rest}
use Rattle.laws.proofs.Numbers.{length-little_endian, number_of-little_endian, number_of_zeros, number_of_four}
use Rattle.laws.proofs.Numbers.{little_endian_four}
use Rattle.model.specs.Blocks.{Bytes, block_at, entry_at, set_entry, packed}

-- ---- the four bytes ----

drop_one : (bytes : Bytes) (index next : ℕ) → index < length bytes → suc index ≡ next →
    drop index bytes ≡ get_or bytes index 0 ∷ drop next bytes
drop_one bytes index next h e = rw (← e) (drop-cons bytes index 0 h)

part_four :
    (bytes : Bytes) (from : ℕ) → from + 4 ≤ length bytes →
    part from 4 bytes ≡ get_or bytes from 0 ∷ get_or bytes (from + 1) 0 ∷ get_or bytes (from + 2) 0 ∷
    get_or bytes (from + 3) 0 ∷ []
part_four bytes from h =
    rw (
      part_is from 4 bytes,
      drop_one bytes from (from + 1) (omega arith) (omega arith),
      drop_one bytes (from + 1) (from + 2) (omega arith) (omega arith),
      drop_one bytes (from + 2) (from + 3) (omega arith) (omega arith),
      drop_one bytes (from + 3) (from + 4) (omega arith) (omega arith),
    )

pub entry_at_bytes :
    (bytes : Bytes) (index : ℕ) → 4 * index + 4 ≤ length bytes →
    entry_at index bytes ≡
    get_or bytes (4 * index) 0 +
    256 * (get_or bytes (4 * index + 1) 0 + 256 * (get_or bytes (4 * index + 2) 0 + 256 * get_or bytes
    (4 * index + 3) 0))
unfolding entry_at
entry_at_bytes bytes index h =
    let at : ℕ → ℕ = λ n. get_or bytes n 0 in
    ap number_of (part_four bytes (4 * index) h)
    ∙ number_of_four (at (4 * index)) (at (4 * index + 1)) (at (4 * index + 2)) (at (4 * index + 3))

-- four bytes set make an entry
pub set_entry_bytes :
    (bytes : Bytes) (index value : ℕ) → 4 * index + 4 ≤ length bytes →
    set (set (set (set bytes (4 * index) (value % 256)) (4 * index + 1) (value / 256 % 256)) (4 * index + 2)
    (value / 256 / 256 % 256)) (4 * index + 3) (value / 256 / 256 / 256 % 256) ≡
    set_entry index value bytes
unfolding set_entry
set_entry_bytes bytes index value h =
    let four =
    value % 256 ∷ value / 256 % 256 ∷ value / 256 / 256 % 256 ∷ value / 256 / 256 / 256 % 256 ∷ [] in
    rw (
      add-one (4 * index),
      add-two (4 * index),
      add-three (4 * index),
      over_is (4 * index) (little_endian 4 value) bytes,
      little_endian_four value,
    ) (sets-eq four bytes (4 * index) h)

-- ---- zeros ----

-- an entry of what is all 0
entry_at_zeros : (bytes : Bytes) (index : ℕ) → ((at : ℕ) → get_or bytes at 0 ≡ 0) → entry_at index bytes ≡ 0
unfolding entry_at
entry_at_zeros bytes index h =
    number_of_zeros (part (4 * index) 4 bytes) (λ at. get_d_part_zeros (4 * index) 4 at bytes h)

pub entry_at-replicate : (size index : ℕ) → entry_at index (replicate size 0) ≡ 0
entry_at-replicate size index = entry_at_zeros (replicate size 0) index (get_d_zeros size)

-- ---- length, and read after write ----

module _ (index value : ℕ) (bytes : Bytes) (fits : 4 * index + 4 ≤ length bytes) where
  four : 4 * index + length (little_endian 4 value) ≤ length bytes
  four = omega (arith, length-little_endian 4 value)

  pub length-set_entry : length (set_entry index value bytes) ≡ length bytes
  unfolding set_entry
  length-set_entry = length_over (little_endian 4 value) bytes (4 * index) four

  pub entry_at-set_entry_same : value < 2 ^ 32 → entry_at index (set_entry index value bytes) ≡ value
  unfolding entry_at set_entry
  entry_at-set_entry_same h =
      ap (λ (size : ℕ). number_of (part (4 * index) size (over (4 * index) (little_endian 4 value) bytes)))
      (sym (length-little_endian 4 value))
      ∙ ap number_of (part_over_same (little_endian 4 value) bytes (4 * index) four)
      ∙ number_of-little_endian 4 value h

  pub entry_at-set_entry_other : (other : ℕ) → other ≢ index →
      entry_at other (set_entry index value bytes) ≡ entry_at other bytes
  unfolding entry_at set_entry
  entry_at-set_entry_other other ne = ap number_of (⊎_elim below above (lt_cases other index))
    where
      below : other < index → part (4 * other) 4 (over (4 * index) (little_endian 4 value) bytes) ≡
          part (4 * other) 4 bytes
      below h = part_over_before (little_endian 4 value) bytes (4 * index) four (4 * other) 4 (omega arith)

      above : index ≤ other → part (4 * other) 4 (over (4 * index) (little_endian 4 value) bytes) ≡
          part (4 * other) 4 bytes
      above h =
          part_over_after (little_endian 4 value) bytes (4 * index) four (4 * other) 4
          (omega (arith, length-little_endian 4 value))

-- ---- entries of a block ----

pub entry_at-block_at :
    (width : ℕ) (disk : Bytes) (address index : ℕ) → 4 * index + 4 ≤ width →
    entry_at index (block_at width disk address) ≡ number_of (part (address * width + 4 * index) 4 disk)
unfolding entry_at block_at
entry_at-block_at width disk address index h =
    ap number_of (part_part (address * width) width (4 * index) 4 disk h)

-- counted over the whole disk, where a block is so many entries
pub entry_at_disk :
    (width entries : ℕ) (disk : Bytes) (address index : ℕ) → width ≡ 4 * entries → index < entries →
    entry_at (address * entries + index) disk ≡ entry_at index (block_at width disk address)
unfolding entry_at
entry_at_disk width entries disk address index sized h =
    let start : address * width ≡ 4 * (address * entries) =
    ap (λ (n : ℕ). address * n) sized ∙ mul_left_comm address 4 entries in
    let at : 4 * (address * entries + index) ≡ address * width + 4 * index = omega arith in
    ap (λ (n : ℕ). number_of (part n 4 disk)) at
    ∙ sym (entry_at-block_at width disk address index (omega arith))

-- the header's entries are those of block 0
pub entry_at_header :
    (width : ℕ) (disk : Bytes) (index : ℕ) → 4 * index + 4 ≤ width →
    entry_at index disk ≡ entry_at index (block_at width disk 0)
unfolding entry_at
entry_at_header width disk index h =
    let e : 4 * index ≡ 0 * width + 4 * index = omega (arith, zero-mul width) in
    ap (λ (n : ℕ). number_of (part n 4 disk)) e ∙ sym (entry_at-block_at width disk 0 index h)

-- ---- entries packed ----

pub length-packed : (entries : List ℕ) → length (packed entries) ≡ 4 * length entries
unfolding packed
length-packed [] = refl
length-packed (entry ∷ entries) =
    length-append (little_endian 4 entry) (packed entries)
    ∙ omega (arith, length-little_endian 4 entry, length-packed entries)

-- an entry of those packed, whatever comes after them
pub entry_at-packed :
    (entries : List ℕ) (rest : Bytes) (index : ℕ) → index < length entries → get_or entries index 0 < 2 ^ 32 →
    entry_at index (packed entries ++ rest) ≡ get_or entries index 0
unfolding entry_at packed
entry_at-packed [] rest index h small = absurd (omega arith)
entry_at-packed (entry ∷ entries) rest zero h small =
    let four = little_endian 4 entry in
    ap (λ (bytes : Bytes). number_of (part 0 4 bytes)) (append_assoc four (packed entries) rest)
    ∙ ap (λ (size : ℕ). number_of (part 0 size (four ++ (packed entries ++ rest))))
    (sym (length-little_endian 4 entry))
    ∙ ap number_of (part_append_front four (packed entries ++ rest)) ∙ number_of-little_endian 4 entry small
entry_at-packed (entry ∷ entries) rest (suc index) h small =
    let four = little_endian 4 entry in
    let e : 4 * suc index ≡ length four + 4 * index = omega (arith, length-little_endian 4 entry) in
    ap₂ (λ (from : ℕ) (bytes : Bytes). number_of (part from 4 bytes)) e
    (append_assoc four (packed entries) rest)
    ∙ ap number_of (part_append_rest four (packed entries ++ rest) (4 * index) 4)
    ∙ entry_at-packed entries rest index (omega arith) small
