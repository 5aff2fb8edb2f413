-- The view of a drive: its front is the disk's, so header, map and bitmap read the same from it; and two
-- views are equal exactly if the two disks show the same at every address. Assumes nothing.
use mathlib.Core.Path.{◌≡◌, refl, sym, ap, ap₂, ◌∙◌}
use mathlib.Core.Logic.{⊎_elim}
use mathlib.Core.Bool.{Bool, true, false, cond}
use mathlib.Core.List.{[], ◌++◌}
use Prim.Native.Nat.{ℕ, zero, suc, ◌+◌, ◌*◌, ◌≤◌, ◌<◌}
use native.Mathlib.Omega.{arith}
use lib.ListN.{length}
use Rattle.laws.specs.Lists.{part}
use Rattle.laws.proofs.Cases.{lt_cases, eq_cases}
use Rattle.laws.proofs.Joins.{append_split}
use Rattle.laws.proofs.Lists.{part_append_front, part_append_rest}
use Rattle.model.specs.Geometry.{Geometry, root_address, block_count, block_width}
use Rattle.model.specs.Blocks.{Bytes, DiskAddress, block_at, entry_at}
use Rattle.model.specs.Layout.{Drive, geometry_in, map_address, map_entry, bit_address, is_allocated}
use Rattle.model.specs.View.{is_shown, shown_of, view_from, view_of}
use Rattle.model.proofs.Laws.Geometry.{map_address_lt, bit_address_lt, geometry_ext}
use Rattle.model.proofs.Laws.Blocks.{length-block_at}
use Rattle.model.proofs.Laws.Entries.{entry_at_header}
use Rattle.model.proofs.Laws.Bitmap.{is_allocated_block}
use Rattle.model.proofs.Laws.PublicMap.{map_entry_block}
use Rattle.model.proofs.Views.Shown.{is_shown_below, is_shown_past, shown_of_shown, shown_of_hidden}
use Rattle.model.proofs.Views.Shown.{ShowSame}

-- what an address shows of a disk
abbrev shown_at : Geometry → (disk : Bytes) → DiskAddress → Bytes
shown_at g disk address = shown_of g address (block_at (block_width g) disk address)

-- ---- one disk ----

module _ (g : Geometry) (disk : Bytes) (whole : length disk ≡ block_count g * g.block_size) where
  length-shown_at :
      (address : DiskAddress) → address < block_count g →
      length (shown_at g disk address) ≡ cond (is_shown g address) g.block_size 0
  unfolding shown_of
  length-shown_at address h =
      by (is_shown g address) (block_at (block_width g) disk address)
      (length-block_at (block_width g) disk (block_count g) whole address h)
    where
      by : (b : Bool) (block : Bytes) → length block ≡ g.block_size →
          length (cond b block []) ≡ cond b g.block_size 0
      by true block e = e
      by false block e = refl

  -- before the root the view stands as the disk does
  block_at-view_from :
      (count address index : ℕ) → index < count → address + index < root_address g →
      block_at (block_width g) (view_from g disk address count) index ≡
      block_at (block_width g) disk (address + index)
  unfolding view_from block_at
  block_at-view_from zero address index h l = absurd (omega arith)
  block_at-view_from (suc count) address zero h l =
      let block = block_at (block_width g) disk address in
      let e : address + 0 ≡ address = omega arith in
      let z : 0 * g.block_size ≡ 0 = omega arith in
      let s : is_shown g address ≡ true = is_shown_below g address (omega arith) in
      let sized = length-block_at (block_width g) disk (block_count g) whole address (omega arith) in
      let later = view_from g disk (suc address) count in
      rw (e, z, shown_of_shown g address block s)
      (ap (λ (size : ℕ). part 0 size (block ++ later)) (sym sized) ∙ part_append_front block later)
  block_at-view_from (suc count) address (suc index) h l =
      let block = block_at (block_width g) disk address in
      let e : suc address + index ≡ address + suc index = omega arith in
      let s : is_shown g address ≡ true = is_shown_below g address (omega arith) in
      let sized = length-block_at (block_width g) disk (block_count g) whole address (omega arith) in
      let z : suc index * g.block_size ≡ length block + index * g.block_size = omega arith in
      rw (
        z,
        shown_of_shown g address block s,
        part_append_rest block (view_from g disk (suc address) count) (index * g.block_size) g.block_size,
      )
      (block_at-view_from count (suc address) index (omega arith) (omega arith)
      ∙ ap (block_at (block_width g) disk) e)

-- ---- two disks ----

module _ (g : Geometry) (disk other : Bytes) where
  pub view_from_alike :
      ShowSame g disk other → (count address : ℕ) →
      view_from g disk address count ≡ view_from g other address count
  unfolding view_from
  view_from_alike same zero address = refl
  view_from_alike same (suc count) address =
      ap₂ (λ (xs ys : Bytes). xs ++ ys) (same.same_shown address) (view_from_alike same count (suc address))

  module _ (whole : length disk ≡ block_count g * g.block_size)
      (other_whole : length other ≡ block_count g * g.block_size) where
    shown_at_of-view_from :
        (count address index : ℕ) → address + count ≤ block_count g →
        view_from g disk address count ≡ view_from g other address count → address ≤ index →
        index < address + count → shown_at g disk index ≡ shown_at g other index
    unfolding view_from
    shown_at_of-view_from zero address index h e low high = absurd (omega arith)
    shown_at_of-view_from (suc count) address index h e low high =
        let sized : length (shown_at g disk address) ≡ length (shown_at g other address) =
        length-shown_at g disk whole address (omega arith)
        ∙ sym (length-shown_at g other other_whole address (omega arith)) in
        let parts =
        append_split (shown_at g disk address) (shown_at g other address) (view_from g disk (suc address) count)
        (view_from g other (suc address) count) sized e in
        ⊎_elim (λ q. rw q parts.0)
        (λ ne. shown_at_of-view_from count (suc address) index (omega arith) parts.1 (omega arith)
        (omega arith))
        (eq_cases index address)

    pub show_same_of-view_from :
        view_from g disk 0 (block_count g) ≡ view_from g other 0 (block_count g) → ShowSame g disk other
    show_same_of-view_from e =
        record {
          whole = whole;
          other_whole = other_whole;
          same_shown = λ address. ⊎_elim
              (λ h. shown_at_of-view_from (block_count g) 0 address (omega arith) e (omega arith) (omega arith))
              (λ h. nothing disk address h ∙ sym (nothing other address h)) (lt_cases address (block_count g));
        }
      where
        nothing :
            (bytes : Bytes) (address : DiskAddress) → block_count g ≤ address → shown_at g bytes address ≡ []
        nothing bytes address h =
            shown_of_hidden g address (block_at (block_width g) bytes address) (is_shown_past g address h)

-- ---- what the view reads ----

module _ (disk : Bytes) (drive : Drive (geometry_in disk) disk) where
  block_at-view_of :
      (address : DiskAddress) → address < root_address (geometry_in disk) →
      block_at (block_width (geometry_in disk)) (view_of disk) address ≡
      block_at (block_width (geometry_in disk)) disk address
  unfolding view_of
  block_at-view_of address h =
      let e : 0 + address ≡ address = omega arith in
      block_at-view_from (geometry_in disk) disk drive.whole (block_count (geometry_in disk)) 0 address
      (omega arith) (omega arith)
      ∙ ap (block_at (block_width (geometry_in disk)) disk) e

  pub entry_at-view_of : (index : ℕ) → index < 6 → entry_at index (view_of disk) ≡ entry_at index disk
  entry_at-view_of index h =
      let size = (geometry_in disk).block_size in
      let l : 4 * index + 4 ≤ size = omega (arith, drive.fits.size_low) in
      entry_at_header size (view_of disk) index l ∙ ap (entry_at index) (block_at-view_of 0 (omega arith))
      ∙ sym (entry_at_header size disk index l)

  pub map_entry-view_of :
      (number : ℕ) → number < (geometry_in disk).publics →
      map_entry (geometry_in disk) (view_of disk) number ≡ map_entry (geometry_in disk) disk number
  map_entry-view_of number h =
      map_entry_block (geometry_in disk) (view_of disk) disk number
      (block_at-view_of (map_address (geometry_in disk) number)
      (omega (arith, map_address_lt (geometry_in disk) drive.fits number h)))

  pub is_allocated-view_of :
      (slot : ℕ) → slot < (geometry_in disk).slots →
      is_allocated (geometry_in disk) (view_of disk) slot ≡ is_allocated (geometry_in disk) disk slot
  is_allocated-view_of slot h =
      is_allocated_block (geometry_in disk) (view_of disk) disk slot
      (block_at-view_of (bit_address (geometry_in disk) slot)
      (bit_address_lt (geometry_in disk) drive.fits slot h))

pub geometry_in-view_of :
    (disk : Bytes) → Drive (geometry_in disk) disk → geometry_in (view_of disk) ≡ geometry_in disk
geometry_in-view_of disk drive =
    geometry_ext (view_of disk) disk (λ index h. entry_at-view_of disk drive index (omega arith))
