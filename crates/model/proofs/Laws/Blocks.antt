-- Laws of blocks, over their width: two disks by their blocks, lengths, read after write at the same and at
-- another address, one block written twice. Assumes nothing.
use mathlib.Core.Path.{◌≡◌, refl, sym, ap, ◌∙◌}
use mathlib.Core.Logic.{◌≢◌, ⊎_elim}
use Prim.Native.Nat.{ℕ, suc, ◌+◌, ◌*◌, ◌/◌, ◌%◌, ◌≤◌, ◌<◌}
use native.Mathlib.Nat.{mul-le-mul_right, div-add-mod', mod-lt, div-lt_iff_lt-mul}
use native.Mathlib.Omega.{arith}
use lib.ListN.{length, get_or, drop}
use lib.Seq.{ext_get_or, get_or-take, get_or-drop}
use Rattle.laws.specs.Lists.{part, over}
use Rattle.laws.proofs.Cases.{lt_cases}
use Rattle.laws.proofs.Lists.{length_part, length_over, part_over_same, part_over_before, part_over_after}
use Rattle.laws.proofs.Lists.{over_again, part_is}
use Rattle.model.specs.Blocks.{Bytes, DiskAddress, block_at, set_block}

-- ---- equations ----

pub block_at_is : (width : ℕ) (disk : Bytes) (address : DiskAddress) →
    block_at width disk address ≡ part (address * width) width disk
unfolding block_at
block_at_is width disk address = refl

pub set_block_is :
    (width : ℕ) (disk : Bytes) (address : DiskAddress) (block : Bytes) →
    set_block width disk address block ≡ over (address * width) block disk
unfolding set_block
set_block_is width disk address block = refl

-- ---- two disks by their blocks ----

-- a byte of a block is one of the disk's
get_d-block_at :
    (width : ℕ) (disk : Bytes) (address : DiskAddress) (index : ℕ) → index < width →
    get_or (block_at width disk address) index 0 ≡ get_or disk (address * width + index) 0
get_d-block_at width disk address index h =
    ap (λ (bytes : Bytes). get_or bytes index 0)
    (block_at_is width disk address ∙ part_is (address * width) width disk)
    ∙ get_or-take width (drop (address * width) disk) index 0 h ∙ get_or-drop (address * width) disk index 0

pub blocks_ext :
    (width count : ℕ) (disk other : Bytes) → 0 < width → length disk ≡ count * width →
    length other ≡ count * width →
    ((address : DiskAddress) → address < count → block_at width disk address ≡ block_at width other address) →
    disk ≡ other
blocks_ext width count disk other some whole whole-other same =
    ext_get_or 0 disk other (whole ∙ sym whole-other) (λ i h. byte i (rw whole at h))
  where
    byte : (i : ℕ) → i < count * width → get_or disk i 0 ≡ get_or other i 0
    byte i h =
        let address : ℕ = i / width in
        let index : ℕ = i % width in
        let e : address * width + index ≡ i = div-add-mod' i width in
        let l : index < width = mod-lt i some in
        ap (λ (n : ℕ). get_or disk n 0) (sym e) ∙ sym (get_d-block_at width disk address index l)
        ∙ ap (λ (bytes : Bytes). get_or bytes index 0) (same address ((div-lt_iff_lt-mul some).1 h))
        ∙ get_d-block_at width other address index l ∙ ap (λ (n : ℕ). get_or other n 0) e

module _ (width : ℕ) (disk : Bytes) (count : ℕ) (whole : length disk ≡ count * width) where
  -- ---- lengths ----

  pub block_inside : (address : DiskAddress) → address < count → address * width + width ≤ length disk
  block_inside address h = omega (arith, mul-le-mul_right width h)

  pub length-block_at : (address : DiskAddress) → address < count → length (block_at width disk address) ≡ width
  unfolding block_at
  length-block_at address h = length_part (address * width) width disk (block_inside address h)

  module _ (address : DiskAddress) (inside : address < count) (block : Bytes)
      (sized : length block ≡ width) where
    over_inside : address * width + length block ≤ length disk
    over_inside = omega (arith, block_inside address inside)

    pub length-set_block : length (set_block width disk address block) ≡ length disk
    unfolding set_block
    length-set_block = length_over block disk (address * width) over_inside

    -- ---- read after write ----

    pub block_at-set_block_same : block_at width (set_block width disk address block) address ≡ block
    unfolding block_at set_block
    block_at-set_block_same =
        ap (λ (n : ℕ). part (address * width) n (over (address * width) block disk)) (sym sized)
        ∙ part_over_same block disk (address * width) over_inside

    pub block_at-set_block_other :
        (other : DiskAddress) → other ≢ address → block_at width (set_block width disk address block) other ≡
        block_at width disk other
    unfolding block_at set_block
    block_at-set_block_other other ne = ⊎_elim below above (lt_cases other address)
      where
        below : other < address → part (other * width) width (over (address * width) block disk) ≡
            part (other * width) width disk
        below h =
            part_over_before block disk (address * width) over_inside (other * width) width
            (omega (arith, mul-le-mul_right width h))

        above : address ≤ other → part (other * width) width (over (address * width) block disk) ≡
            part (other * width) width disk
        above h =
            let l : suc address ≤ other = omega arith in
            part_over_after block disk (address * width) over_inside (other * width) width
            (omega (arith, mul-le-mul_right width l))

    -- ---- write after write ----

    pub set_block_again :
        (same : DiskAddress) → address ≡ same → (again : Bytes) → length again ≡ width →
        set_block width (set_block width disk address block) same again ≡ set_block width disk same again
    unfolding set_block
    set_block_again same e again h =
        ap (λ (a : ℕ). over (a * width) again (over (address * width) block disk)) (sym e)
        ∙ over_again block disk (address * width) over_inside again (h ∙ sym sized)
        ∙ ap (λ (a : ℕ). over (a * width) again disk) e
