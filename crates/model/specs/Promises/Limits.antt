-- What is computed at document 01's limits: each geometry limit at and past it, the example of each refusal,
-- what formatting leaves, every byte of the drive after the three lines of the listing and after three more,
-- worked out by hand from document 01 (docs/ON-DISK-FORMAT.md has the working), and the stores of a drive
-- with two bitmap blocks. Assumes nothing.
use Rattle.std.specs.Prelude.{◌≡◌, true, [], ◌∷◌, ◌++◌, ℕ, take, replicate}
use Rattle.model.specs.Geometry.{Geometry, block_count, drive_size}
use Rattle.model.specs.Blocks.{Bytes, DiskAddress, set_entry, set_block}
use Rattle.model.specs.Stores.{apply, addresses}
use Rattle.model.specs.Rounds.{map_store, bit_store, header_store}
use Rattle.model.specs.Refusals.{size_refusal, drive_refusal, public_read_refusal, hidden_read_refusal}
use Rattle.model.specs.Refusals.{write_refusal}
use Rattle.model.specs.Calls.{formatted, hidden_read, Written, written, written_disk, written_list}
use Rattle.model.specs.Calls.{Offered, nothing, one}
use Rattle.model.specs.Promises.Figures.{geometry, small, format_answer, fresh, filled}

-- ---- geometries at the limit ----

-- T 2^31 − 1 and T 2^31
abbrev pub most_blocks : Geometry
most_blocks = geometry 4096 2 3072 1 715806036

abbrev pub beyond_most_blocks : Geometry
beyond_most_blocks = geometry 4096 2 1024 1 715806037

-- ---- drives of the refusal table ----

abbrev pub with_head : (head : ℕ) → Bytes
with_head head = set_entry 5 head fresh

-- the first entry of a block, on a fresh drive
abbrev pub with_first_entry : (address : DiskAddress) → (entry : ℕ) → Bytes
with_first_entry address entry = set_block 32 fresh address (set_entry 0 entry (filled 0))

-- a write of bytes 7 to number 0, nothing offered
abbrev pub answer_of : (disk : Bytes) → (random room : ℕ) → ℕ
answer_of disk random room = write_refusal disk 0 (filled 7) random room

-- ---- the drive of the listing ----

-- one line: data and offered data are the line's number, 256 random bytes of 165, a list of 23
abbrev pub listed_on : (disk : Bytes) → (line number : ℕ) → Offered → Bytes
listed_on disk line number offer =
    written_disk (written disk number (filled line) (replicate 256 165) 23 offer) disk

abbrev pub one_offer : (number line : ℕ) → Offered
one_offer number line = one (record { number = number; content = filled line })

abbrev pub three_lines : Bytes
three_lines = listed_on (listed_on (listed_on fresh 1 0 nothing) 2 0 (one_offer 1 2)) 3 1 nothing

-- an entry below 256, and a block of such entries in front and zeros
abbrev pub small4 : (value : ℕ) → Bytes
small4 value = value ∷ 0 ∷ 0 ∷ 0 ∷ []

abbrev pub listed_header : Bytes
listed_header = small4 32 ++ small4 2 ++ small4 3 ++ small4 2 ++ small4 4 ++ small4 3 ++ replicate 8 0

abbrev pub listed_map : Bytes
listed_map = small4 7 ++ small4 10 ++ replicate 24 0

abbrev pub listed_bitmap : Bytes
listed_bitmap = 72 ∷ replicate 31 0

abbrev pub listed_root : Bytes
listed_root = small4 8 ++ replicate 28 0

-- slot 1: the public block, the leaf of hidden number 1, its data
abbrev pub listed_leaf : Bytes
listed_leaf = small4 0 ++ small4 9 ++ replicate 20 0 ++ small4 1

abbrev pub listed_drive : Bytes
listed_drive =
    listed_header ++ listed_map ++ listed_bitmap ++ listed_root ++
    filled 1 ++ filled 165 ++ filled 165 ++
    filled 2 ++ listed_leaf ++ filled 2 ++
    filled 3 ++ filled 165 ++ filled 165 ++
    filled 0 ++ filled 0 ++ filled 0

-- three lines more: 2 -, then 2 0, then 0 -, whose three rounds pass slot 1, live for hidden number 1
abbrev pub six_lines : Bytes
six_lines = listed_on (listed_on (listed_on three_lines 4 2 nothing) 5 2 (one_offer 0 5)) 6 0 nothing

abbrev pub aged_header : Bytes
aged_header = small4 32 ++ small4 2 ++ small4 3 ++ small4 2 ++ small4 4 ++ small4 0 ++ replicate 8 0

abbrev pub aged_map : Bytes
aged_map = small4 13 ++ small4 10 ++ small4 4 ++ replicate 20 0

abbrev pub aged_bitmap : Bytes
aged_bitmap = 65 ∷ 2 ∷ replicate 30 0

-- both leaves hold both hidden numbers; slot 1's is the current one again
abbrev pub aged_leaf : (owner : ℕ) → Bytes
aged_leaf owner = small4 6 ++ small4 9 ++ replicate 20 0 ++ small4 owner

abbrev pub aged_drive : Bytes
aged_drive =
    aged_header ++ aged_map ++ aged_bitmap ++ listed_root ++
    filled 5 ++ aged_leaf 0 ++ filled 5 ++
    filled 2 ++ aged_leaf 1 ++ filled 2 ++
    filled 3 ++ filled 165 ++ filled 165 ++
    filled 6 ++ filled 165 ++ filled 165

-- ---- a drive with two bitmap blocks ----

-- B 32, k 2, P 1, H 1, M 100: the bits of slots 0 to 85 lie in block 2, those of the others in block 3
abbrev pub two_bitmaps : Geometry
two_bitmaps = geometry 32 2 1 1 100

-- fresh but for public number 0, which is in a slot, and the head after it
abbrev pub drive_with_place : (slot : ℕ) → Bytes
drive_with_place slot =
    let g = two_bitmaps in
    let disk = formatted (replicate 9760 0) g in
    apply 32 (map_store g disk 0 slot ∷ bit_store g disk slot true ∷ header_store g disk slot ∷ []) disk

-- a write that moves the number to the next slot, with a list of this length
abbrev pub move_from : (slot room : ℕ) → Written
move_from slot room = written (drive_with_place slot) 0 (filled 7) (replicate 64 165) room nothing

-- ---- the limits ----

pub record Limits : Type 0 where
  -- M > H
  pub hidden_is_slots : format_answer 512 (geometry 32 2 3 4 4) ≡ 1
  pub hidden_below_slots : format_answer 512 (geometry 32 2 3 3 4) ≡ 0
  -- T at most 2^31 − 1
  pub most_blocks_lem : block_count most_blocks ≡ 2147483647
  pub most_blocks_fit : size_refusal (drive_size most_blocks) most_blocks ≡ 0
  pub too_many_blocks : block_count beyond_most_blocks ≡ 2147483648
  pub too_many_blocks_refused : size_refusal (drive_size beyond_most_blocks) beyond_most_blocks ≡ 1
  -- B at most 4,096, a power of two
  pub size_largest : size_refusal 40960 (geometry 4096 2 1 1 2) ≡ 0
  pub size_too_large : size_refusal 81920 (geometry 8192 2 1 1 2) ≡ 1
  pub size_no_power : size_refusal 768 (geometry 48 2 3 2 4) ≡ 1
  -- k from 2 to 4
  pub height_one : size_refusal 384 (geometry 32 1 3 2 4) ≡ 1
  pub height_four : size_refusal 768 (geometry 32 4 3 2 4) ≡ 0
  pub height_five : size_refusal 896 (geometry 32 5 3 2 4) ≡ 1
  -- P and H at least 1
  pub no_public : size_refusal 480 (geometry 32 2 0 2 4) ≡ 1
  pub no_hidden : size_refusal 512 (geometry 32 2 3 0 4) ≡ 1
  -- 24 bytes
  pub bytes_23 : drive_refusal (take 23 fresh) ≡ 1
  pub bytes_24 : drive_refusal (take 24 fresh) ≡ 2
  pub format_23 : format_answer 23 small ≡ 1
  pub format_24 : format_answer 24 small ≡ 2
  -- the examples of the refusal table, those of 1 and 8 above and below
  pub refusal_two : drive_refusal (take 511 fresh) ≡ 2
  pub refusal_three : drive_refusal (with_head 4) ≡ 3
  pub head_three : drive_refusal (with_head 3) ≡ 0
  pub refusal_four : public_read_refusal fresh 3 (filled 0) ≡ 4
  pub refusal_five : public_read_refusal fresh 0 (replicate 31 0) ≡ 5
  pub refusal_six : public_read_refusal (with_first_entry 1 5) 0 (filled 0) ≡ 6
  pub refusal_six_free : public_read_refusal (with_first_entry 1 4) 0 (filled 0) ≡ 6
  -- entry 16, where a fifth slot would start, though its bit, 12, is set
  pub refusal_six_past :
      public_read_refusal (set_block 32 (with_first_entry 1 16) 2 (0 ∷ 16 ∷ replicate 30 0)) 0 (filled 0) ≡ 6
  -- bits 0, 3, 6 and 9: bytes 73 and 2
  pub refusal_seven : answer_of (with_first_entry 2 585) 256 23 ≡ 7
  pub refusal_eight : answer_of fresh 63 23 ≡ 8
  pub random_64 : answer_of fresh 64 23 ≡ 0
  pub refusal_nine : answer_of fresh 64 6 ≡ 9
  pub list_7 : answer_of fresh 64 7 ≡ 0
  pub refusal_ten : hidden_read_refusal fresh 2 (filled 0) ≡ 10
  pub refusal_eleven : hidden_read_refusal fresh 1 (replicate 33 0) ≡ 11
  pub refusal_twelve : hidden_read_refusal (with_first_entry 3 6) 0 (filled 0) ≡ 12
  -- list entries past the stores keep their values
  pub list_rest :
      written_list (written fresh 0 (filled 7) (replicate 64 165) 23 nothing) (replicate 23 99) ≡
      (4 ∷ 5 ∷ 6 ∷ 3 ∷ 1 ∷ 2 ∷ 0 ∷ []) ++ replicate 16 99
  -- formatting leaves the data area
  pub format_leaves :
      formatted (replicate 512 170) small ≡
      small4 32 ++ small4 2 ++ small4 3 ++ small4 2 ++ small4 4 ++ replicate 108 0 ++ replicate 384 170
  -- the drive after the three lines of the listing
  pub three_lines_lem : three_lines ≡ listed_drive
  -- and after three more, a live slot's path stored again among them
  pub six_lines_lem : six_lines ≡ aged_drive
  pub hidden_zero_kept : hidden_read six_lines 0 (filled 0) ≡ filled 5
  -- document 02, K2: new and old bit in block 2, in 3 and 2, in 3; two bitmap blocks take a list of 8
  pub bits_in_first : addresses (move_from 84 7).trace ≡ 260 ∷ 261 ∷ 262 ∷ 4 ∷ 1 ∷ 2 ∷ 0 ∷ []
  pub bits_in_both : addresses (move_from 85 8).trace ≡ 263 ∷ 264 ∷ 265 ∷ 4 ∷ 1 ∷ 3 ∷ 2 ∷ 0 ∷ []
  pub bits_in_both_short : (move_from 85 7).answer ≡ 9
  pub bits_in_second : addresses (move_from 86 7).trace ≡ 266 ∷ 267 ∷ 268 ∷ 4 ∷ 1 ∷ 3 ∷ 0 ∷ []
