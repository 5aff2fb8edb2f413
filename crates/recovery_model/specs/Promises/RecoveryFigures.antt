-- What document 02 says of pulled plugs (K5), worked out by hand on document 01's geometry: a write of three
-- rounds cut after each kind of store and recovered, and recoveries of a fresh drive with other map entries;
-- a write cut on a drive of another block size and height, and a recovery of one with three map blocks and
-- two bitmap blocks. Assumes nothing.
use Rattle.std.specs.Prelude.{◌≡◌, true, false, [], ◌∷◌, ◌++◌, ℕ, take, replicate}
use Rattle.model.specs.Geometry.{Geometry}
use Rattle.model.specs.Blocks.{Bytes, set_block}
use Rattle.model.specs.Stores.{addresses}
use Rattle.model.specs.Refusals.{public_read_refusal}
use Rattle.model.specs.Calls.{formatted, public_read, hidden_read, Offered, one, in_line, Written}
use Rattle.model.specs.Promises.Figures.{geometry, small, fresh, filled}
use Rattle.model.specs.Promises.Limits.{small4, one_offer, with_head}
use Rattle.model.specs.Promises.TreeFigures.{five_lines}
use Rattle.model.specs.Promises.LineFigures.{two_wait}
use Rattle.model.specs.Promises.Waiting.{PublicHalf, half_written}
use Rattle.recovery_model.specs.Cuts.{is_cut, cut_disk, cut_list, rooted_rounds, placed_within}
use Rattle.recovery_model.specs.Recovery.{used_from, recovery_refusal, recovered}

-- ---- a write cut on document 01's geometry ----

-- data 8 to a public number
abbrev pub eight_to : (number : ℕ) → PublicHalf
eight_to number = record { number = number; content = filled 8; random = replicate 256 165; room = 23 }

-- to public 0, and hidden 0, data 8, offered: three rounds, 17 stores
abbrev pub pulled_half : PublicHalf
pulled_half = eight_to 0

abbrev pub pulled : Written
pulled = half_written pulled_half five_lines (one_offer 0 8)

-- the drive with the plug pulled after so many of them
abbrev pub pulled_at : (bound : ℕ) → Bytes
pulled_at bound = cut_disk bound pulled five_lines

abbrev pub placed_at : (bound : ℕ) → ℕ
placed_at bound = placed_within bound pulled_half five_lines (one_offer 0 8)

-- the same write with a line in the place of the offer: hidden 0, data 8, then hidden 1, data 9
abbrev pub pulled_line : Offered
pulled_line = in_line (filled 8 ++ filled 9) two_wait

abbrev pub line_pulled_at : (bound : ℕ) → Bytes
line_pulled_at bound = cut_disk bound (half_written pulled_half five_lines pulled_line) five_lines

abbrev pub line_placed_at : (bound : ℕ) → ℕ
line_placed_at bound = placed_within bound pulled_half five_lines pulled_line

-- ---- a write cut on another geometry ----

-- B 64, k 3, P 2, H 1, M 3: slot 0 is blocks 4 to 7
abbrev pub tall : Geometry
tall = geometry 64 3 2 1 3

abbrev pub tall_fresh : Bytes
tall_fresh = formatted (replicate 1024 0) tall

-- data 8 to public 1, and hidden 0, data 9, offered: one round, eight stores
abbrev pub tall_written : Written
tall_written =
    half_written
    (record { number = 1; content = replicate 64 8; random = replicate 192 165; room = 8 }) tall_fresh
    (one (record { number = 0; content = replicate 64 9 }))

abbrev pub tall_at : (bound : ℕ) → Bytes
tall_at bound = cut_disk bound tall_written tall_fresh

-- ---- drives to recover ----

-- a fresh drive with these map entries and every bit of the bitmap set
abbrev pub with_map : (first second third fourth : ℕ) → Bytes
with_map first second third fourth =
    set_block 32
    (set_block 32 fresh 1 (small4 first ++ small4 second ++ small4 third ++ small4 fourth ++ replicate 16 0)) 2
    (replicate 32 255)

-- a drive with these two bytes and then zeros in its bitmap
abbrev pub with_bitmap : (first second : ℕ) → (disk : Bytes) → Bytes
with_bitmap first second disk = set_block 32 disk 2 (first ∷ second ∷ replicate 30 0)

-- B 32, k 2, P 17, H 1, M 87: blocks 1 to 3 are the map, 4 and 5 the bitmap, D is 7; public 8 is in slot 85,
-- which is block 262, and public 16 in slot 86, which is block 265; from the root on all bytes are 165
abbrev pub wide_with : (bitmap : Bytes) → Bytes
wide_with bitmap =
    small4 32 ++ small4 2 ++ small4 17 ++ small4 1 ++ small4 87 ++ replicate 44 0 ++
    (6 ∷ 1 ∷ replicate 30 0) ++ (9 ∷ 1 ∷ replicate 30 0) ++ bitmap ++ replicate 8384 165

-- ---- the figures ----

pub record RecoveryFigures : Type 0 where
  -- slots 1 and 2 are kept, slot 3 takes the data
  pub stores :
      addresses pulled.trace ≡
      (7 ∷ 8 ∷ 9 ∷ 3 ∷ 0 ∷ 10 ∷ 11 ∷ 12 ∷ 3 ∷ 0 ∷ []) ++ (13 ∷ 14 ∷ 15 ∷ 3 ∷ 1 ∷ 2 ∷ 0 ∷ [])
  -- the last one is store 17
  pub cut_sixteen : is_cut 16 pulled ≡ true
  pub uncut_seventeen : is_cut 17 pulled ≡ false
  pub uncut_eighteen : is_cut 18 pulled ≡ false
  -- a list of 17 entries 99, cut after nine stores, and one of 20, uncut
  pub list_of_nine :
      cut_list 9 pulled (replicate 17 99) ≡
      (7 ∷ 8 ∷ 9 ∷ 3 ∷ 0 ∷ 10 ∷ 11 ∷ 12 ∷ 3 ∷ []) ++ replicate 8 99
  pub list_uncut :
      cut_list 18 pulled (replicate 20 99) ≡
      (7 ∷ 8 ∷ 9 ∷ 3 ∷ 0 ∷ 10 ∷ 11 ∷ 12 ∷ 3 ∷ 0 ∷ []) ++ (13 ∷ 14 ∷ 15 ∷ 3 ∷ 1 ∷ 2 ∷ 0 ∷ []) ++
      replicate 3 99
  -- hidden 0 is placed in round 2, whose root is store 9; public 3 is refused by 4, and places none
  pub placed_eight : placed_at 8 ≡ 0
  pub placed_nine : placed_at 9 ≡ 1
  pub placed_uncut : placed_at 17 ≡ 1
  pub placed_refused : placed_within 17 (eight_to 3) five_lines (one_offer 0 8) ≡ 0
  pub hidden_old : hidden_read (recovered (pulled_at 8)) 0 (filled 0) ≡ filled 5
  pub hidden_new : hidden_read (recovered (pulled_at 9)) 0 (filled 0) ≡ filled 8
  -- of a line hidden 1 is placed too, in round 3, whose root is store 14
  pub line_placed_thirteen : line_placed_at 13 ≡ 1
  pub line_placed_fourteen : line_placed_at 14 ≡ 2
  pub first_new : hidden_read (recovered (line_pulled_at 13)) 0 (filled 0) ≡ filled 8
  pub second_old : hidden_read (recovered (line_pulled_at 13)) 1 (filled 0) ≡ filled 2
  pub second_new : hidden_read (recovered (line_pulled_at 14)) 1 (filled 0) ≡ filled 9
  -- the map block is store 15; until its bits are stored public 0 is refused
  pub public_old : public_read (recovered (pulled_at 14)) 0 (filled 0) ≡ filled 2
  pub six_before : public_read_refusal (pulled_at 15) 0 (filled 0) ≡ 6
  pub public_new : public_read (recovered (pulled_at 15)) 0 (filled 0) ≡ filled 8
  -- slots 0, 1, 2 hold the numbers, and then slots 0, 2, 3: bits 0, 3, 6 and 0, 6, 9
  pub bits_fourteen : recovered (pulled_at 14) ≡ pulled_at 14
  pub bits_fifteen : recovered (pulled_at 15) ≡ with_bitmap 65 2 (pulled_at 15)
  pub bits_sixteen : recovered (pulled_at 16) ≡ pulled_at 16
  -- k 3: the roots are stores 5 and 11; hidden 0 is new with the first, public 1 with the map block, store 6
  pub tall_one_root : rooted_rounds tall 10 ≡ 1
  pub tall_two_roots : rooted_rounds tall 11 ≡ 2
  pub tall_stores : addresses tall_written.trace ≡ 4 ∷ 5 ∷ 6 ∷ 7 ∷ 3 ∷ 1 ∷ 2 ∷ 0 ∷ []
  pub tall_hidden_old : hidden_read (recovered (tall_at 4)) 0 (replicate 64 0) ≡ replicate 64 0
  pub tall_hidden_new : hidden_read (recovered (tall_at 5)) 0 (replicate 64 0) ≡ replicate 64 9
  pub tall_public_old : public_read (recovered (tall_at 5)) 1 (replicate 64 0) ≡ replicate 64 0
  pub tall_public_new : public_read (recovered (tall_at 6)) 1 (replicate 64 0) ≡ replicate 64 8
  -- the entries of numbers 1 and 2
  pub used_later : used_from small (with_map 4 7 13 5) 1 2 ≡ 7 ∷ 13 ∷ []
  -- every bit set before: none is left of an empty map, bits 0, 3 and 9 of slots 0, 1 and 3
  pub empty : recovered (with_map 0 0 0 0) ≡ with_bitmap 0 0 (with_map 0 0 0 0)
  pub three : recovered (with_map 4 7 13 0) ≡ with_bitmap 9 2 (with_map 4 7 13 0)
  -- bit 255, the last of block 4, and bit 258, the third of block 5
  pub wide : recovered (wide_with (replicate 64 255)) ≡ wide_with (replicate 31 0 ++ (128 ∷ 4 ∷ replicate 31 0))
  -- 17: a leaf's address, hidden data's, the root's, the map's, T, one entry twice; the last slot is none of
  -- them
  pub leaf_entry : recovery_refusal (with_map 5 0 0 0) ≡ 17
  pub data_entry : recovery_refusal (with_map 4 7 6 0) ≡ 17
  pub root_entry : recovery_refusal (with_map 3 0 0 0) ≡ 17
  pub map_entry_lem : recovery_refusal (with_map 1 0 0 0) ≡ 17
  pub past_slots : recovery_refusal (with_map 16 0 0 0) ≡ 17
  pub shared : recovery_refusal (with_map 4 0 4 0) ≡ 17
  pub shared_around : recovery_refusal (with_map 4 7 4 0) ≡ 17
  pub shared_later : recovery_refusal (with_map 13 4 4 0) ≡ 17
  pub last_slot : recovery_refusal (with_map 0 0 13 0) ≡ 0
  -- the entry after the last number's is free, and free to be any other's
  pub past_publics : recovery_refusal (with_map 0 0 0 5) ≡ 0
  pub past_shared : recovery_refusal (with_map 0 0 4 4) ≡ 0
  -- 1 to 3 before 17
  pub one_first : recovery_refusal (take 23 (with_map 5 0 0 0)) ≡ 1
  pub two_first : recovery_refusal (take 511 (with_map 5 0 0 0)) ≡ 2
  pub three_first : recovery_refusal (set_block 32 (with_head 4) 1 (filled 5)) ≡ 3
  -- refused by 17 and by 3, a drive with other bits keeps them
  pub kept_by_seventeen : recovered (with_map 5 0 0 0) ≡ with_map 5 0 0 0
  pub kept_by_three : recovered (with_bitmap 1 0 (with_head 4)) ≡ with_bitmap 1 0 (with_head 4)
