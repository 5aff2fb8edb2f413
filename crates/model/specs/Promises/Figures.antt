-- The starred lines of document 01, "Figures to hold against", as one computed statement. Assumes nothing.
use Rattle.std.specs.Prelude.{◌≡◌, [], ◌∷◌, ◌++◌, ℕ, length, replicate}
use Rattle.model.specs.Geometry.{Geometry, area_start, block_count, drive_size}
use Rattle.model.specs.Blocks.{Bytes}
use Rattle.model.specs.Stores.{addresses}
use Rattle.model.specs.Refusals.{format_refusal, public_read_refusal}
use Rattle.model.specs.Calls.{formatted, public_read, Written, written, written_disk, outcome_number}
use Rattle.model.specs.Calls.{Offered, nothing, one}

-- ---- the drives ----

abbrev pub geometry : (block_size height publics hidden slots : ℕ) → Geometry
geometry block_size height publics hidden slots =
    record { block_size = block_size; height = height; publics = publics; hidden = hidden; slots = slots }

-- the geometry of the examples
abbrev pub small : Geometry
small = geometry 32 2 3 2 4

-- formatting a zero disk of so many bytes
abbrev pub format_answer : (bytes : ℕ) → Geometry → ℕ
format_answer bytes g = format_refusal (replicate bytes 0) g

-- a zero disk, formatted
abbrev pub fresh : Bytes
fresh = formatted (replicate 512 0) small

-- a block of one byte's value
abbrev pub filled : (byte : ℕ) → Bytes
filled byte = replicate 32 byte

-- a write of bytes 7 with so many random bytes and so long a list
abbrev pub write_of : (disk : Bytes) → (number random room : ℕ) → Offered → Written
write_of disk number random room offer = written disk number (filled 7) (replicate random 165) room offer

abbrev pub disk_of : (disk : Bytes) → (number : ℕ) → Bytes
disk_of disk number = written_disk (write_of disk number 256 23 nothing) disk

-- after writes 0, 1, 2, 2
abbrev pub four_written : Bytes
four_written = disk_of (disk_of (disk_of (disk_of fresh 0) 1) 2) 2

abbrev pub offer_of_two : Offered
offer_of_two = one (record { number = 2; content = filled 9 })

-- ---- the figures ----

pub record Figures : Type 0 where
  -- D 4, T 16, 512 bytes
  pub area_start_lem : area_start small ≡ 4
  pub block_count_lem : block_count small ≡ 16
  pub drive_size_lem : drive_size small ≡ 512
  -- H 56, M 57 allowed; H 57, M 58 gets 1
  pub hidden_fifty_six : format_answer 5600 (geometry 32 2 1 56 57) ≡ 0
  pub hidden_fifty_seven : format_answer 5696 (geometry 32 2 1 57 58) ≡ 1
  -- P 3, M 4 allowed; P 4 gets 1
  pub publics_three : format_answer 512 (geometry 32 2 3 2 4) ≡ 0
  pub publics_four : format_answer 512 (geometry 32 2 4 2 4) ≡ 1
  -- B 32 allowed; B 16 gets 1
  pub size_thirty_two : format_answer 512 (geometry 32 2 3 2 4) ≡ 0
  pub size_sixteen : format_answer 256 (geometry 16 2 3 2 4) ≡ 1
  -- fresh, write 0
  pub first_answer : (write_of fresh 0 256 23 nothing).answer ≡ 0
  pub first_stores : addresses (write_of fresh 0 256 23 nothing).trace ≡ 4 ∷ 5 ∷ 6 ∷ 3 ∷ 1 ∷ 2 ∷ 0 ∷ []
  -- the same with offer 2: same stores, outcome 10
  pub offer_answer : (write_of fresh 0 256 23 offer_of_two).answer ≡ 0
  pub offer_stores : addresses (write_of fresh 0 256 23 offer_of_two).trace ≡ 4 ∷ 5 ∷ 6 ∷ 3 ∷ 1 ∷ 2 ∷ 0 ∷ []
  pub offer_outcome_lem : outcome_number (write_of fresh 0 256 23 offer_of_two).outcome ≡ 10
  -- fresh, writes 0, 1, 2, 2, 2: the fifth has 3 rounds and, by document 02, K2, 17 stores; 192 random bytes
  -- and a list of 17 suffice
  pub fifth_answer : (write_of four_written 2 192 17 nothing).answer ≡ 0
  pub fifth_rounds : (write_of four_written 2 192 17 nothing).rounds ≡ 3
  pub fifth_count : length (write_of four_written 2 192 17 nothing).trace ≡ 17
  pub fifth_stores :
      addresses (write_of four_written 2 192 17 nothing).trace ≡
      (4 ∷ 5 ∷ 6 ∷ 3 ∷ 0 ∷ 7 ∷ 8 ∷ 9 ∷ 3 ∷ 0 ∷ []) ++ (10 ∷ 11 ∷ 12 ∷ 3 ∷ 1 ∷ 2 ∷ 0 ∷ [])
  pub random_short : (write_of four_written 2 191 17 nothing).answer ≡ 8
  pub list_short : (write_of four_written 2 192 16 nothing).answer ≡ 9
  -- fresh, read 1: the blank
  pub blank_answer : public_read_refusal fresh 1 (filled 5) ≡ 0
  pub blank_shown : public_read fresh 1 (filled 5) ≡ filled 5
