-- Two of document 01's refusals at once: the one that is checked first is told. Assumes nothing.
use Rattle.std.specs.Prelude.{◌≡◌, ◌∷◌, take, replicate}
use Rattle.model.specs.Blocks.{Bytes, set_block}
use Rattle.model.specs.Refusals.{size_refusal, drive_refusal, public_read_refusal, hidden_read_refusal}
use Rattle.model.specs.Refusals.{write_refusal}
use Rattle.model.specs.Promises.Figures.{geometry, fresh, filled}
use Rattle.model.specs.Promises.Limits.{with_head, with_first_entry, answer_of}

-- every slot marked: bits 0, 3, 6 and 9
abbrev pub all_marked : (disk : Bytes) → Bytes
all_marked disk = set_block 32 disk 2 (73 ∷ 2 ∷ replicate 30 0)

pub record OrderFigures : Type 0 where
  -- a bad geometry and a wrong length; a wrong length and a bad head
  pub one_before_two : size_refusal 511 (geometry 48 2 3 2 4) ≡ 1
  pub two_before_three : drive_refusal (take 511 (with_head 4)) ≡ 2
  -- a bad head and a bad number; a bad number and a bad blank; a bad blank and a bad entry
  pub three_before_four : public_read_refusal (with_head 4) 3 (filled 0) ≡ 3
  pub four_before_five : public_read_refusal fresh 3 (replicate 31 0) ≡ 4
  pub five_before_six : public_read_refusal (with_first_entry 1 5) 0 (replicate 31 0) ≡ 5
  pub three_before_ten : hidden_read_refusal (with_head 4) 2 (filled 0) ≡ 3
  pub ten_before_eleven : hidden_read_refusal fresh 2 (replicate 33 0) ≡ 10
  pub eleven_before_twelve : hidden_read_refusal (with_first_entry 3 6) 0 (replicate 33 0) ≡ 11
  -- the same of a write; where every slot is marked the checks end at 7, with no bytes and no list lent
  pub write_three_before_four : write_refusal (with_head 4) 3 (filled 7) 256 23 ≡ 3
  pub write_four_before_five : write_refusal fresh 3 (replicate 31 7) 256 23 ≡ 4
  pub write_five_before_six : write_refusal (with_first_entry 1 5) 0 (replicate 31 7) 256 23 ≡ 5
  pub write_six_before_seven : write_refusal (all_marked (with_first_entry 1 5)) 0 (filled 7) 256 23 ≡ 6
  pub write_ends_at_seven : answer_of (all_marked fresh) 0 0 ≡ 7
  pub write_eight_before_nine : answer_of fresh 63 6 ≡ 8
