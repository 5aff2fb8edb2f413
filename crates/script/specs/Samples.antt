-- Samples of the listing (document 01, "Figures to hold against"): its lines of output from their numbers, a
-- refused line, and lines of input of good and of other forms, the text of each list of bytes above
-- it; and what a number in decimal is. Assumes nothing.
use Rattle.std.specs.Prelude.{◌≡◌, [], ◌∷◌, true, ℕ}
use Rattle.std.proofs.Math.Option.{none, some}
use Rattle.script.specs.Lines.{good, bad, line_in}
use Rattle.script.specs.Reports.{report_line}
use Rattle.script.specs.Feeding.{value_lines}
use Rattle.script.specs.Texts.{is_digits, value_of_digits, decimal}

-- lines of output
pub record OutputSamples : Type 0 where
  -- 1 0 1 none 1 4,5,6,3,1,2,0
  pub line_none :
      report_line 1 0 1 0 1 (4 ∷ 5 ∷ 6 ∷ 3 ∷ 1 ∷ 2 ∷ 0 ∷ []) ≡
      49 ∷ 32 ∷ 48 ∷ 32 ∷ 49 ∷ 32 ∷ 110 ∷ 111 ∷ 110 ∷ 101 ∷ 32 ∷ 49 ∷ 32 ∷ 52 ∷ 44 ∷ 53 ∷ 44 ∷ 54 ∷ 44 ∷
      51 ∷ 44 ∷ 49 ∷ 44 ∷ 50 ∷ 44 ∷ 48 ∷ 10 ∷ []
  -- 2 0 1 placed 2 7,8,9,3,1,2,0
  pub line_placed :
      report_line 2 0 1 1 2 (7 ∷ 8 ∷ 9 ∷ 3 ∷ 1 ∷ 2 ∷ 0 ∷ []) ≡
      50 ∷ 32 ∷ 48 ∷ 32 ∷ 49 ∷ 32 ∷ 112 ∷ 108 ∷ 97 ∷ 99 ∷ 101 ∷ 100 ∷ 32 ∷ 50 ∷ 32 ∷ 55 ∷ 44 ∷ 56 ∷ 44 ∷
      57 ∷ 44 ∷ 51 ∷ 44 ∷ 49 ∷ 44 ∷ 50 ∷ 44 ∷ 48 ∷ 10 ∷ []
  -- 3 0 1 none 3 10,11,12,3,1,2,0
  pub line_two_digits :
      report_line 3 0 1 0 3 (10 ∷ 11 ∷ 12 ∷ 3 ∷ 1 ∷ 2 ∷ 0 ∷ []) ≡
      51 ∷ 32 ∷ 48 ∷ 32 ∷ 49 ∷ 32 ∷ 110 ∷ 111 ∷ 110 ∷ 101 ∷ 32 ∷ 51 ∷ 32 ∷ 49 ∷ 48 ∷ 44 ∷ 49 ∷ 49 ∷ 44 ∷
      49 ∷ 50 ∷ 44 ∷ 51 ∷ 44 ∷ 49 ∷ 44 ∷ 50 ∷ 44 ∷ 48 ∷ 10 ∷ []
  -- 10 0 2 waiting 0 4
  pub line_waiting :
      report_line 10 0 2 2 0 (4 ∷ []) ≡
      49 ∷ 48 ∷ 32 ∷ 48 ∷ 32 ∷ 50 ∷ 32 ∷ 119 ∷ 97 ∷ 105 ∷ 116 ∷ 105 ∷ 110 ∷ 103 ∷ 32 ∷ 48 ∷ 32 ∷ 52 ∷ 10
      ∷ []
  -- 4 4 0 not tried 3 -
  pub line_refused :
      report_line 4 4 0 3 3 [] ≡
      52 ∷ 32 ∷ 52 ∷ 32 ∷ 48 ∷ 32 ∷ 110 ∷ 111 ∷ 116 ∷ 32 ∷ 116 ∷ 114 ∷ 105 ∷ 101 ∷ 100 ∷ 32 ∷ 51 ∷ 32 ∷
      45 ∷ 10 ∷ []
  -- 4 0 1 10 0 4
  pub line_bad_number :
      report_line 4 0 1 10 0 (4 ∷ []) ≡
      52 ∷ 32 ∷ 48 ∷ 32 ∷ 49 ∷ 32 ∷ 49 ∷ 48 ∷ 32 ∷ 48 ∷ 32 ∷ 52 ∷ 10 ∷ []
  -- 4 0 1 11 0 4
  pub line_bad_size :
      report_line 4 0 1 11 0 (4 ∷ []) ≡
      52 ∷ 32 ∷ 48 ∷ 32 ∷ 49 ∷ 32 ∷ 49 ∷ 49 ∷ 32 ∷ 48 ∷ 32 ∷ 52 ∷ 10 ∷ []
  -- 4 0 1 12 0 4
  pub line_damaged :
      report_line 4 0 1 12 0 (4 ∷ []) ≡
      52 ∷ 32 ∷ 48 ∷ 32 ∷ 49 ∷ 32 ∷ 49 ∷ 50 ∷ 32 ∷ 48 ∷ 32 ∷ 52 ∷ 10 ∷ []

-- lines of input, and the lines of an input
pub record InputSamples : Type 0 where
  -- `0 1`
  pub offer : line_in (48 ∷ 32 ∷ 49 ∷ []) ≡ good 0 (some 1)
  -- `0 -`
  pub no_offer_lem : line_in (48 ∷ 32 ∷ 45 ∷ []) ≡ good 0 none
  -- `007 000000001`
  pub leading_zeros :
      line_in (48 ∷ 48 ∷ 55 ∷ 32 ∷ 48 ∷ 48 ∷ 48 ∷ 48 ∷ 48 ∷ 48 ∷ 48 ∷ 48 ∷ 49 ∷ []) ≡ good 7 (some 1)
  -- `999999999 999999999`
  pub nine_digits :
      line_in (57 ∷ 57 ∷ 57 ∷ 57 ∷ 57 ∷ 57 ∷ 57 ∷ 57 ∷ 57 ∷ 32 ∷ 57 ∷ 57 ∷ 57 ∷ 57 ∷ 57 ∷ 57 ∷ 57 ∷
      57 ∷ 57 ∷ []) ≡ good 999999999 (some 999999999)
  -- `0000000000 1`
  pub ten_digits : line_in (48 ∷ 48 ∷ 48 ∷ 48 ∷ 48 ∷ 48 ∷ 48 ∷ 48 ∷ 48 ∷ 48 ∷ 32 ∷ 49 ∷ []) ≡ bad
  -- `0 0000000001`
  pub ten_digits_offered : line_in (48 ∷ 32 ∷ 48 ∷ 48 ∷ 48 ∷ 48 ∷ 48 ∷ 48 ∷ 48 ∷ 48 ∷ 48 ∷ 49 ∷ []) ≡ bad
  -- `0  1`
  pub two_spaces : line_in (48 ∷ 32 ∷ 32 ∷ 49 ∷ []) ≡ bad
  -- ` 0 1`
  pub space_before : line_in (32 ∷ 48 ∷ 32 ∷ 49 ∷ []) ≡ bad
  -- `0 1 `
  pub space_after : line_in (48 ∷ 32 ∷ 49 ∷ 32 ∷ []) ≡ bad
  -- `01`
  pub no_space : line_in (48 ∷ 49 ∷ []) ≡ bad
  -- `- 1`
  pub no_number : line_in (45 ∷ 32 ∷ 49 ∷ []) ≡ bad
  -- `0 `
  pub nothing_offered : line_in (48 ∷ 32 ∷ []) ≡ bad
  -- `0 --`
  pub two_dashes : line_in (48 ∷ 32 ∷ 45 ∷ 45 ∷ []) ≡ bad
  -- `0 a`
  pub letter : line_in (48 ∷ 32 ∷ 97 ∷ []) ≡ bad
  -- `0 1` and a carriage return
  pub return_after : line_in (48 ∷ 32 ∷ 49 ∷ 13 ∷ []) ≡ bad
  -- `0`, a tab, `1`
  pub tab_between : line_in (48 ∷ 9 ∷ 49 ∷ []) ≡ bad
  -- `0`, a zero byte, ` 1`
  pub zero_byte : line_in (48 ∷ 0 ∷ 32 ∷ 49 ∷ []) ≡ bad
  -- nothing
  pub empty : line_in [] ≡ bad
  -- a line of names, `0 -`, and `0 1` without its newline
  pub lines :
      value_lines (112 ∷ 117 ∷ 98 ∷ 108 ∷ 105 ∷ 99 ∷ 32 ∷ 104 ∷ 105 ∷ 100 ∷ 100 ∷ 101 ∷ 110 ∷ 10 ∷ 48 ∷ 32 ∷
      45 ∷ 10 ∷
      48 ∷ 32 ∷ 49 ∷ []) ≡
      (48 ∷ 32 ∷ 45 ∷ []) ∷ (48 ∷ 32 ∷ 49 ∷ []) ∷ []
  -- a line of names alone
  pub names_alone : value_lines (97 ∷ []) ≡ []
  -- nothing after the names but an empty line
  pub empty_line : value_lines (10 ∷ 10 ∷ []) ≡ [] ∷ []

-- a number in decimal is digits, and they spell the number
pub record Decimals : Type 0 where
  pub digits : (value : ℕ) → is_digits (decimal value) ≡ true
  pub spelt : (value : ℕ) → value_of_digits (decimal value) ≡ value
