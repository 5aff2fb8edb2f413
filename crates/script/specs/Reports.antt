-- How the listing prints (document 01, "Figures to hold against"): the heading, and for each line its number,
-- answer, rounds, hidden outcome, head after, and stores or `-`. Assumes nothing.
use Rattle.std.specs.Prelude.{cond, List, [], ◌∷◌, ◌++◌, ℕ, ◌+◌, ◌*◌, eqb}
use Rattle.script.specs.Texts.{Text, newline, space, comma, dash, decimal}

-- `line answer rounds hidden head stores` and a newline
abbrev pub heading : Text
heading =
    108 ∷ 105 ∷ 110 ∷ 101 ∷ 32 ∷
    97 ∷ 110 ∷ 115 ∷ 119 ∷ 101 ∷ 114 ∷ 32 ∷
    114 ∷ 111 ∷ 117 ∷ 110 ∷ 100 ∷ 115 ∷ 32 ∷
    104 ∷ 105 ∷ 100 ∷ 100 ∷ 101 ∷ 110 ∷ 32 ∷
    104 ∷ 101 ∷ 97 ∷ 100 ∷ 32 ∷
    115 ∷ 116 ∷ 111 ∷ 114 ∷ 101 ∷ 115 ∷ 10 ∷ []

-- ---- fields ----

-- a number and the space after it
abbrev pub field : (value : ℕ) → Text
field value = decimal value ++ (space ∷ [])

-- `none`, `placed`, `waiting`, `not tried`
abbrev pub none_text : Text
none_text = 110 ∷ 111 ∷ 110 ∷ 101 ∷ []

abbrev pub placed_text : Text
placed_text = 112 ∷ 108 ∷ 97 ∷ 99 ∷ 101 ∷ 100 ∷ []

abbrev pub waiting_text : Text
waiting_text = 119 ∷ 97 ∷ 105 ∷ 116 ∷ 105 ∷ 110 ∷ 103 ∷ []

abbrev pub not_tried_text : Text
not_tried_text = 110 ∷ 111 ∷ 116 ∷ 32 ∷ 116 ∷ 114 ∷ 105 ∷ 101 ∷ 100 ∷ []

-- a hidden outcome by its number: 0 to 3 are words, a refusal is its number
unfoldable pub outcome_text : (outcome : ℕ) → Text
outcome_text outcome =
    cond (eqb outcome 0) none_text
    (cond (eqb outcome 1) placed_text
    (cond (eqb outcome 2) waiting_text
    (cond (eqb outcome 3) not_tried_text (decimal outcome))))

-- stores after the first, each with a comma before it
unfoldable pub later_text : (stores : List ℕ) → Text
later_text [] = []
later_text (store ∷ stores) = (comma ∷ decimal store) ++ later_text stores

-- stores in order, separated by commas; `-` for none
unfoldable pub stores_text : (stores : List ℕ) → Text
stores_text [] = dash ∷ []
stores_text (store ∷ stores) = decimal store ++ later_text stores

-- ---- lines ----

-- a line of the listing up to its hidden outcome
abbrev pub counts_text : (line answer rounds : ℕ) → Text
counts_text line answer rounds = field line ++ field answer ++ field rounds

-- a line of the listing, with its newline
abbrev pub report_line : (line answer rounds outcome head : ℕ) → (stores : List ℕ) → Text
report_line line answer rounds outcome head stores =
    counts_text line answer rounds ++ (outcome_text outcome ++ (space ∷ [])) ++ field head ++
    stores_text stores ++ (newline ∷ [])

-- ---- room ----

-- bytes that hold so many stores below 2^32
abbrev pub stores_room : (count : ℕ) → ℕ
stores_room count = 11 * count + 1

-- bytes that hold a line with so many stores: its number below 2^64, answer and outcome below 2^8, the other
-- numbers below 2^32
abbrev pub report_room : (count : ℕ) → ℕ
report_room count = 58 + stores_room count
