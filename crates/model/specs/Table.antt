-- The table of eight rows (document 000, Table 1, as document 01, "A round", reads it): what a round does
-- with the public block and with the hidden blocks of its slot, by whether a hidden write waits, by the
-- public and by the hidden status. Assumes nothing.
use Rattle.std.specs.Prelude.{Bool, true, false, List, [], ◌∷◌, ℕ, ◌+◌, ◌*◌, get_or}

-- a public block is kept, or takes the call's data
pub data PublicChoice : Type 0 where
  keep_public : PublicChoice
  write_public : PublicChoice

-- the owner's current path is stored, or the path of the waiting hidden write, or random bytes
pub data HiddenChoice : Type 0 where
  keep_hidden : HiddenChoice
  place_hidden : HiddenChoice
  fill_hidden : HiddenChoice

pub record Row : Type 0 where
  pub public : PublicChoice
  pub hidden : HiddenChoice

abbrev pub row : PublicChoice → HiddenChoice → Row
row public hidden = record { public = public; hidden = hidden }

-- none waiting, then one waiting; in each free, then allocated; in each not live, then live
unfoldable pub table : List Row
table =
    row write_public fill_hidden ∷ row write_public keep_hidden ∷
    row keep_public fill_hidden ∷ row keep_public keep_hidden ∷
    row write_public place_hidden ∷ row write_public keep_hidden ∷
    row keep_public place_hidden ∷ row keep_public keep_hidden ∷ []

abbrev pub digit : Bool → ℕ
digit true = 1
digit false = 0

abbrev pub row_index : (is_waiting is_allocated is_live : Bool) → ℕ
row_index is_waiting is_allocated is_live = 4 * digit is_waiting + 2 * digit is_allocated + digit is_live

unfoldable pub row_at : (is_waiting is_allocated is_live : Bool) → Row
row_at is_waiting is_allocated is_live =
    get_or table (row_index is_waiting is_allocated is_live) (row keep_public keep_hidden)
