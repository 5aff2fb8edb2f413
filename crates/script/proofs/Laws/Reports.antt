-- Laws of a line of output: each way of a hidden outcome, lengths, and the loop that lists stores.
-- Assumes nothing.
use mathlib.Core.Path.{◌≡◌, refl, sym, ap, ◌∙◌}
use mathlib.Core.Logic.{◌≢◌}
use mathlib.Core.List.{List, [], ◌∷◌, ◌++◌, append_assoc, append-nil}
use Prim.Native.Nat.{ℕ, suc, ◌+◌, ◌*◌, ◌^◌, ◌≤◌, ◌<◌}
use native.Mathlib.Numerals.{add-one}
use native.Mathlib.Omega.{arith}
use lib.Dec.{eqb}
use lib.ListN.{length, get_or, take, drop, set, length-append, length-drop}
use lib.Seq.{take-suc, get_or-drop}
use borrow.Author.Tests.{ne_eqb}
use Rattle.laws.proofs.Cases.{cond_cases}
use Rattle.script.specs.Texts.{Text, Put, space, comma, dash, decimal}
use Rattle.script.specs.Reports.{field, outcome_text, none_text, placed_text, waiting_text, not_tried_text}
use Rattle.script.specs.Reports.{later_text, stores_text, stores_room}
use Rattle.script.proofs.Laws.Texts.{put_nothing, put_one, put_append}
use Rattle.script.proofs.Laws.Decimals.{length-decimal}

-- ---- hidden outcomes ----

module _ (outcome : ℕ) where
  pub outcome_text_none : outcome ≡ 0 → outcome_text outcome ≡ none_text
  unfolding outcome_text
  outcome_text_none e = rw e

  pub outcome_text_placed : outcome ≡ 1 → outcome_text outcome ≡ placed_text
  unfolding outcome_text
  outcome_text_placed e = rw e

  pub outcome_text_waiting : outcome ≡ 2 → outcome_text outcome ≡ waiting_text
  unfolding outcome_text
  outcome_text_waiting e = rw e

  pub outcome_text-not_tried : outcome ≡ 3 → outcome_text outcome ≡ not_tried_text
  unfolding outcome_text
  outcome_text-not_tried e = rw e

  pub outcome_text_refusal :
      outcome ≢ 0 → outcome ≢ 1 → outcome ≢ 2 → outcome ≢ 3 → outcome_text outcome ≡ decimal outcome
  unfolding outcome_text
  outcome_text_refusal none placed waiting not_tried =
      rw (
        ne_eqb outcome 0 none,
        ne_eqb outcome 1 placed,
        ne_eqb outcome 2 waiting,
        ne_eqb outcome 3 not_tried,
      )

-- ---- lengths ----

length-field : (most value : ℕ) → value < 10 ^ suc most → length (field value) ≤ suc most + 1
length-field most value h =
    omega (arith, length-append (decimal value) (space ∷ []), length-decimal most value h)

-- the three widths of a number and the space after it
length-field_line : (value : ℕ) → value < 2 ^ 64 → length (field value) ≤ 21
length-field_line value h = length-field 19 value (omega arith)

pub length-field_count : (value : ℕ) → value < 2 ^ 32 → length (field value) ≤ 11
length-field_count value h = length-field 9 value (omega arith)

length-field_answer : (value : ℕ) → value < 2 ^ 8 → length (field value) ≤ 4
length-field_answer value h = length-field 2 value (omega arith)

pub length_counts :
    (line answer rounds : ℕ) → line < 2 ^ 64 → answer < 2 ^ 8 → rounds < 2 ^ 32 →
    length (field line) + length (field answer) + length (field rounds) ≤ 36
length_counts line answer rounds l a r =
    omega (arith, length-field_line line l, length-field_answer answer a, length-field_count rounds r)

abbrev short : Text → Type 0
short text = length text ≤ 9

pub length-outcome_text : (outcome : ℕ) → outcome < 2 ^ 8 → length (outcome_text outcome) ≤ 9
unfolding outcome_text
length-outcome_text outcome h =
    cond_cases short (eqb outcome 0) (λ e. omega arith)
    (λ e. cond_cases short (eqb outcome 1) (λ e. omega arith)
    (λ e. cond_cases short (eqb outcome 2) (λ e. omega arith)
    (λ e. cond_cases short (eqb outcome 3) (λ e. omega arith)
    (λ e. omega (arith, length-decimal 2 outcome (omega arith))))))

-- ---- stores ----

later_text_snoc : (stores : List ℕ) (store : ℕ) → later_text (stores ++ (store ∷ [])) ≡ later_text stores ++
    (comma ∷ decimal store)
unfolding later_text
later_text_snoc [] store = append-nil (comma ∷ decimal store)
later_text_snoc (first ∷ stores) store =
    ap (λ (text : Text). (comma ∷ decimal first) ++ text) (later_text_snoc stores store)
    ∙ sym (append_assoc (comma ∷ decimal first) (later_text stores) (comma ∷ decimal store))

pub length-decimal-store : (store : ℕ) → store < 2 ^ 32 → length (decimal store) ≤ 10
length-decimal-store store h = length-decimal 9 store (omega arith)

stores_text_none : (stores : List ℕ) → length stores ≡ 0 → stores_text stores ≡ dash ∷ []
unfolding stores_text
stores_text_none [] e = refl
stores_text_none (store ∷ stores) e = absurd (omega arith)

stores_text_some :
    (stores : List ℕ) → length stores ≢ 0 → stores_text stores ≡ decimal (get_or stores 0 0) ++
    later_text (drop 1 stores)
unfolding stores_text
stores_text_some [] ne = absurd (ne refl)
stores_text_some (store ∷ stores) ne = refl

-- every store fits four bytes
abbrev pub Small : List ℕ → Type 0
Small stores = (index : ℕ) → get_or stores index 0 < 2 ^ 32

length-later_text : (stores : List ℕ) → Small stores → length (later_text stores) ≤ 11 * length stores
unfolding later_text
length-later_text [] small = omega arith
length-later_text (store ∷ stores) small =
    omega (
      arith,
      length-append (comma ∷ decimal store) (later_text stores),
      length-decimal-store store (small 0),
      length-later_text stores (λ index. small (suc index)),
    )

pub length-stores_text : (stores : List ℕ) → Small stores →
    length (stores_text stores) ≤ stores_room (length stores)
unfolding stores_text
length-stores_text [] small = omega arith
length-stores_text (store ∷ stores) small =
    omega (
      arith,
      length-append (decimal store) (later_text stores),
      length-decimal-store store (small 0),
      length-later_text stores (λ index. small (suc index)),
    )

-- ---- a loop over stores ----

-- the first stores are put, in no more than eleven bytes each
pub record Listed (stores : List ℕ) (out : Text) (at : ℕ) (after : Text) (next count : ℕ) : Type 0 where
  pub near : next ≤ at + 11 * count
  pub put : Put (later_text (take count stores)) out at after next

pub listed_none : (stores : List ℕ) (out : Text) (at : ℕ) → at ≤ length out → Listed stores out at out at 0
unfolding later_text
listed_none stores out at h =
    record { near = omega arith; put = put_nothing out at h }

module _ (stores : List ℕ) (out : Text) (at : ℕ) (fits : at + 11 * length stores ≤ length out)
    (after : Text)
    (next count : ℕ) (listed : Listed stores out at after next count) where
  pub listed_more :
      (last : Text) (end : ℕ) → count < length stores →
      get_or stores count 0 < 2 ^ 32 → Put (comma ∷ decimal (get_or stores count 0)) after next last end →
      Listed stores out at last end (count + 1)
  listed_more last end h small put =
      let store = get_or stores count 0 in
      let short : length (decimal store) ≤ 10 = length-decimal-store store small in
      record {
        near = omega (arith, put.ended, listed.near);
        put =
            rw (add-one, take-suc stores count 0, later_text_snoc (take count stores) store)
            (put_append (later_text (take count stores)) out at after next listed.put
            (omega (arith, listed.put.ended, listed.near)) (comma ∷ decimal store) last end put
            (omega (arith, listed.near)));
      }

-- ---- all stores ----

module _ (stores : List ℕ) (out : Text) (at : ℕ) (fits : at + stores_room (length stores) ≤ length out) where
  pub put_none : length stores ≡ 0 → Put (stores_text stores) out at (set out at dash) (at + 1)
  put_none e = rw (stores_text_none stores e) (put_one out at dash (omega arith))

  module _ (some : length stores ≢ 0) (small : Small stores) where
    pub first_fits : at + length (decimal (get_or stores 0 0)) ≤ length out
    first_fits = omega (arith, length-decimal-store (get_or stores 0 0) (small 0))

    module _ (after : Text) (next : ℕ) (first : Put (decimal (get_or stores 0 0)) out at after next) where
      pub later_fits : next + 11 * length (drop 1 stores) ≤ length out
      later_fits =
          simp length-drop (omega (arith, first.ended, length-decimal-store (get_or stores 0 0) (small 0)))

      pub put_some :
          (last : Text) (end : ℕ) → Put (later_text (drop 1 stores)) after next last end →
          Put (stores_text stores) out at last end
      put_some last end later =
          rw (stores_text_some stores some)
          (put_append (decimal (get_or stores 0 0)) out at after next first first_fits
          (later_text (drop 1 stores)) last end
          later (omega (arith, later_fits, length-later_text (drop 1 stores) rest)))
        where
          rest : Small (drop 1 stores)
          rest index = rw get_or-drop (small (1 + index))
