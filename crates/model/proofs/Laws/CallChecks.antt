-- Laws of refusals 4 to 11 of a drive that 1 to 3 do not meet, one for each way through the chain: a public
-- number and its place, the rounds of a write, a hidden number. Assumes nothing.
use mathlib.Core.Path.{◌≡◌, sym, ap, ◌∙◌}
use mathlib.Core.Logic.{◌≢◌}
use mathlib.Core.Bool.{true, false, not, ◌||◌}
use mathlib.Core.List.{[], ◌∷◌}
use Prim.Native.Nat.{ℕ, ◌*◌, ◌≤◌, ◌<◌}
use lib.Dec.{eqb}
use borrow.Author.Tests.{le-leb, lt-leb, eq-eqb, ne_eqb, lt-ltb, le-ltb}
use Rattle.laws.specs.Checks.{check, first_of}
use Rattle.laws.proofs.Cases.{or_left, or_right, or_neither}
use Rattle.laws.proofs.Checks.{first_of_nil, first_of_stop, first_of_pass}
use Rattle.model.specs.Geometry.{Geometry}
use Rattle.model.specs.Blocks.{Bytes, DiskAddress}
use Rattle.model.specs.Layout.{map_entry, is_place}
use Rattle.model.specs.Refusals.{place_checks, hidden_checks, round_count, write_store_count, round_checks}

-- ---- 4 to 6 ----

module _ (g : Geometry) (disk : Bytes) (number size : ℕ) where
  pub public_number_refused : g.publics ≤ number → 4 ≡ first_of (place_checks g disk number size)
  unfolding place_checks
  public_number_refused h = sym (first_of_stop 4 _ (le-leb g.publics number h))

  module _ (inside : number < g.publics) where
    pub public_size_refused : size ≢ g.block_size → 5 ≡ first_of (place_checks g disk number size)
    unfolding place_checks
    public_size_refused f =
        sym (first_of_pass 4 _ (lt-leb g.publics number inside)
        ∙ first_of_stop 5 _ (ap not (ne_eqb size g.block_size f)))

    module _ (sized : size ≡ g.block_size) (entry : DiskAddress) (e : entry ≡ map_entry g disk number) where
      -- the last check decides
      by_entry : first_of (place_checks g disk number size) ≡
          first_of (check (not (eqb entry 0 || is_place g disk entry)) 6 ∷ [])
      unfolding place_checks
      by_entry =
          first_of_pass 4 _ (lt-leb g.publics number inside)
          ∙ first_of_pass 5 _ (ap not (eq-eqb size g.block_size sized)) ∙ rw e

      pub public_unplaced_passes : entry ≡ 0 → 0 ≡ first_of (place_checks g disk number size)
      public_unplaced_passes z =
          sym (by_entry ∙ first_of_pass 6 [] (ap not (or_left (is_place g disk entry) (eq-eqb entry 0 z)))
          ∙ first_of_nil)

      pub public_placed_passes : is_place g disk entry ≡ true → 0 ≡ first_of (place_checks g disk number size)
      public_placed_passes p =
          sym (by_entry ∙ first_of_pass 6 [] (ap not (or_right (eqb entry 0) p)) ∙ first_of_nil)

      pub public_entry_refused : entry ≢ 0 → is_place g disk entry ≡ false →
          6 ≡ first_of (place_checks g disk number size)
      public_entry_refused f p = sym (by_entry ∙ first_of_stop 6 [] (ap not (or_neither (ne_eqb entry 0 f) p)))

-- ---- 7 to 9 ----

module _ (g : Geometry) (disk : Bytes) (number random room : ℕ) where
  abbrev pub round_answer : ℕ
  round_answer = first_of (round_checks g disk number random room)

  pub rounds_none : round_count g disk ≡ 0 → 7 ≡ round_answer
  unfolding round_checks
  rounds_none e = sym (first_of_stop 7 _ (eq-eqb (round_count g disk) 0 e))

  module _ (some : round_count g disk ≢ 0) where
    pub rounds_random_short : random < round_count g disk * g.height * g.block_size → 8 ≡ round_answer
    unfolding round_checks
    rounds_random_short h =
        sym (first_of_pass 7 _ (ne_eqb (round_count g disk) 0 some) ∙ first_of_stop 8 _ (lt-ltb _ _ h))

    module _ (enough : round_count g disk * g.height * g.block_size ≤ random) where
      pub rounds_room_short : room < write_store_count g disk number → 9 ≡ round_answer
      unfolding round_checks
      rounds_room_short h =
          sym (first_of_pass 7 _ (ne_eqb (round_count g disk) 0 some) ∙ first_of_pass 8 _ (le-ltb _ _ enough)
          ∙ first_of_stop 9 _ (lt-ltb _ _ h))

      pub rounds_good : write_store_count g disk number ≤ room → 0 ≡ round_answer
      unfolding round_checks
      rounds_good h =
          sym (first_of_pass 7 _ (ne_eqb (round_count g disk) 0 some) ∙ first_of_pass 8 _ (le-ltb _ _ enough)
          ∙ first_of_pass 9 _ (le-ltb _ _ h) ∙ first_of_nil)

-- ---- 10 and 11 ----

module _ (g : Geometry) (number size : ℕ) where
  pub hidden_number_refused : g.hidden ≤ number → 10 ≡ first_of (hidden_checks g number size)
  unfolding hidden_checks
  hidden_number_refused h = sym (first_of_stop 10 _ (le-leb g.hidden number h))

  module _ (inside : number < g.hidden) where
    pub hidden_size_refused : size ≢ g.block_size → 11 ≡ first_of (hidden_checks g number size)
    unfolding hidden_checks
    hidden_size_refused f =
        sym (first_of_pass 10 _ (lt-leb g.hidden number inside)
        ∙ first_of_stop 11 [] (ap not (ne_eqb size g.block_size f)))

    pub hidden_number_passes : size ≡ g.block_size → 0 ≡ first_of (hidden_checks g number size)
    unfolding hidden_checks
    hidden_number_passes e =
        sym (first_of_pass 10 _ (lt-leb g.hidden number inside)
        ∙ first_of_pass 11 [] (ap not (eq-eqb size g.block_size e)) ∙ first_of_nil)
