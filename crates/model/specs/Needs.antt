-- What a write takes now, for a caller who has yet to lend it buffers: the refusal that no buffer can avert,
-- or the rounds, stores and random blocks of a write whose data is one block. Assumes nothing.
use Rattle.std.specs.Prelude.{◌≡◌, cond, [], ◌∷◌, ◌++◌, ℕ, ◌*◌, ◌≤◌, eqb, length}
use Rattle.laws.specs.Checks.{check, first_of}
use Rattle.model.specs.Geometry.{Geometry}
use Rattle.model.specs.Blocks.{Bytes}
use Rattle.model.specs.Layout.{geometry_in}
use Rattle.model.specs.Refusals.{drive_checks, place_checks, round_count, write_store_count, write_refusal}

-- the answer, and what is to be lent: random bytes for so many blocks, a list for so many stores
pub record Needed : Type 0 where
  pub answer : ℕ
  pub rounds : ℕ
  pub stores : ℕ
  pub random_blocks : ℕ

-- 1 to 4, 6 and 7 of a write whose data is one block
unfoldable pub needs_refusal : (disk : Bytes) → (number : ℕ) → ℕ
needs_refusal disk number =
    let g = geometry_in disk in
    first_of
    (drive_checks disk ++
    (place_checks g disk number g.block_size ++ (check (eqb (round_count g disk) 0) 7 ∷ [])))

abbrev pub refused_needs : (answer : ℕ) → Needed
refused_needs answer = record { answer = answer; rounds = 0; stores = 0; random_blocks = 0 }

abbrev pub needed_for : Geometry → (disk : Bytes) → (number : ℕ) → Needed
needed_for g disk number =
    let rounds = round_count g disk in
    record {
      answer = 0;
      rounds = rounds;
      stores = write_store_count g disk number;
      random_blocks = rounds * g.height;
    }

unfoldable pub needs_of : (disk : Bytes) → (number : ℕ) → Needed
needs_of disk number =
    cond (eqb (needs_refusal disk number) 0) (needed_for (geometry_in disk) disk number)
    (refused_needs (needs_refusal disk number))

-- a write of one block of data that is lent at least so much is not refused
abbrev pub Suffices : (disk : Bytes) → (number : ℕ) → Needed → Type 0
Suffices disk number needed =
    (content : Bytes) (random room : ℕ) → needed.answer ≡ 0 → length content ≡ (geometry_in disk).block_size →
    needed.random_blocks * (geometry_in disk).block_size ≤ random → needed.stores ≤ room →
    write_refusal disk number content random room ≡ 0
