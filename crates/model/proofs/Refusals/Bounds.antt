-- Where a write's rounds are at most so many, random bytes and a list for so many rounds never get 8 or 9.
-- Assumes nothing.
use mathlib.Core.Logic.{◌≢◌}
use mathlib.Core.List.{◌++◌}
use Prim.Native.Nat.{ℕ, ◌+◌, ◌*◌, ◌≤◌, ◌<◌}
use native.Mathlib.Nat.{mul-le-mul_right, le_trans}
use native.Mathlib.Omega.{arith}
use lib.ListN.{length}
use borrow.Author.Tests.{le-ltb}
use Rattle.laws.proofs.Cases.{cond_cases}
use Rattle.laws.proofs.Checks.{Never, first_of_never, never_append}
use Rattle.model.specs.Geometry.{Geometry}
use Rattle.model.specs.Blocks.{Bytes, DiskAddress}
use Rattle.model.specs.Layout.{geometry_in, head_in, round_slot, is_one_block, map_entry}
use Rattle.model.specs.Refusals.{size_checks, drive_checks, place_checks, round_count, store_count}
use Rattle.model.specs.Refusals.{write_store_count, round_checks, write_refusal}

-- ---- the numbers of the chains ----

pub never_drive : (disk : Bytes) (answer : ℕ) → 3 < answer → Never answer (drive_checks disk)
unfolding drive_checks size_checks
never_drive disk answer h =
    (λ e. absurd (omega arith), ((λ e. absurd (omega arith)), ((λ e. absurd (omega arith)), tt)))

pub never_place :
    (g : Geometry) (disk : Bytes) (number size answer : ℕ) → 6 < answer →
    Never answer (place_checks g disk number size)
unfolding place_checks
never_place g disk number size answer h =
    (λ e. absurd (omega arith), ((λ e. absurd (omega arith)), ((λ e. absurd (omega arith)), tt)))

-- a write is refused for its rounds only by its rounds' checks
pub refusal_of_rounds :
    (disk : Bytes) (number : ℕ) (content : Bytes) (random room answer : ℕ) → 6 < answer →
    Never answer (round_checks (geometry_in disk) disk number random room) →
    write_refusal disk number content random room ≢ answer
unfolding write_refusal
refusal_of_rounds disk number content random room answer h never =
    let g = geometry_in disk in
    let places = place_checks g disk number (length content) in
    let rounds = round_checks g disk number random room in
    first_of_never answer (drive_checks disk ++ (places ++ rounds)) (λ e. omega arith)
    (never_append answer (drive_checks disk) (places ++ rounds) (never_drive disk answer (omega arith))
    (never_append answer places rounds (never_place g disk number (length content) answer h) never))

-- ---- enough for the most rounds ----

store_count_le :
    (g : Geometry) (rounds most : ℕ) (entry : DiskAddress) (slot : ℕ) → rounds ≤ most →
    store_count g rounds entry slot ≤ most * (g.height + 3) + 3
store_count_le g rounds most entry slot h =
    cond_cases (λ (n : ℕ). rounds * (g.height + 3) + n ≤ most * (g.height + 3) + 3)
    (is_one_block g entry slot)
    (λ e. omega (arith, mul-le-mul_right (g.height + 3) h))
    (λ e. omega (arith, mul-le-mul_right (g.height + 3) h))

module _ (disk : Bytes) (most : ℕ) (few : round_count (geometry_in disk) disk ≤ most) (number : ℕ)
    (content : Bytes) (random room : ℕ) where
  pub never_eight_of_rounds :
      most * (geometry_in disk).height * (geometry_in disk).block_size ≤ random →
      write_refusal disk number content random room ≢ 8
  unfolding round_checks
  never_eight_of_rounds h =
      let g = geometry_in disk in
      let l : round_count g disk * g.height * g.block_size ≤ random =
      le_trans (mul-le-mul_right g.block_size (mul-le-mul_right g.height few)) h in
      refusal_of_rounds disk number content random room 8 (omega arith) (
        λ e. absurd (omega arith),
        (
          (λ e. le-ltb random (round_count g disk * g.height * g.block_size) l),
          ((λ e. absurd (omega arith)), tt),
        ),
      )

  pub never_nine_of_rounds :
      most * ((geometry_in disk).height + 3) + 3 ≤ room → write_refusal disk number content random room ≢ 9
  unfolding round_checks
  never_nine_of_rounds h =
      let g = geometry_in disk in
      let rounds = round_count g disk in
      let l : write_store_count g disk number ≤ room =
      le_trans
      (store_count_le g rounds most (map_entry g disk number) (round_slot g (head_in disk) rounds) few) h in
      refusal_of_rounds disk number content random room 9 (omega arith) (
        λ e. absurd (omega arith),
        (
          (λ e. absurd (omega arith)),
          ((λ e. le-ltb room (write_store_count g disk number) l), tt),
        ),
      )
