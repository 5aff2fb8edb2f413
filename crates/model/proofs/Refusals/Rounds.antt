-- Refusals 7 to 9: the rounds that the head finds are those that document 01 counts, none exactly where every
-- slot is allocated, and the chain of a write's rounds answers its conditions. Assumes nothing.
use mathlib.Core.Path.{◌≡◌, refl, sym, ap, subst, ◌∙◌}
use mathlib.Core.Logic.{◌≢◌, ⊎_elim}
use mathlib.Core.Bool.{Bool, true, false, cond}
use Prim.Native.Nat.{ℕ, zero, suc, ◌+◌, ◌*◌, ◌-◌, ◌%◌, ◌≤◌, ◌<◌}
use native.Mathlib.Nat.{mod-lt, suc-mul, suc-sub-suc, sub-zero, le_antisymm}
use native.Mathlib.Omega.{arith}
use lib.Dec.{ltb, eqb}
use borrow.Author.Tests.{eqb-true, eqb-false}
use Rattle.laws.proofs.Cases.{lt_cases, true_is_not_false}
use Rattle.laws.proofs.Decides.{Decides, decides_lt, decides_same}
use Rattle.model.specs.Geometry.{Geometry}
use Rattle.model.specs.Blocks.{Bytes, DiskAddress}
use Rattle.model.specs.Layout.{head_in, round_slot, is_one_block, is_allocated, map_entry}
use Rattle.model.specs.Refusals.{round_count, store_count, round_checks}
use Rattle.model.specs.Conditions.{TakesRounds, stores_of, round_conditions}
use Rattle.model.proofs.Laws.Slots.{slot_after, slot_after_round}
use Rattle.model.proofs.Refusals.Answers.{Judges}
use Rattle.model.proofs.Refusals.Circle.{index_from, slot_after-index_from, index_from_lt, RoundsTo}
use Rattle.model.proofs.Refusals.Circle.{none_free, first_free, rounds_to_is}

-- ---- so many rounds ----

-- what the head finds over all slots
abbrev pub HeadFinds : Geometry → (disk : Bytes) → (rounds : ℕ) → Type 0
HeadFinds g disk rounds = RoundsTo g.slots (is_allocated g disk) g (head_in disk) rounds

pub head_finds : (g : Geometry) (disk : Bytes) → head_in disk < g.slots → HeadFinds g disk (round_count g disk)
head_finds g disk inside = rounds_to_is (is_allocated g disk) g g.slots (head_in disk) inside

module _ (g : Geometry) (disk : Bytes) where
  -- a number of rounds is no more than another one's, so there is but one
  takes_le : (rounds other : ℕ) → TakesRounds g disk rounds → TakesRounds g disk other → rounds ≤ other
  takes_le rounds other t o =
      ⊎_elim (λ l. true_is_not_false (t.others_allocated other o.at_least_one l) o.last_free) (λ l. l)
      (lt_cases other rounds)

  takes_same : (rounds other : ℕ) → TakesRounds g disk rounds → TakesRounds g disk other → rounds ≡ other
  takes_same rounds other t o = le_antisymm (takes_le rounds other t o) (takes_le other rounds o t)

  takes_of : {rounds : ℕ} → HeadFinds g disk rounds → rounds ≢ 0 → TakesRounds g disk rounds
  takes_of (none_free f) ne = absurd (ne refl)
  takes_of (first_free {index = index} l e f) ne =
      record {
        at_least_one = omega arith;
        last_free = ap (is_allocated g disk) (slot_after_round g (head_in disk) index) ∙ e;
        others_allocated = others;
      }
    where
      others : (round : ℕ) → 1 ≤ round → round < suc index →
          is_allocated g disk (round_slot g (head_in disk) round) ≡ true
      others zero h k = absurd (omega arith)
      others (suc before) h k =
          ap (is_allocated g disk) (slot_after_round g (head_in disk) before) ∙ f before (omega arith)

  all_of :
      {rounds : ℕ} → HeadFinds g disk rounds → rounds ≡ 0 → (index : ℕ) → index < g.slots →
      is_allocated g disk (slot_after g (head_in disk) index) ≡ true
  all_of (none_free f) e = f
  all_of (first_free l p f) e = absurd (omega arith)

  module _ (inside : head_in disk < g.slots) where
    takes_round_count : round_count g disk ≢ 0 → TakesRounds g disk (round_count g disk)
    takes_round_count = takes_of (head_finds g disk inside)

    -- no round exactly where every slot is allocated
    decides_full :
        Decides (eqb (round_count g disk) 0) ((slot : ℕ) → slot < g.slots → is_allocated g disk slot ≡ true)
    decides_full =
        record {
          holds = λ e slot h.
              ap (is_allocated g disk) (sym (slot_after-index_from g (head_in disk) inside slot h))
              ∙ all_of (head_finds g disk inside) (eqb-true (round_count g disk) 0 e)
              (index_from g (head_in disk) slot) (index_from_lt g (head_in disk) inside slot);
          fails = λ e f.
              let place = head_in disk + round_count g disk - 1 in
              true_is_not_false (f (place % g.slots) (mod-lt place (omega arith)))
              (takes_round_count (eqb-false (round_count g disk) 0 e)).last_free;
        }

  -- a length is too short for the rounds that the write takes
  decides_short :
      (rounds : ℕ) → TakesRounds g disk rounds → (size : ℕ) (needed : ℕ → ℕ) →
      Decides (ltb size (needed rounds)) ((taken : ℕ) × TakesRounds g disk taken × (size < needed taken))
  decides_short rounds t size needed =
      decides_same (decides_lt size (needed rounds)) (λ h. (rounds, t, h))
      (λ h. subst (λ (n : ℕ). size < needed n) (takes_same h.0 rounds h.1 t) h.2)

-- ---- the stores of so many rounds ----

store_count_is :
    (g : Geometry) (rounds : ℕ) (entry : DiskAddress) (slot : ℕ) → 1 ≤ rounds →
    store_count g rounds entry slot ≡ stores_of g rounds entry slot
store_count_is g zero entry slot h = elim h [ ]
store_count_is g (suc rounds) entry slot h = by (is_one_block g entry slot)
  where
    by : (isOne : Bool) →
        suc rounds * (g.height + 3) + cond isOne 2 3 ≡
        (suc rounds - 1) * (g.height + 3) + cond isOne (g.height + 5) (g.height + 6)
    by true = rw (suc-mul, suc-sub-suc, sub-zero) (omega arith)
    by false = rw (suc-mul, suc-sub-suc, sub-zero) (omega arith)

decides_room :
    (g : Geometry) (disk : Bytes) (rounds : ℕ) → TakesRounds g disk rounds →
    (room : ℕ) (entry : DiskAddress) →
    Decides (ltb room (store_count g rounds entry (round_slot g (head_in disk) rounds)))
    ((taken : ℕ) × TakesRounds g disk taken ×
    (room < stores_of g taken entry (round_slot g (head_in disk) taken)))
decides_room g disk rounds t room entry =
    rw (store_count_is g rounds entry (round_slot g (head_in disk) rounds) t.at_least_one)
    (decides_short g disk rounds t room (λ taken. stores_of g taken entry (round_slot g (head_in disk) taken)))

-- ---- the chain ----

pub judges_round :
    (g : Geometry) (disk : Bytes) (number random room : ℕ) → head_in disk < g.slots →
    Judges (round_checks g disk number random room) (round_conditions g disk number random room)
unfolding round_checks
judges_round g disk number random room inside =
    let rounds = round_count g disk in
    let takes : eqb rounds 0 ≡ false → TakesRounds g disk rounds =
    λ e. takes_round_count g disk inside (eqb-false rounds 0 e) in (
      refl,
      decides_full g disk inside,
      λ e. (
        refl,
        decides_short g disk rounds (takes e) random (λ taken. taken * g.height * g.block_size),
        λ q.
            (refl, decides_room g disk rounds (takes e) room (map_entry g disk number), λ p. tt),
      ),
    )
