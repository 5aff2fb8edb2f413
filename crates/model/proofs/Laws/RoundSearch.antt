-- Laws of the search for the first free slot from the head on, and of the rounds up to there: their random
-- bytes and stores are few enough to be counted, and which store count they have. Assumes nothing.
use mathlib.Core.Path.{◌≡◌, refl, sym, ap, ◌∙◌}
use mathlib.Core.Bool.{Bool, true, false}
use Prim.Native.Nat.{ℕ, zero, suc, ◌+◌, ◌*◌, ◌-◌, ◌^◌, ◌≤◌, ◌<◌}
use native.Mathlib.Nat.{mul-le-mul_right, mul-le-mul_left, mod-lt}
use native.Mathlib.Omega.{arith}
use lib.ListN.{length}
use Rattle.model.specs.Geometry.{Geometry, Fits, block_count}
use Rattle.model.specs.Blocks.{Bytes}
use Rattle.model.specs.Layout.{Drive, next_slot}
use Rattle.model.specs.Refusals.{one_more_than, rounds_to}
use Rattle.model.proofs.Laws.RoundCounts.{rounds_to-zero, rounds_to_free, rounds_to_taken}

-- the header's entries are the disk's
pub header_inside : (g : Geometry) (disk : Bytes) → Drive g disk → 24 ≤ length disk
header_inside g disk drive =
    let f = drive.fits in
    let low : 2 ≤ block_count g = omega arith in
    omega (arith, drive.whole, mul-le-mul_right g.block_size low)

-- so many rounds more, where there are any
abbrev pub more : (done rounds : ℕ) → ℕ
more done zero = zero
more done (suc rounds) = suc (done + rounds)

more_none : (rounds : ℕ) → rounds ≡ more 0 rounds
more_none zero = refl
more_none (suc rounds) = omega arith

more_one_more : (done rounds : ℕ) → more done (one_more_than rounds) ≡ more (done + 1) rounds
more_one_more done zero = refl
more_one_more done (suc rounds) = omega arith

-- so many slots from the head on are taken, and the search goes on at this slot
pub record Looked (is_taken : ℕ → Bool) (g : Geometry) (head done slot : ℕ) : Type 0 where
  pub within : done ≤ g.slots
  pub inside : slot < g.slots
  pub counted : rounds_to g.slots is_taken g head ≡ more done (rounds_to (g.slots - done) is_taken g slot)

module _ (is_taken : ℕ → Bool) (g : Geometry) (head : ℕ) where
  pub looked_none : head < g.slots → Looked is_taken g head 0 head
  looked_none h =
      let left : g.slots ≡ g.slots - 0 = omega arith in
      record {
        within = omega arith;
        inside = h;
        counted =
            more_none (rounds_to g.slots is_taken g head)
            ∙ ap (λ (n : ℕ). more 0 (rounds_to n is_taken g head)) left;
      }

  module _ (done slot : ℕ) (l : Looked is_taken g head done slot) where
    pub looked_next :
        done < g.slots → is_taken slot ≡ true → Looked is_taken g head (done + 1) (next_slot g slot)
    looked_next h e =
        let left : g.slots - done ≡ suc (g.slots - (done + 1)) = omega arith in
        record {
          within = omega arith;
          inside = mod-lt (slot + 1) (omega arith);
          counted =
              l.counted ∙ ap (λ (n : ℕ). more done (rounds_to n is_taken g slot)) left
              ∙ ap (more done) (rounds_to_taken (g.slots - (done + 1)) is_taken g slot e)
              ∙ more_one_more done (rounds_to (g.slots - (done + 1)) is_taken g (next_slot g slot));
        }

    pub looked_free : done < g.slots → is_taken slot ≡ false → done + 1 ≡ rounds_to g.slots is_taken g head
    looked_free h e =
        let left : g.slots - done ≡ suc (g.slots - (done + 1)) = omega arith in
        let z : more done 1 ≡ done + 1 = omega arith in
        sym (l.counted ∙ ap (λ (n : ℕ). more done (rounds_to n is_taken g slot)) left
        ∙ ap (more done) (rounds_to_free (g.slots - (done + 1)) is_taken g slot e) ∙ z)

    pub looked_all : g.slots ≤ done → 0 ≡ rounds_to g.slots is_taken g head
    looked_all h =
        let left : g.slots - done ≡ 0 = omega arith in
        sym (l.counted ∙ ap (λ (n : ℕ). more done (rounds_to n is_taken g slot)) left
        ∙ ap (more done) (rounds_to-zero is_taken g slot))

-- ---- stores ----

-- the stores of all rounds that there can be are few enough for an entry
pub stores_small :
    (g : Geometry) → Fits g → (rounds : ℕ) → rounds ≤ g.slots → rounds * (g.height + 3) + 3 < 2 ^ 32
stores_small g f rounds h =
    omega (
      arith,
      mul-le-mul_right (g.height + 3) h,
      mul-le-mul_left g.slots f.height_low,
      f.blocks_high,
    )

-- a slot and so many rounds are few enough to be added
pub head_rounds_small :
    (g : Geometry) → Fits g → (head rounds : ℕ) → head < g.slots → rounds ≤ g.slots → head + rounds < 2 ^ 32
head_rounds_small g f head rounds h k =
    omega (arith, mul-le-mul_left g.slots f.height_low, f.blocks_high)
