-- Laws of the number of rounds that a write takes, and of how many stores these have. Assumes nothing.
use mathlib.Core.Path.{◌≡◌, refl, ap, ap₂, ◌∙◌}
use mathlib.Core.Logic.{◌≢◌}
use mathlib.Core.Bool.{Bool, true, false, cond}
use mathlib.Core.List.{List, [], ◌∷◌, ◌++◌}
use Prim.Native.Nat.{ℕ, zero, suc, ◌+◌, ◌*◌, ◌<◌}
use native.Mathlib.Omega.{arith}
use lib.ListN.{length, length-append}
use Rattle.laws.proofs.Cases.{cond_true, cond_false}
use Rattle.model.specs.Geometry.{Geometry, Fits, root_address}
use Rattle.model.specs.Blocks.{DiskAddress}
use Rattle.model.specs.Layout.{slot_start, slot_of, next_slot, bit_address, is_one_block, map_address}
use Rattle.model.specs.Refusals.{one_more_than, rounds_to, store_count}
use Rattle.model.specs.Simulator.{addresses_from, slot_addresses, kept_rounds, last_round}
use Rattle.model.proofs.Laws.Slots.{next_slot_lt}

-- ---- rounds ----

pub rounds_to-zero : (is_taken : ℕ → Bool) (g : Geometry) (slot : ℕ) → rounds_to zero is_taken g slot ≡ 0
unfolding rounds_to
rounds_to-zero is_taken g slot = refl

pub rounds_to_free :
    (most : ℕ) (is_taken : ℕ → Bool) (g : Geometry) (slot : ℕ) → is_taken slot ≡ false →
    rounds_to (suc most) is_taken g slot ≡ 1
unfolding rounds_to
rounds_to_free most is_taken g slot e = cond_false _ _ e

pub rounds_to_taken :
    (most : ℕ) (is_taken : ℕ → Bool) (g : Geometry) (slot : ℕ) → is_taken slot ≡ true →
    rounds_to (suc most) is_taken g slot ≡ one_more_than (rounds_to most is_taken g (next_slot g slot))
unfolding rounds_to
rounds_to_taken most is_taken g slot e = cond_true _ _ e

-- one round more than some is the next number
pub record OneMore (rounds : ℕ) : Type 0 where
  pub some_rounds : rounds ≢ 0
  pub one_more : one_more_than rounds ≡ suc rounds

pub one_more_of : (rounds : ℕ) → one_more_than rounds ≢ 0 → OneMore rounds
one_more_of zero ne = absurd (ne refl)
one_more_of (suc rounds) ne = record { some_rounds = λ e. omega arith; one_more = refl }

-- only the slots of the drive count
pub rounds_to_ext :
    (most : ℕ) (is_taken isTakenToo : ℕ → Bool) (g : Geometry) → Fits g → (slot : ℕ) → slot < g.slots →
    ((other : ℕ) → other < g.slots → is_taken other ≡ isTakenToo other) →
    rounds_to most is_taken g slot ≡ rounds_to most isTakenToo g slot
unfolding rounds_to
rounds_to_ext zero is_taken isTakenToo g f slot h same = refl
rounds_to_ext (suc most) is_taken isTakenToo g f slot h same =
    ap₂ (λ (b : Bool) (n : ℕ). cond b (one_more_than n) 1) (same slot h)
    (rounds_to_ext most is_taken isTakenToo g f (next_slot g slot) (next_slot_lt g slot f) same)

-- ---- stores ----

pub length-addresses_from : (address : DiskAddress) (count : ℕ) → length (addresses_from address count) ≡ count
unfolding addresses_from
length-addresses_from address zero = refl
length-addresses_from address (suc count) = ap suc (length-addresses_from (suc address) count)

pub length-slot_addresses : (g : Geometry) (slot : ℕ) → length (slot_addresses g slot) ≡ g.height + 2
length-slot_addresses g slot =
    length-append (addresses_from (slot_start g slot) (suc g.height)) (root_address g ∷ [])
    ∙ omega (arith, length-addresses_from (slot_start g slot) (suc g.height))

length-kept_rounds :
    (count : ℕ) (g : Geometry) (slot : ℕ) → length (kept_rounds count g slot) ≡ count * (g.height + 3)
unfolding kept_rounds
length-kept_rounds zero g slot = omega arith
length-kept_rounds (suc count) g slot =
    length-append (slot_addresses g slot) (0 ∷ kept_rounds count g (next_slot g slot))
    ∙ omega (arith, length-slot_addresses g slot, length-kept_rounds count g (next_slot g slot))

length-last_round :
    (g : Geometry) (number : ℕ) (entry : DiskAddress) (slot : ℕ) →
    length (last_round g number entry slot) ≡ g.height + 3 + cond (is_one_block g entry slot) 2 3
length-last_round g number entry slot = by (is_one_block g entry slot)
  where
    tail : Bool → List ℕ
    tail b =
        map_address g number ∷ bit_address g slot ∷ cond b (0 ∷ []) (bit_address g (slot_of g entry) ∷ 0 ∷ [])

    by : (b : Bool) → length (slot_addresses g slot ++ tail b) ≡ g.height + 3 + cond b 2 3
    by true = length-append (slot_addresses g slot) (tail true) ∙ omega (arith, length-slot_addresses g slot)
    by false = length-append (slot_addresses g slot) (tail false) ∙ omega (arith, length-slot_addresses g slot)

-- so many kept rounds and a last one
pub length_rounds :
    (earlier : ℕ) (g : Geometry) (number : ℕ) (entry : DiskAddress) (slot last : ℕ) →
    length (kept_rounds earlier g slot ++ last_round g number entry last) ≡
    store_count g (suc earlier) entry last
length_rounds earlier g number entry slot last =
    length-append (kept_rounds earlier g slot) (last_round g number entry last)
    ∙ omega (arith, length-kept_rounds earlier g slot, length-last_round g number entry last)
