-- Laws of slots: the slot and the place of each of a slot's blocks, blocks apart, which addresses are slot
-- blocks, levels, and the slots after a slot. Assumes nothing.
use mathlib.Core.Path.{◌≡◌, sym, ap, ◌∙◌}
use mathlib.Core.Logic.{◌≢◌}
use mathlib.Core.Bool.{true, false, ◌&&◌}
use Prim.Native.Nat.{ℕ, zero, suc, ◌+◌, ◌*◌, ◌-◌, ◌/◌, ◌%◌, ◌≤◌, ◌<◌}
use native.Mathlib.Nat.{mod-lt, div-add-mod', div-lt_iff_lt-mul, add-zero, mod-add-mod, mod-eq_of_lt}
use native.Mathlib.Omega.{arith}
use lib.Arith.{digits_mod, digits_div}
use lib.Dec.{leb, ltb, eqb}
use borrow.Author.Tests.{ltb-true, leb-true, eqb-true, lt-ltb, le-ltb, le-leb, lt-leb, eq-eqb, ne_eqb}
use Rattle.laws.proofs.Cases.{and_left, and_right, and_both, and_false_left, and_false_right}
use Rattle.model.specs.Geometry.{Geometry, Fits, area_start, block_count, slot_width}
use Rattle.model.specs.Blocks.{DiskAddress}
use Rattle.model.specs.Layout.{slot_start, slot_of, next_slot, level_place, level_address, is_slot_block}
use Rattle.model.specs.Layout.{round_slot, is_well_formed}
use Rattle.model.proofs.Laws.Geometry.{slot_block_lt}

-- ---- a slot's blocks ----

module _ (g : Geometry) (slot place : ℕ) (inside : place ≤ g.height) where
  place_of_slot_block : (slot_start g slot + place - area_start g) % slot_width g ≡ place
  place_of_slot_block =
      let e : slot_start g slot + place - area_start g ≡ slot * slot_width g + place = omega arith in
      let l : place < slot_width g = omega arith in
      ap (λ (n : ℕ). n % slot_width g) e ∙ digits_mod slot l

  slot_of_slot_block : slot_of g (slot_start g slot + place) ≡ slot
  slot_of_slot_block =
      let e : slot_start g slot + place - area_start g ≡ slot * slot_width g + place = omega arith in
      let l : place < slot_width g = omega arith in
      ap (λ (n : ℕ). n / slot_width g) e ∙ digits_div slot l

  is_slot_block_same : slot < g.slots → is_slot_block g place (slot_start g slot + place) ≡ true
  unfolding is_slot_block
  is_slot_block_same h =
      and_both
      (and_both (le-leb (area_start g) (slot_start g slot + place) (omega arith))
      (lt-ltb (slot_start g slot + place) (block_count g) (slot_block_lt g slot place h inside)))
      (eq-eqb ((slot_start g slot + place - area_start g) % slot_width g) place place_of_slot_block)

  pub is_slot_block_other : (other : ℕ) → other ≢ place → is_slot_block g other (slot_start g slot + place) ≡ false
  unfolding is_slot_block
  is_slot_block_other other ne =
      and_false_right (leb (area_start g) (slot_start g slot + place) &&
      ltb (slot_start g slot + place) (block_count g))
      (ne_eqb ((slot_start g slot + place - area_start g) % slot_width g) other
      (λ e. ne (sym e ∙ place_of_slot_block)))

pub slot_of-slot_start : (g : Geometry) (slot : ℕ) → slot_of g (slot_start g slot) ≡ slot
slot_of-slot_start g slot =
    let e : slot_start g slot + 0 ≡ slot_start g slot = omega arith in
    ap (slot_of g) (sym e) ∙ slot_of_slot_block g slot 0 (omega arith)

pub is_slot_block-slot_start : (g : Geometry) (slot : ℕ) → slot < g.slots →
    is_slot_block g 0 (slot_start g slot) ≡ true
is_slot_block-slot_start g slot h =
    let e : slot_start g slot + 0 ≡ slot_start g slot = omega arith in
    ap (is_slot_block g 0) (sym e) ∙ is_slot_block_same g slot 0 (omega arith) h

-- blocks of two slots, or of two places, are apart
pub slot_apart :
    (g : Geometry) (slot other place at : ℕ) → place ≤ g.height → at ≤ g.height → other ≢ slot →
    slot_start g other + at ≢ slot_start g slot + place
slot_apart g slot other place at h k ne e =
    ne (sym (slot_of_slot_block g other at k) ∙ ap (slot_of g) e ∙ slot_of_slot_block g slot place h)

pub place_apart :
    (g : Geometry) (slot other place at : ℕ) → place ≤ g.height → at ≤ g.height → at ≢ place →
    slot_start g other + at ≢ slot_start g slot + place
place_apart g slot other place at h k ne e =
    ne (sym (place_of_slot_block g other at k) ∙ ap (λ (n : ℕ). (n - area_start g) % slot_width g) e
    ∙ place_of_slot_block g slot place h)

-- ---- which addresses are slot blocks ----

-- such an address is at its place in its slot, which is one of the drive's
pub record SlotBlock (g : Geometry) (place : ℕ) (address : DiskAddress) : Type 0 where
  pub slot_inside : slot_of g address < g.slots
  pub address_is : address ≡ slot_start g (slot_of g address) + place
  pub address_inside : address < block_count g

pub slot_block_of : (g : Geometry) (place : ℕ) (address : DiskAddress) → is_slot_block g place address ≡ true →
    SlotBlock g place address
unfolding is_slot_block
slot_block_of g place address e =
    let front = leb (area_start g) address && ltb address (block_count g) in
    let rest = eqb ((address - area_start g) % slot_width g) place in
    let low : area_start g ≤ address =
    leb-true (area_start g) address (and_left (leb (area_start g) address) (ltb address (block_count g))
    (and_left front rest e)) in
    let high : address < block_count g =
    ltb-true address (block_count g) (and_right (leb (area_start g) address) (ltb address (block_count g))
    (and_left front rest e)) in
    let at : (address - area_start g) % slot_width g ≡ place =
    eqb-true ((address - area_start g) % slot_width g) place (and_right front rest e) in
    let positive : 0 < slot_width g = omega arith in
    let whole = div-add-mod' (address - area_start g) (slot_width g) in
    record {
      slot_inside = (div-lt_iff_lt-mul positive).1 (omega arith);
      address_is = omega arith;
      address_inside = high;
    }

pub is_slot_block_below : (g : Geometry) (place : ℕ) (address : DiskAddress) → address < area_start g →
    is_slot_block g place address ≡ false
unfolding is_slot_block
is_slot_block_below g place address h =
    and_false_left (eqb ((address - area_start g) % slot_width g) place)
    (and_false_left (ltb address (block_count g)) (lt-leb (area_start g) address h))

pub is_slot_block_past : (g : Geometry) (place : ℕ) (address : DiskAddress) → block_count g ≤ address →
    is_slot_block g place address ≡ false
unfolding is_slot_block
is_slot_block_past g place address h =
    and_false_left (eqb ((address - area_start g) % slot_width g) place)
    (and_false_right (leb (area_start g) address) (le-ltb address (block_count g) h))

-- within the data area the place decides
pub is_slot_block_inside :
    (g : Geometry) (place : ℕ) (address : DiskAddress) → area_start g ≤ address → address < block_count g →
    is_slot_block g place address ≡ eqb ((address - area_start g) % slot_width g) place
unfolding is_slot_block
is_slot_block_inside g place address low high =
    rw (le-leb (area_start g) address low, lt-ltb address (block_count g) high)

-- ---- levels ----

pub level_place_le : (g : Geometry) (level : ℕ) → level < g.height → level_place g level ≤ g.height
level_place_le g zero h = omega arith
level_place_le g (suc level) h = omega arith

pub level_place_ge : (g : Geometry) (level : ℕ) → 0 < g.height → 1 ≤ level_place g level
level_place_ge g zero h = h
level_place_ge g (suc level) h = omega arith

pub is_well_formed-level_address :
    (g : Geometry) (slot level : ℕ) → slot < g.slots → level < g.height →
    is_well_formed g level (level_address g slot level) ≡ true
is_well_formed-level_address g slot level h k =
    is_slot_block_same g slot (level_place g level) (level_place_le g level k) h

pub slot_of-level_address : (g : Geometry) (slot level : ℕ) → level < g.height →
    slot_of g (level_address g slot level) ≡ slot
slot_of-level_address g slot level k = slot_of_slot_block g slot (level_place g level) (level_place_le g level k)

pub level_address_lt :
    (g : Geometry) (slot level : ℕ) → slot < g.slots → level < g.height →
    level_address g slot level < block_count g
level_address_lt g slot level h k = slot_block_lt g slot (level_place g level) h (level_place_le g level k)

-- where a well-formed entry leads
module _ (g : Geometry) (level : ℕ) (entry : DiskAddress) (formed : is_well_formed g level entry ≡ true) where
  pub formed_in_area : area_start g ≤ entry
  formed_in_area = omega (arith, (slot_block_of g (level_place g level) entry formed).address_is)

  pub formed_slot_lt : slot_of g entry < g.slots
  formed_slot_lt = (slot_block_of g (level_place g level) entry formed).slot_inside

  pub formed_inside : entry < block_count g
  formed_inside = (slot_block_of g (level_place g level) entry formed).address_inside

-- ---- the next slot ----

pub next_slot_lt : (g : Geometry) (slot : ℕ) → Fits g → next_slot g slot < g.slots
next_slot_lt g slot f = let h : 0 < g.slots = omega arith in mod-lt (slot + 1) h

-- ---- so many slots on ----

-- the slot so many after a slot, in a circle
abbrev pub slot_after : Geometry → (slot earlier : ℕ) → ℕ
slot_after g slot earlier = (slot + earlier) % g.slots

pub slot_after-zero : (g : Geometry) (slot : ℕ) → slot < g.slots → slot_after g slot 0 ≡ slot
slot_after-zero g slot h = rw add-zero (mod-eq_of_lt h)

pub slot_after_next :
    (g : Geometry) (slot earlier : ℕ) → slot_after g (next_slot g slot) earlier ≡ slot_after g slot (suc earlier)
slot_after_next g slot earlier =
    let e : slot + 1 + earlier ≡ slot + suc earlier = omega arith in
    mod-add-mod (slot + 1) g.slots earlier ∙ ap (λ (n : ℕ). n % g.slots) e

pub next_slot-slot_after :
    (g : Geometry) (slot earlier : ℕ) → next_slot g (slot_after g slot earlier) ≡ slot_after g slot (suc earlier)
next_slot-slot_after g slot earlier =
    let e : slot + earlier + 1 ≡ slot + suc earlier = omega arith in
    mod-add-mod (slot + earlier) g.slots 1 ∙ ap (λ (n : ℕ). n % g.slots) e

-- the slot of a round, counted from 1
pub slot_after_round :
    (g : Geometry) (slot earlier : ℕ) → round_slot g slot (suc earlier) ≡ slot_after g slot earlier
slot_after_round g slot earlier =
    let e : slot + suc earlier - 1 ≡ slot + earlier = omega arith in
    ap (λ (n : ℕ). n % g.slots) e
