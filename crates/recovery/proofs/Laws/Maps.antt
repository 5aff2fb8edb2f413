-- Laws of the windows of a whole map: two joined, the one that holds every entry, and the loop over them.
-- Assumes nothing.
use mathlib.Core.Path.{◌≡◌, refl, sym, ap, ◌∙◌}
use mathlib.Core.Bool.{Bool, true, false, not, ◌&&◌, ◌||◌}
use mathlib.Core.List.{List, [], ◌∷◌}
use Prim.Native.Nat.{ℕ, ◌+◌, ◌≤◌}
use native.Mathlib.Nat.{add-mul, mul-le-mul_right}
use native.Mathlib.Omega.{arith}
use Rattle.laws.proofs.Cases.{and_left, and_right, and_both}
use Rattle.model.specs.Geometry.{Geometry, is_one_of, area_start, block_count, slot_width}
use Rattle.model.specs.Blocks.{Bytes, DiskAddress}
use Rattle.model.specs.Layout.{slot_start, is_slot_block}
use Rattle.model.proofs.Laws.Slots.{slot_block_of}
use Rattle.recovery_model.specs.Recovery.{used_entries, are_apart, are_starts}
use Rattle.recovery_model.proofs.Laws.Steps.{are_starts-cons, are_apart_nil, are_apart-cons}
use Rattle.recovery.specs.Windows.{window_slots, window_end, is_within, are_apart_within, Started}
use Rattle.recovery.specs.Windows.{is_window_apart}
use Rattle.recovery.proofs.Laws.Windows.{within_joined, within_inside, are_apart_within_none}
use Rattle.recovery.proofs.Laws.Windows.{are_apart_not}

-- ---- windows joined ----

joined :
    (p q m a b : Bool) →
    (not ((p || q) && m) && (a && b)) ≡ (not (p && m) && a && (not (q && m) && b))
joined true q true a b = refl
joined true true false a b = refl
joined true false false a b = refl
joined false true true true b = refl
joined false true true false b = refl
joined false true false a b = refl
joined false false m a b = refl

are_apart_within_joined :
    (low middle high : DiskAddress) → low ≤ middle → middle ≤ high → (entries : List DiskAddress) →
    are_apart_within low high entries ≡
    (are_apart_within low middle entries && are_apart_within middle high entries)
unfolding are_apart_within
are_apart_within_joined low middle high h k [] = refl
are_apart_within_joined low middle high h k (entry ∷ later) =
    rw (are_apart_within_joined low middle high h k later, within_joined low high entry middle h k)
    (joined (is_within low middle entry) (is_within middle high entry) (is_one_of entry later)
    (are_apart_within low middle later) (are_apart_within middle high later))

-- ---- the window that holds every entry ----

are_apart_within-all :
    (g : Geometry) (high : DiskAddress) → block_count g ≤ high → (entries : List DiskAddress) →
    are_starts g entries ≡ true → are_apart_within (area_start g) high entries ≡ are_apart entries
unfolding are_apart_within
are_apart_within-all g high h [] e = sym are_apart_nil
are_apart_within-all g high h (entry ∷ later) e =
    let both = sym (are_starts-cons g entry later) ∙ e in
    let block = slot_block_of g 0 entry (and_left (is_slot_block g 0 entry) (are_starts g later) both) in
    let inside : is_within (area_start g) high entry ≡ true =
    within_inside (area_start g) high entry (omega (arith, block.address_is))
    (omega (arith, block.address_inside)) in
    rw (
      inside,
      are_apart_within-all g high h later (and_right (is_slot_block g 0 entry) (are_starts g later) both),
      are_apart-cons entry later,
    )

-- ---- the loop over the windows ----

-- the slots before one are looked at, and no two numbers share a place there
pub record Swept (g : Geometry) (disk : Bytes) (first : ℕ) : Type 0 where
  pub apart : are_apart_within (area_start g) (slot_start g first) (used_entries g disk) ≡ true

module _ (g : Geometry) (disk : Bytes) where
  pub swept_none : Swept g disk 0
  swept_none =
      record {
        apart = are_apart_within_none (area_start g) (slot_start g 0) (omega arith) (used_entries g disk);
      }

  pub swept_next :
      (first : ℕ) → Swept g disk first → is_window_apart g disk first ≡ true →
      Swept g disk (first + window_slots)
  swept_next first before e =
      let low = slot_start g first in
      let high = window_end low (slot_width g) in
      let next : high ≡ slot_start g (first + window_slots) =
      omega (arith, add-mul first window_slots (slot_width g)) in
      record {
        apart =
            ap (λ (to : DiskAddress). are_apart_within (area_start g) to (used_entries g disk)) (sym next)
            ∙ are_apart_within_joined (area_start g) low high (omega arith) (omega arith) (used_entries g disk)
            ∙ and_both before.apart e;
      }

  pub swept_shared :
      (first : ℕ) → is_window_apart g disk first ≡ false → false ≡ are_apart (used_entries g disk)
  swept_shared first e =
      let low = slot_start g first in
      sym (are_apart_not low (window_end low (slot_width g)) (used_entries g disk) e)

  pub swept_all :
      Started g disk → (first : ℕ) → Swept g disk first → g.slots ≤ first →
      true ≡ are_apart (used_entries g disk)
  swept_all started first before past =
      sym before.apart
      ∙ are_apart_within-all g (slot_start g first) (omega (arith, mul-le-mul_right (slot_width g) past))
      (used_entries g disk) started.starts
