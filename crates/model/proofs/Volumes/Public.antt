-- The public volume: that a write keeps its invariant, and what a number shows after it. Assumes nothing.
use mathlib.Core.Path.{◌≡◌, sym, ap, ◌∙◌}
use mathlib.Core.Logic.{◌≢◌, ◌⊎◌, inl, inr, ⊎_elim}
use mathlib.Core.Bool.{true, cond}
use mathlib.Core.Option.{Option, none, some}
use Prim.Native.Nat.{ℕ, ◌<◌}
use native.Mathlib.Omega.{arith}
use lib.Dec.{eqb}
use borrow.Author.Tests.{eq-eqb, ne_eqb}
use Rattle.laws.proofs.Cases.{eq_cases, cond_true, cond_false}
use Rattle.model.specs.Geometry.{Geometry, Fits, block_width}
use Rattle.model.specs.Blocks.{Bytes, DiskAddress, block_at}
use Rattle.model.specs.Layout.{slot_start, slot_of, is_allocated, map_entry, is_place}
use Rattle.model.specs.Invariants.{PublicInvariant}
use Rattle.model.proofs.Laws.Slots.{slot_of-slot_start}
use Rattle.model.proofs.Laws.Places.{Place, is_place-slot_start, place_of_is_place, placed_apart}
use Rattle.model.proofs.Laws.Wrote.{Wrote, is_allocated_wrote_new, is_allocated_wrote_other}

-- what a number shows: the block at its entry, nothing at 0
abbrev pub public_value : Geometry → (disk : Bytes) → (number : ℕ) → Option Bytes
public_value g disk number =
    cond (eqb (map_entry g disk number) 0) none (some (block_at (block_width g) disk (map_entry g disk number)))

-- two disks on which a number has one entry, with one block there
pub public_value_ext :
    (g : Geometry) (disk other : Bytes) (number : ℕ) → map_entry g other number ≡ map_entry g disk number →
    (map_entry g disk number ≢ 0 →
    block_at (block_width g) other (map_entry g disk number) ≡
    block_at (block_width g) disk (map_entry g disk number)) →
    public_value g other number ≡ public_value g disk number
public_value_ext g disk other number e same = ⊎_elim
    (λ z.
    cond_true _ _ (eq-eqb (map_entry g other number) 0 (e ∙ z))
    ∙ sym (cond_true _ _ (eq-eqb (map_entry g disk number) 0 z)))
    (λ ne.
    ap (λ (entry : DiskAddress). cond (eqb entry 0) none (some (block_at (block_width g) other entry))) e
    ∙ ap (λ (block : Bytes). cond (eqb (map_entry g disk number) 0) none (some block)) (same ne))
    (eq_cases (map_entry g disk number) 0)

-- ---- after a write ----

module _ (g : Geometry) (f : Fits g) (disk after : Bytes) (number slot : ℕ) (content : Bytes)
    (counted : number < g.publics) (sound : PublicInvariant g disk)
    (wrote : Wrote g number content slot disk after) where
  -- the slot of a number's place
  abbrev home : (other : ℕ) → ℕ
  home other = slot_of g (map_entry g disk other)

  place_at :
      (other : ℕ) → other < g.publics → map_entry g disk other ≢ 0 → Place g disk (map_entry g disk other)
  place_at other h ne = place_of_is_place g disk (map_entry g disk other) (sound.in_place other h ne)

  -- no place is in the slot that the write takes
  home_not_new : (other : ℕ) → other < g.publics → map_entry g disk other ≢ 0 → home other ≢ slot
  home_not_new other h ne =
      placed_apart g disk other slot (inr (sound.in_place other h ne)) wrote.was_free ne

  home_apart :
      (other : ℕ) → other < g.publics → other ≢ number → map_entry g disk other ≢ 0 →
      map_entry g disk number ≢ 0 → home other ≢ home number
  home_apart other h ne p q e =
      ne (sound.apart other number h counted p
      ((place_at other h p).entry_is ∙ ap (slot_start g) e ∙ sym (place_at number counted q).entry_is))

  mark_kept :
      (other : ℕ) → other < g.publics → other ≢ number → map_entry g disk other ≢ 0 →
      is_allocated g after (home other) ≡ true
  mark_kept other h ne p =
      is_allocated_wrote_other f wrote (home other) (place_at other h p).slot_inside (home_not_new other h p)
      (home_apart other h ne p)
      ∙ (place_at other h p).allocated

  -- the new place is nobody's old one
  entry_not_new :
      (other : ℕ) → other < g.publics → other ≢ number → map_entry g after other ≢ slot_start g slot
  entry_not_new other h ne e =
      let old : map_entry g disk other ≡ slot_start g slot = sym (wrote.map_other other h ne) ∙ e in
      home_not_new other h (λ z. omega (arith, old, z)) (ap (slot_of g) old ∙ slot_of-slot_start g slot)

  in_place_after :
      (other : ℕ) → other < g.publics → map_entry g after other ≢ 0 →
      is_place g after (map_entry g after other) ≡ true
  in_place_after other h p = ⊎_elim same different (eq_cases other number)
    where
      same : other ≡ number → is_place g after (map_entry g after other) ≡ true
      same e =
          ap (is_place g after) (ap (map_entry g after) e ∙ wrote.map_same)
          ∙ is_place-slot_start g after slot wrote.inside (is_allocated_wrote_new f wrote)

      different : other ≢ number → is_place g after (map_entry g after other) ≡ true
      different ne =
          let e = wrote.map_other other h ne in
          let q : map_entry g disk other ≢ 0 = λ z. p (e ∙ z) in
          let place = place_at other h q in
          ap (is_place g after) (e ∙ place.entry_is)
          ∙ is_place-slot_start g after (home other) place.slot_inside (mark_kept other h ne q)

  apart_after :
      (first second : ℕ) → first < g.publics → second < g.publics → map_entry g after first ≢ 0 →
      map_entry g after first ≡ map_entry g after second → first ≡ second
  apart_after first second h k p e = by (eq_cases first number) (eq_cases second number)
    where
      by : (first ≡ number) ⊎ (first ≢ number) → (second ≡ number) ⊎ (second ≢ number) → first ≡ second
      by (inl a) (inl b) = a ∙ sym b
      by (inl a) (inr b) =
          absurd (entry_not_new second k b (sym e ∙ ap (map_entry g after) a ∙ wrote.map_same))
      by (inr a) (inl b) = absurd (entry_not_new first h a (e ∙ ap (map_entry g after) b ∙ wrote.map_same))
      by (inr a) (inr b) =
          let same = wrote.map_other first h a in
          sound.apart first second h k (λ z. p (same ∙ z)) (sym same ∙ e ∙ wrote.map_other second k b)

  pub write_preserves_public : PublicInvariant g after
  write_preserves_public = record { in_place = in_place_after; apart = apart_after }

  -- ---- what a number shows after it ----

  pub public_value_same : public_value g after number ≡ some content
  public_value_same =
      cond_false _ _ (ne_eqb (map_entry g after number) 0 (λ z. omega (arith, wrote.map_same, z)))
      ∙ ap {B = Option Bytes} some (ap (block_at (block_width g) after) wrote.map_same ∙ wrote.block_new)

  pub public_value_other :
      (other : ℕ) → other < g.publics → other ≢ number → public_value g after other ≡ public_value g disk other
  public_value_other other h ne =
      public_value_ext g disk after other (wrote.map_other other h ne)
      (λ p.
      let place = place_at other h p in
      ap (block_at (block_width g) after) place.entry_is
      ∙ wrote.block_other (home other) (home_not_new other h p)
      ∙ ap (block_at (block_width g) disk) (sym place.entry_is))
