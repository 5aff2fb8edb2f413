-- What a run of rounds leaves in header, map, bitmap and public blocks: after its last round, and with one
-- more kept round before; and that what it leaves is a drive again. Assumes nothing.
use mathlib.Core.Path.{◌≡◌, sym, ap, ◌∙◌, subst}
use mathlib.Core.Logic.{◌≢◌, inl, inr}
use mathlib.Core.Bool.{true, false}
use Prim.Native.Nat.{ℕ, ◌*◌, ◌<◌}
use native.Mathlib.Omega.{arith}
use lib.ListN.{length}
use Rattle.model.specs.Geometry.{Geometry, Fits, bitmap_blocks, block_count, drive_size, is_geometry}
use Rattle.model.specs.Geometry.{block_width}
use Rattle.model.specs.Blocks.{Bytes, block_at, entry_at}
use Rattle.model.specs.Layout.{head_in, slot_start, slot_of, next_slot, area_place, map_entry, is_allocated}
use Rattle.model.specs.Layout.{is_place, geometry_in}
use Rattle.model.specs.Stores.{Trace}
use Rattle.model.specs.Table.{keep_public, write_public}
use Rattle.model.specs.Refusals.{drive_refusal}
use Rattle.model.specs.Invariants.{bitmap_bit}
use Rattle.model.proofs.Laws.Geometry.{geometry_ext}
use Rattle.model.proofs.Laws.Slots.{next_slot_lt}
use Rattle.model.proofs.Laws.Places.{Placed, is_place-slot_start, place_of_is_place, placed_apart}
use Rattle.model.proofs.Laws.Bitmap.{area_place_apart, area_place_lt, is_allocated_bit}
use Rattle.model.proofs.Laws.Refusals.{accepted_of_refusal, refusal_of_accepted}
use Rattle.model.proofs.Laws.RoundStores.{after_round, length_round, Round}
use Rattle.model.proofs.Laws.RoundParts.{block_at_parts_start_other}
use Rattle.model.proofs.Laws.Rounds.{parts_round, entry_at_round, head_in_round}
use Rattle.model.proofs.Laws.RoundEffects.{map_entry_kept, bitmap_bit_kept, is_allocated_kept}
use Rattle.model.proofs.Laws.RoundEffects.{block_at_kept_start, block_at_last_start, map_entry_last_same}
use Rattle.model.proofs.Laws.RoundEffects.{map_entry_last_other, bitmap_bit_last_new, bitmap_bit_last_old}
use Rattle.model.proofs.Laws.RoundEffects.{bitmap_bit_last_other}

-- ---- the whole effect ----

-- what stands on the disk after the rounds of a write whose last round was at a slot
pub record Wrote (g : Geometry) (number : ℕ) (content : Bytes) (last : ℕ) (disk final : Bytes) : Type 0 where
  pub whole : length final ≡ block_count g * g.block_size
  pub inside : last < g.slots
  pub was_free : is_allocated g disk last ≡ false
  pub fields : (i : ℕ) → i < 5 → entry_at i final ≡ entry_at i disk
  pub head : head_in final ≡ next_slot g last
  pub map_same : map_entry g final number ≡ slot_start g last
  pub map_other :
      (other : ℕ) → other < g.publics → other ≢ number → map_entry g final other ≡ map_entry g disk other
  pub bit_new : bitmap_bit g final (area_place g last) ≡ true
  pub bit_old :
      map_entry g disk number ≢ 0 → bitmap_bit g final (area_place g (slot_of g (map_entry g disk number))) ≡ false
  pub bit_other :
      (place : ℕ) → place < bitmap_blocks g * (8 * g.block_size) → place ≢ area_place g last →
      (map_entry g disk number ≢ 0 → place ≢ area_place g (slot_of g (map_entry g disk number))) →
      bitmap_bit g final place ≡ bitmap_bit g disk place
  pub block_new : block_at (block_width g) final (slot_start g last) ≡ content
  pub block_other :
      (slot : ℕ) → slot ≢ last →
      block_at (block_width g) final (slot_start g slot) ≡ block_at (block_width g) disk (slot_start g slot)

module _ {g : Geometry} {disk : Bytes} {number slot : ℕ} {content : Bytes} {hidden : Trace}
    (round : Round g disk number slot content hidden) where
  pub last_wrote :
      is_allocated g disk slot ≡ false →
      Wrote g number content slot disk (after_round write_public g disk number slot content hidden)
  last_wrote free =
      let apart = placed_apart g disk number slot round.placed free in
      record {
        whole = length_round round write_public ∙ round.whole;
        inside = round.inside;
        was_free = free;
        fields = entry_at_round round write_public;
        head = head_in_round round write_public;
        map_same = map_entry_last_same round;
        map_other = map_entry_last_other round;
        bit_new = bitmap_bit_last_new round apart;
        bit_old = bitmap_bit_last_old round;
        bit_other = bitmap_bit_last_other round;
        block_new = block_at_last_start round;
        block_other = block_at_parts_start_other (parts_round round write_public);
      }

  abbrev kept : Bytes
  kept = after_round keep_public g disk number slot content hidden

  pub entry_kept : map_entry g kept number ≡ map_entry g disk number
  entry_kept = map_entry_kept round number round.counted

  pub placed_kept : Placed g kept number
  placed_kept = by round.placed
    where
      by : Placed g disk number → Placed g kept number
      by (inl e) = inl (entry_kept ∙ e)
      by (inr e) =
          let place = place_of_is_place g disk (map_entry g disk number) e in
          inr (ap (is_place g kept) (entry_kept ∙ place.entry_is)
          ∙ is_place-slot_start g kept (slot_of g (map_entry g disk number)) place.slot_inside
          (is_allocated_kept round (slot_of g (map_entry g disk number)) place.slot_inside
          ∙ place.allocated))

  -- a kept round before
  pub kept_wrote :
      (last : ℕ) (final : Bytes) → Wrote g number content last kept final →
      Wrote g number content last disk final
  kept_wrote last final w =
      record {
        whole = w.whole;
        inside = w.inside;
        was_free = sym (is_allocated_kept round last w.inside) ∙ w.was_free;
        fields = λ i h.
            w.fields i h ∙ entry_at_round round keep_public i h;
        head = w.head;
        map_same = w.map_same;
        map_other = λ other h ne.
            w.map_other other h ne ∙ map_entry_kept round other h;
        bit_new = w.bit_new;
        bit_old = rw entry_kept at w.bit_old;
        bit_other = λ place h ne apart.
            w.bit_other place h ne (rw entry_kept apart) ∙ bitmap_bit_kept round place h;
        block_new = w.block_new;
        block_other = λ other ne.
            w.block_other other ne ∙ block_at_kept_start round other;
      }

-- ---- marks, which are bits ----

module _ {g : Geometry} {number : ℕ} {content : Bytes} {last : ℕ} {disk final : Bytes} (f : Fits g)
    (wrote : Wrote g number content last disk final) where
  pub is_allocated_wrote_new : is_allocated g final last ≡ true
  is_allocated_wrote_new = is_allocated_bit g final last ∙ wrote.bit_new

  pub is_allocated_wrote_old :
      map_entry g disk number ≢ 0 → is_allocated g final (slot_of g (map_entry g disk number)) ≡ false
  is_allocated_wrote_old ne = is_allocated_bit g final (slot_of g (map_entry g disk number)) ∙ wrote.bit_old ne

  pub is_allocated_wrote_other :
      (slot : ℕ) → slot < g.slots → slot ≢ last →
      (map_entry g disk number ≢ 0 → slot ≢ slot_of g (map_entry g disk number)) →
      is_allocated g final slot ≡ is_allocated g disk slot
  is_allocated_wrote_other slot h ne apart =
      is_allocated_bit g final slot
      ∙ wrote.bit_other (area_place g slot) (area_place_lt g f slot h) (area_place_apart g last slot ne)
      (λ z. area_place_apart g (slot_of g (map_entry g disk number)) slot (apart z))
      ∙ sym (is_allocated_bit g disk slot)

-- ---- the drive after it ----

module _ (disk : Bytes) (accepted : drive_refusal disk ≡ 0) {number : ℕ} {content : Bytes} {last : ℕ}
    (final : Bytes) (wrote : Wrote (geometry_in disk) number content last disk final) where
  pub geometry_in_wrote : geometry_in final ≡ geometry_in disk
  geometry_in_wrote = geometry_ext final disk wrote.fields

  pub drive_refusal_wrote : drive_refusal final ≡ 0
  drive_refusal_wrote =
      let drive = accepted_of_refusal disk accepted in
      let e = geometry_in_wrote in
      let same : length final ≡ length disk = wrote.whole ∙ sym drive.sized.whole in
      refusal_of_accepted final (omega (arith, drive.sized.long)) (ap is_geometry e ∙ drive.sized.accepted)
      (wrote.whole ∙ sym (ap drive_size e))
      (subst (λ (h : Geometry). head_in final < h.slots) (sym e)
      (rw wrote.head (next_slot_lt (geometry_in disk) last drive.sized.fits)))
