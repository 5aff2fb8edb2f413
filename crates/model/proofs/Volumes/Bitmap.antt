-- The bitmap, padding included: a write keeps it the set of the public numbers' places. Assumes nothing.
use mathlib.Core.Path.{◌≡◌, sym, ap, ◌∙◌}
use mathlib.Core.Logic.{◌≢◌, ⊎_elim}
use mathlib.Core.Bool.{true}
use Prim.Native.Nat.{ℕ, ◌+◌, ◌*◌, ◌<◌}
use native.Mathlib.Omega.{arith}
use Rattle.laws.proofs.Cases.{eq_cases, true_is_not_false}
use Rattle.model.specs.Geometry.{Geometry, bitmap_blocks, area_start}
use Rattle.model.specs.Blocks.{Bytes, DiskAddress}
use Rattle.model.specs.Layout.{slot_of, area_place, map_entry}
use Rattle.model.specs.Invariants.{PublicInvariant, bitmap_bit, BitmapInvariant}
use Rattle.model.proofs.Laws.Places.{place_of_is_place}
use Rattle.model.proofs.Laws.Wrote.{Wrote}

-- a bit is that of a public number's place
abbrev Mapped : Geometry → (disk : Bytes) → (place : ℕ) → Type 0
Mapped g disk place = (number : ℕ) × (number < g.publics) × (map_entry g disk number ≡ area_start g + place)

module _ (g : Geometry) (disk after : Bytes) (number slot : ℕ) (content : Bytes)
    (counted : number < g.publics) (public : PublicInvariant g disk) (sound : BitmapInvariant g disk)
    (wrote : Wrote g number content slot disk after) where
  abbrev entry : DiskAddress
  entry = map_entry g disk number

  -- a bit that its entry leads to is that of its slot
  own_place : (place : ℕ) → entry ≡ area_start g + place → (entry ≢ 0) × (place ≡ area_place g (slot_of g entry))
  own_place place e =
      let ne : entry ≢ 0 = λ z. omega (arith, e, z) in
      (ne, omega (arith, (place_of_is_place g disk entry (public.in_place number counted ne)).entry_is, e))

  -- a set bit was set before, and it was another number's
  mapped_kept :
      (place : ℕ) → place < bitmap_blocks g * (8 * g.block_size) → bitmap_bit g after place ≡ true →
      place ≢ area_place g slot → (entry ≢ 0 → place ≢ area_place g (slot_of g entry)) → Mapped g after place
  mapped_kept place h e new apart = by (sound.mapped place h (sym (wrote.bit_other place h new apart) ∙ e))
    where
      by : Mapped g disk place → Mapped g after place
      by (owner, low, at) = (owner, low, wrote.map_other owner low different ∙ at)
        where
          different : owner ≢ number
          different q =
              let own = own_place place (ap (map_entry g disk) (sym q) ∙ at) in apart own.0 own.1

  mapped_after :
      (place : ℕ) → place < bitmap_blocks g * (8 * g.block_size) → bitmap_bit g after place ≡ true →
      Mapped g after place
  mapped_after place h e = ⊎_elim
      (λ p. (number, counted, wrote.map_same ∙ ap (λ (n : ℕ). area_start g + n) (sym p)))
      (λ new. mapped_kept place h e new
      (λ ne q. true_is_not_false e (ap (bitmap_bit g after) q ∙ wrote.bit_old ne)))
      (eq_cases place (area_place g slot))

  pub write_preserves_bitmap : BitmapInvariant g after
  write_preserves_bitmap = record { mapped = mapped_after }
