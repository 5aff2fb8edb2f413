-- Refusals 4 to 6: an entry is a place exactly if it is block A of one of the drive's allocated slots, and
-- the chain of a public number answers its conditions. Assumes nothing.
use mathlib.Core.Path.{◌∙◌, ap, ◌≡◌, refl}
use mathlib.Core.Logic.{◌≢◌, ◌⊎◌, inl, inr, ⊎_elim}
use mathlib.Core.Bool.{true, not, ◌||◌}
use Prim.Native.Nat.{ℕ, ◌<◌}
use lib.Dec.{eqb}
use Rattle.laws.proofs.Cases.{true_is_not_false}
use Rattle.laws.proofs.Decides.{Decides, decides_eq, decides_le, decides_not, decides_or, decides_same}
use Rattle.model.specs.Geometry.{Geometry}
use Rattle.model.specs.Blocks.{Bytes, DiskAddress}
use Rattle.model.specs.Layout.{slot_start, slot_of, is_allocated, map_entry, is_place}
use Rattle.model.specs.Refusals.{place_checks}
use Rattle.model.specs.Conditions.{place_conditions}
use Rattle.model.proofs.Laws.Places.{Place, is_place_of_place, is_place-slot_start, place_of_is_place}
use Rattle.model.proofs.Refusals.Answers.{Judges}

-- ---- places ----

decides_is_place :
    (g : Geometry) (disk : Bytes) (entry : DiskAddress) → Decides (is_place g disk entry) (Place g disk entry)
decides_is_place g disk entry =
    record {
      holds = place_of_is_place g disk entry;
      fails = λ e place. true_is_not_false (is_place_of_place g disk entry place) e;
    }

-- an entry is neither 0 nor block A of an allocated slot
abbrev Nowhere : Geometry → (disk : Bytes) → (entry : DiskAddress) → Type 0
Nowhere g disk entry =
    (entry ≢ 0) ×
    ((slot : ℕ) → slot < g.slots → is_allocated g disk slot ≡ true → entry ≢ slot_start g slot)

decides_nowhere :
    (g : Geometry) (disk : Bytes) (entry : DiskAddress) →
    Decides (not (eqb entry 0 || is_place g disk entry)) (Nowhere g disk entry)
decides_nowhere g disk entry =
    decides_same (decides_not (decides_or (decides_eq entry 0) (decides_is_place g disk entry))) to from
  where
    to : ((entry ≡ 0) ⊎ Place g disk entry → ⊥) → Nowhere g disk entry
    to f = (
      λ e. f (inl e),
      λ slot h a e.
          f (inr (place_of_is_place g disk entry (ap (is_place g disk) e ∙ is_place-slot_start g disk slot h a))),
    )

    from : Nowhere g disk entry → (entry ≡ 0) ⊎ Place g disk entry → ⊥
    from f = ⊎_elim f.0 (λ p. f.1 (slot_of g entry) p.slot_inside p.allocated p.entry_is)

-- ---- the chain ----

pub judges_place :
    (g : Geometry) (disk : Bytes) (number size : ℕ) →
    Judges (place_checks g disk number size) (place_conditions g disk number size)
unfolding place_checks
judges_place g disk number size = (
  refl,
  decides_le g.publics number,
  λ e. (
    refl,
    decides_not (decides_eq size g.block_size),
    λ q.
        (refl, decides_nowhere g disk (map_entry g disk number), λ p. tt),
  ),
)
