-- What a write that is cut leaves, recovered: the tree passes, 17 does not meet the map, both volumes are
-- sound, and every number shows its old block or its new one. The number written has its old entry or a slot
-- that was free, which is nobody's place. Assumes nothing.
use mathlib.Core.Path.{◌≡◌, refl, sym, ap, ◌∙◌}
use mathlib.Core.Logic.{◌≢◌, ◌⊎◌, inl, inr, ⊎_elim}
use mathlib.Core.Bool.{true}
use mathlib.Core.List.{[]}
use mathlib.Core.Option.{Option, some}
use Prim.Native.Nat.{ℕ, ◌+◌, ◌*◌, ◌≤◌, ◌<◌}
use native.Mathlib.Omega.{arith}
use lib.ListN.{length}
use borrow.Author.Tests.{ne_eqb}
use Rattle.laws.proofs.Cases.{cond_false, eq_cases, lt_cases, true_is_not_false}
use Rattle.model.specs.Geometry.{Geometry, block_width}
use Rattle.model.specs.Blocks.{Bytes, block_at}
use Rattle.model.specs.Layout.{geometry_in, slot_start, slot_of, is_slot_block, map_entry}
use Rattle.model.specs.Calls.{public_read, hidden_read, or_else, Offered}
use Rattle.model.specs.TreeCheck.{tree_refusal}
use Rattle.model.specs.Promises.ReadAfterWrite.{Sound}
use Rattle.model.specs.Promises.Waiting.{PublicHalf, half_written}
use Rattle.model.proofs.Laws.Slots.{SlotBlock, slot_block_of, is_slot_block-slot_start}
use Rattle.model.proofs.Laws.Accepted.{AcceptedWrite, accepted_of_read, accepted_of_write}
use Rattle.model.proofs.Laws.Calls.{answer_written, public_read_when_refused}
use Rattle.model.proofs.Volumes.Public.{public_value, public_value_ext}
use Rattle.model.proofs.Volumes.Reads.{public_read_shows}
use Rattle.model.proofs.Theorems.TreeCheck.{pass_of_sound}
use Rattle.recovery_model.specs.Cuts.{cut_disk}
use Rattle.recovery_model.specs.Recovery.{recovery_refusal, recovered}
use Rattle.recovery_model.specs.Promises.Recovery.{SameButBits, Recoverable, Recovers}
use Rattle.recovery_model.proofs.Laws.SameButBits.{map_entry_torn, block_at_torn, hidden_read_torn}
use Rattle.recovery_model.proofs.Laws.MapRefusal.{GoodMap, recovery_refusal_of-good_map}
use Rattle.recovery_model.proofs.Laws.Recovery.{same_but_bits-recovered}
use Rattle.recovery_model.proofs.Volumes.CutLeaves.{NewPlace, CutLeaves}
use Rattle.recovery_model.proofs.Volumes.Recoverable.{accepted_of_recoverable, good_map_of_recoverable}
use Rattle.recovery_model.proofs.Volumes.Recoverable.{public_of_recoverable, sound_recovered}

-- a number that the drive does not have shows nothing
public_read_outside :
    (g : Geometry) (disk : Bytes) (number : ℕ) (blank : Bytes) → geometry_in disk ≡ g → g.publics ≤ number →
    public_read disk number blank ≡ []
public_read_outside g disk number blank states h =
    public_read_when_refused disk number blank
    (λ e.
    omega (
      arith,
      (accepted_of_read disk number blank e).number_inside,
      ap (λ (stated : Geometry). stated.publics) states,
    ))

module _ (g : Geometry) (disk : Bytes) (half : PublicHalf) (offer : Offered) (bound : ℕ) (after : Bytes)
    (whole : Recoverable g disk) (leaves : CutLeaves g disk half offer bound after) where
  good : GoodMap g disk
  good = good_map_of_recoverable g disk whole

  -- a mapped number's slot
  home : (number : ℕ) → number < g.publics → map_entry g disk number ≢ 0 →
      SlotBlock g 0 (map_entry g disk number)
  home number h ne = slot_block_of g 0 (map_entry g disk number) (good.starts number h ne)

  -- ---- the map ----

  abbrev Kept : (number : ℕ) → Type 0
  Kept number = map_entry g after number ≡ map_entry g disk number

  abbrev Moved : (number : ℕ) → Type 0
  Moved number = (number ≡ half.number) × NewPlace g disk after half.number half.content

  written_entry : half.number < g.publics → Kept half.number ⊎ Moved half.number
  written_entry h = ⊎_elim
      (λ done. ⊎_elim
      (λ l. inl (leaves.old_entry (inr l) h))
      (λ l. inr (refl, leaves.new_place done l))
      (lt_cases bound ((half_written half disk offer).rounds * (g.height + 3))))
      (λ ne. inl (leaves.old_entry (inl ne) h))
      (eq_cases (half_written half disk offer).answer 0)

  entry_cases : (number : ℕ) → number < g.publics → Kept number ⊎ Moved number
  entry_cases number h = ⊎_elim
      (λ e. rw e (written_entry (rw e at h)))
      (λ ne. inl (leaves.other_entry number h ne))
      (eq_cases number half.number)

  -- a place that was free is no kept entry
  free_place :
      (number : ℕ) → number < g.publics → Kept number →
      (place : NewPlace g disk after half.number half.content) →
      map_entry g after number ≢ map_entry g after half.number
  free_place number h kept place e =
      true_is_not_false
      (whole.mapped_marked number place.slot h place.inside (sym kept ∙ e ∙ place.entry_is))
      place.was_free

  map_after : GoodMap g after
  map_after = record { starts = starts; apart = apart }
    where
      starts : (number : ℕ) → number < g.publics → map_entry g after number ≢ 0 →
          is_slot_block g 0 (map_entry g after number) ≡ true
      starts number h ne = ⊎_elim
          (λ kept. ap (is_slot_block g 0) kept ∙ good.starts number h (λ z. ne (kept ∙ z)))
          (λ moved.
          ap (is_slot_block g 0) (ap (map_entry g after) moved.0 ∙ moved.1.entry_is)
          ∙ is_slot_block-slot_start g moved.1.slot moved.1.inside)
          (entry_cases number h)

      apart : (number other : ℕ) → number < g.publics → other < g.publics → map_entry g after number ≢ 0 →
          map_entry g after number ≡ map_entry g after other → number ≡ other
      apart number other h k ne e = by (entry_cases number h) (entry_cases other k)
        where
          by : Kept number ⊎ Moved number → Kept other ⊎ Moved other → number ≡ other
          by (inl kept) (inl kept-other) =
              good.apart number other h k (λ z. ne (kept ∙ z)) (sym kept ∙ e ∙ kept-other)
          by (inl kept) (inr moved) =
              absurd (free_place number h kept moved.1 (e ∙ ap (map_entry g after) moved.0))
          by (inr moved) (inl kept) =
              absurd (free_place other k kept moved.1 (sym e ∙ ap (map_entry g after) moved.0))
          by (inr moved) (inr moved_other) = moved.0 ∙ sym moved_other.0

  -- ---- the recovery is not refused, and what it leaves is sound ----

  recovery_accepted : recovery_refusal after ≡ 0
  recovery_accepted = recovery_refusal_of-good_map g after leaves.geometry leaves.accepted map_after

  tree_passes : tree_refusal after ≡ 0
  tree_passes =
      pass_of_sound g after
      (record {
        geometry = leaves.geometry;
        accepted = leaves.accepted;
        hidden_sound = leaves.hidden_sound;
      })

  sound_after : Sound g (recovered after)
  sound_after = sound_recovered g after leaves.geometry recovery_accepted leaves.hidden_sound

  torn : SameButBits g after (recovered after)
  torn = same_but_bits-recovered g after leaves.geometry recovery_accepted

  -- ---- public reads ----

  module _ (number : ℕ) (h : number < g.publics) where
    value_recovered : public_value g (recovered after) number ≡ public_value g after number
    value_recovered =
        public_value_ext g after (recovered after) number
        (map_entry_torn g after (recovered after) leaves.geometry leaves.accepted torn number h)
        (λ ne.
        block_at_torn g after (recovered after) leaves.geometry leaves.accepted torn
        (map_entry g after number)
        (omega (
          arith,
          (slot_block_of g 0 (map_entry g after number) (map_after.starts number h ne)).address_is,
        )))

    value_kept : Kept number → public_value g after number ≡ public_value g disk number
    value_kept kept =
        public_value_ext g disk after number kept
        (λ ne.
        let entry = map_entry g disk number in
        let slot = slot_of g entry in
        let at : entry ≡ slot_start g slot = omega (arith, (home number h ne).address_is) in
        ap (block_at (block_width g) after) at
        ∙ leaves.block_kept number slot h (home number h ne).slot_inside at
        ∙ ap (block_at (block_width g) disk) (sym at))

    module _ (blank : Bytes) (sized : length blank ≡ g.block_size) where
      read_recovered : public_read (recovered after) number blank ≡ or_else (public_value g after number) blank
      read_recovered =
          public_read_shows g (recovered after) sound_after.geometry sound_after.accepted number blank
          sized sound_after.public_sound h
          ∙ ap (λ (value : Option Bytes). or_else value blank) value_recovered

      read_kept : Kept number → public_read (recovered after) number blank ≡ public_read disk number blank
      read_kept kept =
          read_recovered ∙ ap (λ (value : Option Bytes). or_else value blank) (value_kept kept)
          ∙ sym (public_read_shows g disk whole.geometry (accepted_of_recoverable g disk whole) number blank
          sized (public_of_recoverable g disk whole) h)

  value_new :
      NewPlace g disk after half.number half.content →
      public_value g after half.number ≡ some half.content
  value_new place =
      cond_false _ _
      (ne_eqb (map_entry g after half.number) 0 (λ z. omega (arith, place.entry_is, z)))
      ∙ ap {B = Option Bytes} some
      (ap (block_at (block_width g) after) place.entry_is ∙ place.block_is)

  module _ (blank : Bytes) (sized : length blank ≡ g.block_size) where
    read_old :
        ((half_written half disk offer).answer ≢ 0) ⊎
        (bound < (half_written half disk offer).rounds * (g.height + 3)) →
        public_read (recovered after) half.number blank ≡ public_read disk half.number blank
    read_old early = ⊎_elim
        (λ h. read_kept half.number h blank sized (leaves.old_entry early h))
        (λ h.
        public_read_outside g (recovered after) half.number blank sound_after.geometry h
        ∙ sym (public_read_outside g disk half.number blank whole.geometry h))
        (lt_cases half.number g.publics)

    read_new :
        (half_written half disk offer).answer ≡ 0 →
        (half_written half disk offer).rounds * (g.height + 3) ≤ bound →
        public_read (recovered after) half.number blank ≡ half.content
    read_new done late =
        read_recovered half.number counted blank sized
        ∙ ap (λ (value : Option Bytes). or_else value blank) (value_new (leaves.new_place done late))
      where
        accepted : AcceptedWrite (geometry_in disk) disk half.number (length half.content)
            (length half.random) half.room
        accepted =
            accepted_of_write disk half.number half.content (length half.random) half.room
            (sym (answer_written disk half.number half.content half.random half.room offer)
            ∙ done)

        counted : half.number < g.publics
        counted =
            omega (
              arith,
              accepted.accepted.number_inside,
              ap (λ (stated : Geometry). stated.publics) whole.geometry,
            )

  -- ---- hidden reads ----

  read_hidden_lem : (other : ℕ) (blank : Bytes) →
      hidden_read (recovered after) other blank ≡ hidden_read after other blank
  read_hidden_lem other blank =
      hidden_read_torn g after (recovered after) leaves.geometry leaves.accepted torn other blank

-- ---- all of it ----

pub recovers_of_leaves :
    (g : Geometry) (disk : Bytes) (half : PublicHalf) (offer : Offered) (bound : ℕ) → Recoverable g disk →
    CutLeaves g disk half offer bound (cut_disk bound (half_written half disk offer) disk) →
    Recovers g disk half offer bound
recovers_of_leaves g disk half offer bound whole leaves =
    let after = cut_disk bound (half_written half disk offer) disk in
    record {
      passes = tree_passes g disk half offer bound after whole leaves;
      accepted = recovery_accepted g disk half offer bound after whole leaves;
      sound = sound_after g disk half offer bound after whole leaves;
      number_old = read_old g disk half offer bound after whole leaves;
      number_new = read_new g disk half offer bound after whole leaves;
      others_same = λ other blank h ne sized.
          read_kept g disk half offer bound after whole leaves other h blank sized
          (leaves.other_entry other h ne);
      placed_le = leaves.placed_le;
      hidden_shown_lem = λ other blank h sized.
          read_hidden_lem g disk half offer bound after whole leaves other blank
          ∙ leaves.hidden_shown_lem other blank h sized;
    }
