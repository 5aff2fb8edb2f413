-- Laws of the header under the stores of a write: what goes to it keeps the five numbers and has a head slot
-- among the slots, so that after any of the stores the disk is a drive of the same geometry. Assumes nothing.
use mathlib.Core.Path.{◌≡◌, refl, sym, ap, ◌∙◌, subst}
use mathlib.Core.Logic.{◌≢◌, ◌⊎◌, inl, inr}
use mathlib.Core.Bool.{true, false}
use mathlib.Core.List.{[], ◌∷◌}
use Prim.Native.Nat.{ℕ, zero, suc, ◌*◌, ◌≤◌, ◌<◌}
use native.Mathlib.Omega.{arith}
use lib.ListN.{length, drop}
use Rattle.laws.proofs.Cases.{bool_cases, eq_cases}
use Rattle.laws.proofs.Members.{All, all_append, all_map}
use Rattle.model.specs.Geometry.{Geometry, Fits, block_count, drive_size, is_geometry, block_width}
use Rattle.model.specs.Blocks.{Bytes, DiskAddress, block_at, entry_at, set_entry, set_block}
use Rattle.model.specs.Layout.{geometry_in, head_in, next_slot, is_allocated}
use Rattle.model.specs.Stores.{Store, Trace, apply, addresses}
use Rattle.model.specs.Table.{PublicChoice, keep_public, write_public}
use Rattle.model.specs.HiddenHalf.{HiddenHalf, HiddenState, hidden_half}
use Rattle.model.specs.Rounds.{Run, header_store, map_stores, round_trace, run_from}
use Rattle.model.specs.Refusals.{drive_refusal, write_refusal}
use Rattle.model.specs.Calls.{Offered, offered_writes, start_state, write_run, Written, written}
use Rattle.model.proofs.Laws.Geometry.{geometry_ext}
use Rattle.model.proofs.Laws.Blocks.{length-set_block, block_at-set_block_same, block_at-set_block_other}
use Rattle.model.proofs.Laws.Entries.{entry_at-set_entry_same, entry_at-set_entry_other, entry_at_header}
use Rattle.model.proofs.Laws.Slots.{next_slot_lt}
use Rattle.model.proofs.Laws.Stores.{Stored}
use Rattle.model.proofs.Laws.Refusals.{Accepted, accepted_of_refusal, refusal_of_accepted}
use Rattle.model.proofs.Laws.Accepted.{accepted_of_write, drive_refusal_of_write}
use Rattle.model.proofs.Laws.MapStores.{InFront, map_stores-in_front}
use Rattle.model.proofs.Laws.RoundStores.{HiddenAddress, hides_addresses, public_store_address}
use Rattle.model.proofs.Laws.RoundStores.{after_round, header_fits, round_stored, Round, old_of_round}
use Rattle.model.proofs.Laws.RoundCounts.{rounds_to-zero}
use Rattle.model.proofs.Laws.Ready.{Ready, ready_kept, ready_round, run_from_kept, run_from_last}
use Rattle.model.proofs.Laws.WriteRuns.{ready_of_write}
use Rattle.model.proofs.Laws.Calls.{written_cases}

-- ---- a drive of a geometry ----

-- bytes whose first six entries are a geometry and a head slot of it
pub record HeadOf (g : Geometry) (bytes : Bytes) : Type 0 where
  pub geometry : geometry_in bytes ≡ g
  pub head_inside : head_in bytes < g.slots

-- a drive of a geometry that refusals 1 to 3 do not meet
pub record DriveOf (g : Geometry) (disk : Bytes) : Type 0 where
  pub geometry : geometry_in disk ≡ g
  pub accepted : drive_refusal disk ≡ 0

head_of_same :
    {g : Geometry} (bytes other : Bytes) → ((i : ℕ) → i < 6 → entry_at i bytes ≡ entry_at i other) →
    HeadOf g other → HeadOf g bytes
head_of_same bytes other same head =
    record {
      geometry = geometry_ext bytes other (λ i h. same i (omega arith)) ∙ head.geometry;
      head_inside = rw (same 5 (omega arith)) head.head_inside;
    }

module _ {g : Geometry} {disk : Bytes} (drive : DriveOf g disk) where
  accepted_drive_of : Accepted disk
  accepted_drive_of = accepted_of_refusal disk drive.accepted

  fits_drive_of : Fits g
  fits_drive_of = subst Fits drive.geometry accepted_drive_of.sized.fits

  whole_drive_of : length disk ≡ drive_size g
  whole_drive_of = accepted_drive_of.sized.whole ∙ ap drive_size drive.geometry

  -- its header is such bytes
  pub head_of-drive_of : HeadOf g (block_at (block_width g) disk 0)
  head_of-drive_of =
      head_of_same (block_at (block_width g) disk 0) disk
      (λ i h. sym (entry_at_header g.block_size disk i (omega (arith, fits_drive_of.size_low))))
      (record {
        geometry = drive.geometry;
        head_inside = subst (λ (h : Geometry). head_in disk < h.slots) drive.geometry
            accepted_drive_of.head_inside;
      })

  -- and a disk as long with such bytes in its header is a drive of the geometry
  pub drive_of_header :
      (after : Bytes) → length after ≡ length disk → HeadOf g (block_at (block_width g) after 0) →
      DriveOf g after
  drive_of_header after same header =
      let head : HeadOf g after =
      head_of_same after (block_at (block_width g) after 0)
      (λ i h. entry_at_header g.block_size after i (omega (arith, fits_drive_of.size_low))) header in
      record {
        geometry = head.geometry;
        accepted =
            refusal_of_accepted after (omega (arith, accepted_drive_of.sized.long))
            (ap is_geometry (head.geometry ∙ sym drive.geometry) ∙ accepted_drive_of.sized.accepted)
            (same ∙ whole_drive_of ∙ sym (ap drive_size head.geometry))
            (subst (λ (h : Geometry). head_in after < h.slots) (sym head.geometry) head.head_inside);
      }

-- ---- stores that leave one ----

-- a store that puts such bytes in the header, where it goes there
abbrev LeavesHead : Geometry → Store → Type 0
LeavesHead g x = x.address ≡ 0 → HeadOf g x.content

-- and is of a whole block and inside the disk
pub record KeepsDrive (g : Geometry) (x : Store) : Type 0 where
  pub stored : Stored (block_width g) (block_count g) x
  pub header : LeavesHead g x

drive_of-set_block :
    {g : Geometry} {disk : Bytes} → DriveOf g disk → (x : Store) → KeepsDrive g x →
    DriveOf g (set_block (block_width g) disk x.address x.content)
drive_of-set_block {g} {disk} drive x keeps =
    drive_of_header drive (set_block (block_width g) disk x.address x.content)
    (length-set_block (block_width g) disk (block_count g) (whole_drive_of drive) x.address
    keeps.stored.0 x.content keeps.stored.1)
    (by (eq_cases 0 x.address))
  where
    by : (0 ≡ x.address) ⊎ (0 ≢ x.address) →
        HeadOf g (block_at (block_width g) (set_block (block_width g) disk x.address x.content) 0)
    by (inl e) =
        let new =
        block_at-set_block_same (block_width g) disk (block_count g) (whole_drive_of drive) x.address
        keeps.stored.0 x.content keeps.stored.1 in
        subst (λ (a : DiskAddress). HeadOf g
        (block_at (block_width g) (set_block (block_width g) disk x.address x.content) a)) (sym e)
        (rw new (keeps.header (sym e)))
    by (inr ne) =
        rw (block_at-set_block_other (block_width g) disk (block_count g) (whole_drive_of drive) x.address
        keeps.stored.0 x.content keeps.stored.1 0 ne)
        (head_of-drive_of drive)

pub drive_of-apply :
    {g : Geometry} {disk : Bytes} (xs : Trace) → All (KeepsDrive g) xs → DriveOf g disk →
    DriveOf g (apply (block_width g) xs disk)
unfolding apply
drive_of-apply {g = g} {disk = disk} [] keeps drive = drive
drive_of-apply {g = g} {disk = disk} (x ∷ xs) keeps drive =
    drive_of-apply {disk = set_block (block_width g) disk x.address x.content} xs keeps.1
    (drive_of-set_block drive x keeps.0)

-- ---- the stores of a write ----

-- stores that go elsewhere
leaves_away :
    (g : Geometry) (xs : Trace) → All (λ (a : DiskAddress). 1 ≤ a) (addresses xs) → All (LeavesHead g) xs
unfolding addresses
leaves_away g [] h = tt
leaves_away g (x ∷ xs) h = ((λ e. absurd (omega (arith, h.0))), leaves_away g xs h.1)

keeps_of :
    (g : Geometry) (xs : Trace) → All (Stored (block_width g) (block_count g)) xs → All (LeavesHead g) xs →
    All (KeepsDrive g) xs
keeps_of g [] s h = tt
keeps_of g (x ∷ xs) s h = (record { stored = s.0; header = h.0 }, keeps_of g xs s.1 h.1)

module _ {g : Geometry} {disk : Bytes} {number slot : ℕ} {content : Bytes} {hidden : Trace}
    (round : Round g disk number slot content hidden) (drive : DriveOf g disk) (choice : PublicChoice) where
  header_store_head : HeadOf g (header_store g disk slot).content
  header_store_head =
      let block = block_at (block_width g) disk 0 in
      let room = header_fits g round.fits disk round.whole in
      record {
        geometry =
            geometry_ext (set_entry 5 (next_slot g slot) block) block
            (λ i h. entry_at-set_entry_other 5 (next_slot g slot) block room i (omega arith))
            ∙ (head_of-drive_of drive).geometry;
        head_inside =
            rw (entry_at-set_entry_same 5 (next_slot g slot) block room
            (omega (arith, next_slot_lt g slot round.fits, round.fits.blocks_high)))
            (next_slot_lt g slot round.fits);
      }

  round_keeps : All (KeepsDrive g) (round_trace choice g disk number slot content hidden)
  unfolding round_trace
  round_keeps =
      keeps_of g (round_trace choice g disk number slot content hidden) (round_stored round choice) (
        λ e. absurd (omega (arith, public_store_address choice g disk slot content)),
        all_append (LeavesHead g) hidden _
            (leaves_away g hidden
            (all_map (HiddenAddress g slot) (λ (a : ℕ). 1 ≤ a) (addresses hidden) past
            (hides_addresses g slot hidden round.hides)))
            (all_append (LeavesHead g) (map_stores choice g disk number slot) _
            (leaves_away g (map_stores choice g disk number slot)
            (all_map (InFront g) (λ (a : ℕ). 1 ≤ a) (addresses (map_stores choice g disk number slot))
            (λ a h. h.0)
            (map_stores-in_front g round.fits disk round.whole slot round.inside number
            round.counted (old_of_round round) choice)))
            ((λ e. header_store_head), tt)),
      )
    where
      past : (a : DiskAddress) → HiddenAddress g slot a → 1 ≤ a
      past a (inl e) = omega arith
      past a (inr (place, low, high, e)) = omega arith

module _ (g : Geometry) (f : Fits g) (number : ℕ) (content : Bytes) (known : number < g.publics)
    (sized : length content ≡ g.block_size) where
  -- what the stores of at most so many rounds keep, from any slot of any drive
  abbrev RunKeeps : (most : ℕ) → Type 0
  RunKeeps most =
      (disk : Bytes) (slot : ℕ) (random : Bytes) (state : HiddenState) → DriveOf g disk →
      Ready g number most disk slot random state →
      All (KeepsDrive g) (run_from most g number content slot random disk state).trace

  one_more_keeps : (most : ℕ) → RunKeeps most → RunKeeps (suc most)
  one_more_keeps most later disk slot random state drive ready = by (bool_cases (is_allocated g disk slot))
    where
      half : HiddenHalf
      half = hidden_half g disk slot random state

      trace : PublicChoice → Trace
      trace choice = round_trace choice g disk number slot content half.trace

      round : (choice : PublicChoice) → All (KeepsDrive g) (trace choice)
      round = round_keeps (ready_round g f number known content sized most disk slot random state ready) drive

      rest : Run
      rest =
          run_from most g number content (next_slot g slot) (drop (g.height * g.block_size) random)
          (after_round keep_public g disk number slot content half.trace) half.state

      by : (is_allocated g disk slot ≡ true) ⊎ (is_allocated g disk slot ≡ false) →
          All (KeepsDrive g) (run_from (suc most) g number content slot random disk state).trace
      by (inl e) =
          rw (run_from_kept most g number content slot random disk state e)
          (all_append (KeepsDrive g) (trace keep_public) rest.trace (round keep_public)
          (later _ _ _ _ (drive_of-apply (trace keep_public) (round keep_public) drive)
          (ready_kept g f number known content sized most disk slot random state ready e)))
      by (inr e) =
          rw (run_from_last most g number content slot random disk state e)
          (all_append (KeepsDrive g) (trace write_public) [] (round write_public) tt)

  run_from_keeps : (most : ℕ) → RunKeeps most
  run_from_keeps zero disk slot random state drive ready =
      absurd (ready.some_rounds (rounds_to-zero (is_allocated g disk) g slot))
  run_from_keeps (suc most) disk slot random state drive ready =
      one_more_keeps most (run_from_keeps most) disk slot random state drive ready

-- every store of a write, refused or not
pub written_keeps :
    (disk : Bytes) (number : ℕ) (content random : Bytes) (room : ℕ) (offer : Offered) →
    All (KeepsDrive (geometry_in disk)) (written disk number content random room offer).trace
unfolding write_run
written_keeps disk number content random room offer =
    written_cases disk number content random room offer
    (λ (result : Written). All (KeepsDrive (geometry_in disk)) result.trace) done (λ f. tt)
  where
    done :
        write_refusal disk number content (length random) room ≡ 0 →
        All (KeepsDrive (geometry_in disk))
        (write_run (geometry_in disk) disk number content random offer).trace
    done free =
        let accepted = drive_refusal_of_write disk number content (length random) room free in
        let good = accepted_of_write disk number content (length random) room free in
        run_from_keeps (geometry_in disk) (accepted_of_refusal disk accepted).sized.fits number content
        good.accepted.number_inside good.accepted.block_sized (geometry_in disk).slots disk
        (head_in disk) random
        (start_state (offered_writes (geometry_in disk) offer)) (record { geometry = refl; accepted = accepted })
        (ready_of_write disk number content random room offer free)
