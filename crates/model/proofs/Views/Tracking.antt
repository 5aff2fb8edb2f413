-- What the simulator keeps, read from a disk: its entries and marks are the disk's, and the view of an
-- accepted drive tells it as much as the disk. Assumes nothing.
use mathlib.Core.Path.{◌≡◌, refl, ap, ◌∙◌}
use mathlib.Core.Bool.{false}
use Prim.Native.Nat.{ℕ, zero, suc, ◌+◌, ◌≤◌, ◌<◌}
use native.Mathlib.Omega.{arith}
use lib.ListN.{length, get_or}
use Rattle.model.specs.Geometry.{Geometry}
use Rattle.model.specs.Blocks.{Bytes}
use Rattle.model.specs.Layout.{Drive, geometry_in, head_in, map_entry, is_allocated}
use Rattle.model.specs.View.{view_of}
use Rattle.model.specs.Simulator.{Simulator, entries_from, allocated_from, simulator_of}
use Rattle.model.proofs.Views.View.{entry_at-view_of, map_entry-view_of, is_allocated-view_of}
use Rattle.model.proofs.Views.View.{geometry_in-view_of}

-- ---- entries and marks ----

module _ (g : Geometry) (disk : Bytes) where
  pub length-entries_from : (number count : ℕ) → length (entries_from g disk number count) ≡ count
  unfolding entries_from
  length-entries_from number zero = refl
  length-entries_from number (suc count) = ap suc (length-entries_from (suc number) count)

  pub length-allocated_from : (slot count : ℕ) → length (allocated_from g disk slot count) ≡ count
  unfolding allocated_from
  length-allocated_from slot zero = refl
  length-allocated_from slot (suc count) = ap suc (length-allocated_from (suc slot) count)

  get_d-entries_from :
      (number count index : ℕ) → index < count →
      get_or (entries_from g disk number count) index 0 ≡ map_entry g disk (number + index)
  unfolding entries_from
  get_d-entries_from number zero index h = absurd (omega arith)
  get_d-entries_from number (suc count) zero h = let e : number + 0 ≡ number = omega arith in rw e
  get_d-entries_from number (suc count) (suc index) h =
      let e : suc number + index ≡ number + suc index = omega arith in
      get_d-entries_from (suc number) count index (omega arith) ∙ ap (map_entry g disk) e

  get_d-allocated_from :
      (slot count index : ℕ) → index < count →
      get_or (allocated_from g disk slot count) index false ≡ is_allocated g disk (slot + index)
  unfolding allocated_from
  get_d-allocated_from slot zero index h = absurd (omega arith)
  get_d-allocated_from slot (suc count) zero h = let e : slot + 0 ≡ slot = omega arith in rw e
  get_d-allocated_from slot (suc count) (suc index) h =
      let e : suc slot + index ≡ slot + suc index = omega arith in
      get_d-allocated_from (suc slot) count index (omega arith) ∙ ap (is_allocated g disk) e

  pub get_d_entries :
      (number : ℕ) → number < g.publics →
      get_or (entries_from g disk 0 g.publics) number 0 ≡ map_entry g disk number
  get_d_entries number h =
      let e : 0 + number ≡ number = omega arith in
      get_d-entries_from 0 g.publics number h ∙ ap (map_entry g disk) e

  pub get_d_allocated :
      (slot : ℕ) → slot < g.slots →
      get_or (allocated_from g disk 0 g.slots) slot false ≡ is_allocated g disk slot
  get_d_allocated slot h =
      let e : 0 + slot ≡ slot = omega arith in
      get_d-allocated_from 0 g.slots slot h ∙ ap (is_allocated g disk) e

-- the same, read from two runs of bytes
entries_from_ext :
    (g : Geometry) (disk other : Bytes) →
    ((number : ℕ) → number < g.publics → map_entry g disk number ≡ map_entry g other number) →
    (number count : ℕ) → number + count ≤ g.publics →
    entries_from g disk number count ≡ entries_from g other number count
unfolding entries_from
entries_from_ext g disk other e number zero h = refl
entries_from_ext g disk other e number (suc count) h =
    rw (e number (omega arith), entries_from_ext g disk other e (suc number) count (omega arith))

allocated_from_ext :
    (g : Geometry) (disk other : Bytes) →
    ((slot : ℕ) → slot < g.slots → is_allocated g disk slot ≡ is_allocated g other slot) →
    (slot count : ℕ) → slot + count ≤ g.slots →
    allocated_from g disk slot count ≡ allocated_from g other slot count
unfolding allocated_from
allocated_from_ext g disk other e slot zero h = refl
allocated_from_ext g disk other e slot (suc count) h =
    rw (e slot (omega arith), allocated_from_ext g disk other e (suc slot) count (omega arith))

-- ---- the simulator of a disk ----

-- what it keeps, read from a disk
abbrev pub tracked : Geometry → (head : ℕ) → (disk : Bytes) → Simulator
tracked g head disk =
    record {
      geometry = g;
      head = head;
      entries = entries_from g disk 0 g.publics;
      allocated = allocated_from g disk 0 g.slots;
    }

-- the simulator that tracks a drive
abbrev pub tracker_of : (disk : Bytes) → Simulator
tracker_of disk = tracked (geometry_in disk) (head_in disk) disk

pub simulator_ext :
    {sim other : Simulator} → sim.geometry ≡ other.geometry → sim.head ≡ other.head →
    sim.entries ≡ other.entries → sim.allocated ≡ other.allocated → sim ≡ other
simulator_ext {sim} {other} p q r s =
    λ i. record { geometry = p i; head = q i; entries = r i; allocated = s i }

-- the view tells as much as the disk
pub simulator_of-view_of :
    (disk : Bytes) → Drive (geometry_in disk) disk → simulator_of (view_of disk) ≡ tracker_of disk
unfolding simulator_of
simulator_of-view_of disk drive =
    let g = geometry_in disk in
    let e = geometry_in-view_of disk drive in
    simulator_ext e (entry_at-view_of disk drive 5 (omega arith))
    (ap (λ (h : Geometry). entries_from h (view_of disk) 0 h.publics) e
    ∙ entries_from_ext g (view_of disk) disk (map_entry-view_of disk drive) 0 g.publics (omega arith))
    (ap (λ (h : Geometry). allocated_from h (view_of disk) 0 h.slots) e
    ∙ allocated_from_ext g (view_of disk) disk (is_allocated-view_of disk drive) 0 g.slots (omega arith))
