-- The places of a drive looked at one window of slots after another, with one bit a slot: what is noted of an
-- entry, and that no entry of a window comes twice. Assumes nothing.
use Rattle.std.specs.Prelude.{◌≡◌, Bool, true, cond, not, ◌&&◌, List, [], ◌∷◌, ℕ, ◌+◌, ◌*◌, ◌-◌, ◌/◌, ◌≤◌, ◌<◌, ◌^◌, ltb, leb}
use Rattle.laws.specs.Bits.{bit_at, set_bit}
use Rattle.model.specs.Geometry.{Geometry, slot_width, is_one_of}
use Rattle.model.specs.Blocks.{Bytes, DiskAddress}
use Rattle.model.specs.Layout.{Drive, slot_start}
use Rattle.recovery_model.specs.Recovery.{used_entries, are_starts}

-- slots of a window: one bit each in 4,096 bytes
abbrev pub window_slots : ℕ
window_slots = 32768

-- the address after a window's blocks
abbrev pub window_end : (low : DiskAddress) → (width : ℕ) → DiskAddress
window_end low width = low + window_slots * width

-- whether an address is not below one and is below another
abbrev pub is_within : (low high : DiskAddress) → DiskAddress → Bool
is_within low high entry = leb low entry && ltb entry high

-- no entry between two addresses comes twice
unfoldable pub are_apart_within : (low high : DiskAddress) → List DiskAddress → Bool
are_apart_within low high [] = true
are_apart_within low high (entry ∷ later) =
    not (is_within low high entry && is_one_of entry later) && are_apart_within low high later

-- ---- an entry noted ----

-- a window that begins at an address, of slots of this width
pub record Window (low : DiskAddress) (width : ℕ) : Type 0 where
  pub low_inside : low < 2 ^ 31
  pub width_low : 1 ≤ width
  pub width_high : width ≤ 5

-- the slot of an entry, counted from the window's first
abbrev pub window_place : (low : DiskAddress) → (width : ℕ) → DiskAddress → ℕ
window_place low width entry = (entry - low) / width

-- an entry of the window has its slot's bit set, and the answer is whether it was; any other leaves the bits
-- as they are, and the answer is no
pub record Noted (low : DiskAddress) (width : ℕ) (entry : DiskAddress) (seen after : Bytes) (was : Bool) :
    Type 0 where
  pub was_noted :
      was ≡ (is_within low (window_end low width) entry && bit_at (window_place low width entry) seen)
  pub noted :
      after ≡
      cond (is_within low (window_end low width) entry) (set_bit (window_place low width entry) true seen) seen

-- ---- a map looked through ----

-- a drive whose map's entries, each 0 left out, are slots' starts
pub record Started (g : Geometry) (disk : Bytes) : Type 0 where
  pub drive : Drive g disk
  pub starts : are_starts g (used_entries g disk) ≡ true

-- no entry of the window that begins at a slot comes twice
abbrev pub is_window_apart : Geometry → (disk : Bytes) → (first : ℕ) → Bool
is_window_apart g disk first =
    are_apart_within (slot_start g first) (window_end (slot_start g first) (slot_width g)) (used_entries g disk)
