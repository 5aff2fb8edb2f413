-- What document 01 says of rounds, worked out by hand: which random bytes a round takes, what damage does to
-- it, every hidden outcome, the table's rows, and what a store keeps beside its change; on document 01's
-- geometry, slot 0 being blocks 4 to 6, slot 1 blocks 7 to 9, slot 2 blocks 10 to 12. Assumes nothing.
use Rattle.std.specs.Prelude.{◌≡◌, List, [], ◌∷◌, ◌++◌, ℕ, zero, suc, replicate}
use Rattle.model.specs.Blocks.{Bytes, DiskAddress, block_at, set_block, entry_at, set_entry}
use Rattle.model.specs.Stores.{addresses}
use Rattle.model.specs.Refusals.{hidden_read_refusal}
use Rattle.model.specs.Calls.{public_read, hidden_read, Written, written, written_disk, outcome_number}
use Rattle.model.specs.Calls.{Offered, nothing, one}
use Rattle.model.specs.Needs.{Needed, needs_of}
use Rattle.model.specs.Promises.Figures.{fresh, filled, disk_of, four_written}
use Rattle.model.specs.Promises.Limits.{one_offer}
use Rattle.model.specs.Promises.TreeFigures.{node}

-- ---- the write ----

-- so many bytes, each one more than the last
unfoldable pub bytes_from : (first count : ℕ) → Bytes
bytes_from first zero = []
bytes_from first (suc count) = first ∷ bytes_from (suc first) count

-- a write of bytes 7 with the random bytes 0 to 255 and a list of 23
abbrev pub counted_write : (disk : Bytes) → (number : ℕ) → Offered → Written
counted_write disk number offer = written disk number (filled 7) (bytes_from 0 256) 23 offer

abbrev pub outcome_after : (disk : Bytes) → (number : ℕ) → Offered → ℕ
outcome_after disk number offer = outcome_number (counted_write disk number offer).outcome

abbrev pub disk_after_write : (disk : Bytes) → (number : ℕ) → Offered → Bytes
disk_after_write disk number offer = written_disk (counted_write disk number offer) disk

abbrev pub block_after : (disk : Bytes) → (number : ℕ) → Offered → DiskAddress → Bytes
block_after disk number offer address = block_at 32 (disk_after_write disk number offer) address

abbrev pub listed_by : (disk : Bytes) → (number : ℕ) → Offered → List DiskAddress
listed_by disk number offer = addresses (counted_write disk number offer).trace

-- what a write takes, by its four numbers
abbrev pub needed : (answer rounds stores random_blocks : ℕ) → Needed
needed answer rounds stores random_blocks =
    record { answer = answer; rounds = rounds; stores = stores; random_blocks = random_blocks }

-- ---- drives ----

-- fresh but for the root and the leaves of slots 0 and 1
abbrev pub with_tree : (root leaf other : Bytes) → Bytes
with_tree root leaf other = set_block 32 (set_block 32 (set_block 32 fresh 3 root) 5 leaf) 8 other

-- slot 0 also holds public number 0
abbrev pub with_public : (disk : Bytes) → Bytes
with_public disk = set_block 32 (set_block 32 disk 1 (node 4 0 0 0)) 2 (1 ∷ replicate 31 0)

-- the root's first entry is hidden data's address, so that every walk is damaged; slot 0's leaf is given
abbrev pub damaged_root : (leaf : Bytes) → Bytes
damaged_root leaf = with_tree (node 6 0 0 0) leaf (filled 0)

-- slot 0 is live for hidden 1; the entry of hidden 0 in its leaf is a leaf's address: damaged there
abbrev pub damaged_leaf : Bytes
damaged_leaf = with_tree (node 5 0 0 0) (node 5 6 0 1) (filled 0)

-- slot 0 is marked and owned by hidden 0, whose walk is damaged in the leaf of slot 1, which nobody owns
abbrev pub damaged_behind : Bytes
damaged_behind = with_public (with_tree (node 8 0 0 0) (filled 0) (node 5 0 0 165))

-- slot 0 is owned by hidden 0, found in slot 1: stale
abbrev pub stale_first : Bytes
stale_first = with_tree (node 8 0 0 0) (node 6 0 0 0) (node 9 0 0 0)

-- slot 0 is marked and live for hidden 1
abbrev pub live_marked : Bytes
live_marked = with_public (with_tree (node 5 0 0 0) (node 0 6 0 1) (filled 0))

-- slot 0's leaf says the number 2, which is H, with this entry
abbrev pub owned_by_limit : (entry : DiskAddress) → Bytes
owned_by_limit entry = with_tree (node 5 0 0 0) (node 0 0 entry 2) (filled 0)

-- ---- the figures ----

pub record RoundFigures : Type 0 where
  -- three rounds over slots that nobody owns: each has its own 64 random bytes, in address order
  pub random_first : block_after four_written 2 nothing 5 ≡ bytes_from 0 32
  pub random_second : block_after four_written 2 nothing 6 ≡ bytes_from 32 32
  pub random_third : block_after four_written 2 nothing 8 ≡ bytes_from 64 32
  pub random_last : block_after four_written 2 nothing 12 ≡ bytes_from 160 32
  -- the first of them places an offer on its marked slot and passes over its bytes; the next uses its own
  pub marked_placed : outcome_after four_written 2 (one_offer 0 9) ≡ 1
  pub marked_placed_data : block_after four_written 2 (one_offer 0 9) 6 ≡ filled 9
  pub marked_placed_leaf : block_after four_written 2 (one_offer 0 9) 5 ≡ node 6 0 0 0
  pub random_passed_over : block_after four_written 2 (one_offer 0 9) 8 ≡ bytes_from 64 32
  -- it goes on after the offer is placed, with the stores of a write without one
  pub marked_placed_stores :
      listed_by four_written 2 (one_offer 0 9) ≡
      (4 ∷ 5 ∷ 6 ∷ 3 ∷ 0 ∷ 7 ∷ 8 ∷ 9 ∷ 3 ∷ 0 ∷ []) ++ (10 ∷ 11 ∷ 12 ∷ 3 ∷ 1 ∷ 2 ∷ 0 ∷ [])
  -- the owner's walk is damaged: written back, with an offer and without one
  pub owner_damaged : outcome_after (damaged_root (filled 0)) 0 nothing ≡ 12
  pub owner_damaged_offer : outcome_after (damaged_root (filled 0)) 0 (one_offer 0 9) ≡ 12
  pub owner_damaged_leaf : block_after (damaged_root (filled 0)) 0 nothing 5 ≡ filled 0
  pub owner_damaged_data : block_after (damaged_root (filled 0)) 0 (one_offer 0 9) 6 ≡ filled 0
  pub owner_damaged_root : block_after (damaged_root (filled 0)) 0 nothing 3 ≡ node 6 0 0 0
  pub owner_damaged_stores :
      listed_by (damaged_root (filled 0)) 0 (one_offer 0 9) ≡ 4 ∷ 5 ∷ 6 ∷ 3 ∷ 1 ∷ 2 ∷ 0 ∷ []
  -- the slot is nobody's: written back for the offer's damaged walk, filled without an offer
  pub offer_damaged : outcome_after (damaged_root (filled 165)) 0 (one_offer 0 9) ≡ 12
  pub offer_damaged_leaf : block_after (damaged_root (filled 165)) 0 (one_offer 0 9) 5 ≡ filled 165
  pub offer_damaged_none : outcome_after (damaged_root (filled 165)) 0 nothing ≡ 0
  pub offer_damaged_filled : block_after (damaged_root (filled 165)) 0 nothing 5 ≡ bytes_from 0 32
  -- the slot is live for hidden 1, the walk of the offer 0 damaged in the leaf: 1's path is stored, 0 waits
  pub live_waits : outcome_after damaged_leaf 0 (one_offer 0 9) ≡ 2
  pub live_waits_leaf : block_after damaged_leaf 0 (one_offer 0 9) 5 ≡ node 5 6 0 1
  -- with no offer the same, and the slot takes the public block
  pub live_free_leaf : block_after damaged_leaf 0 nothing 5 ≡ node 5 6 0 1
  pub live_free_data : block_after damaged_leaf 0 nothing 6 ≡ filled 0
  pub live_free_stores : listed_by damaged_leaf 0 nothing ≡ 4 ∷ 5 ∷ 6 ∷ 3 ∷ 1 ∷ 2 ∷ 0 ∷ []
  pub leaf_damaged : hidden_read_refusal damaged_leaf 0 (filled 0) ≡ 12
  pub leaf_sound : hidden_read_refusal damaged_leaf 1 (filled 0) ≡ 0
  -- two rounds: slot 0 is written back for its owner, slot 1 takes the offer: placed, and not 12
  pub damaged_then_placed : outcome_after damaged_behind 1 (one_offer 1 9) ≡ 1
  pub damaged_then_leaf : block_after damaged_behind 1 (one_offer 1 9) 8 ≡ node 5 9 0 1
  pub damaged_then_root : block_after damaged_behind 1 (one_offer 1 9) 3 ≡ node 8 0 0 0
  pub damaged_then_kept : block_after damaged_behind 1 (one_offer 1 9) 5 ≡ filled 0
  pub damaged_then_stores :
      listed_by damaged_behind 1 (one_offer 1 9) ≡ (4 ∷ 5 ∷ 6 ∷ 3 ∷ 0 ∷ []) ++ (7 ∷ 8 ∷ 9 ∷ 3 ∷ 1 ∷ 2 ∷ 0 ∷ [])
  -- a stale slot is filled without an offer, and takes one: its path is that of slot 1's current leaf
  pub stale_filled : block_after stale_first 0 nothing 5 ≡ bytes_from 0 32
  pub stale_kept_elsewhere : hidden_read (disk_after_write stale_first 0 nothing) 0 (filled 5) ≡ filled 0
  pub stale_taken_leaf : block_after stale_first 0 (one_offer 1 9) 5 ≡ node 9 6 0 1
  pub stale_taken_root : block_after stale_first 0 (one_offer 1 9) 3 ≡ node 5 0 0 0
  -- a slot that is marked and live is kept though an offer waits; the next slot takes it
  pub live_marked_leaf : block_after live_marked 1 (one_offer 0 9) 5 ≡ node 0 6 0 1
  pub live_marked_data : block_after live_marked 1 (one_offer 0 9) 6 ≡ filled 0
  pub live_marked_next : block_after live_marked 1 (one_offer 0 9) 8 ≡ node 9 6 0 0
  -- a reverse number that is H is nobody's, though its walk ends here or is damaged
  pub owner_is_hidden : block_after (owned_by_limit 6) 0 nothing 5 ≡ bytes_from 0 32
  pub owner_is_hidden_damaged : outcome_after (owned_by_limit 5) 0 nothing ≡ 0
  -- the other outcomes; of two bad things of an offer the number's is told
  pub outcome_none : outcome_after fresh 0 nothing ≡ 0
  pub outcome_placed : outcome_after fresh 0 (one_offer 1 9) ≡ 1
  pub outcome_not_tried : outcome_after fresh 3 (one_offer 1 9) ≡ 3
  pub refused_rounds : (counted_write fresh 3 (one_offer 1 9)).rounds ≡ 0
  pub refused_stores : listed_by fresh 3 (one_offer 1 9) ≡ []
  pub outcome_eleven : outcome_after fresh 0 (one (record { number = 1; content = replicate 33 9 })) ≡ 11
  pub outcome_ten_first : outcome_after fresh 0 (one (record { number = 2; content = replicate 33 9 })) ≡ 10
  -- what is placed is read: hidden 0 in slot 1, public 0 in slot 0
  pub public_shown : public_read (disk_after_write fresh 0 nothing) 0 (filled 5) ≡ filled 7
  pub hidden_shown_lem : hidden_read (disk_after_write (disk_of fresh 0) 1 (one_offer 0 9)) 0 (filled 5) ≡ filled 9
  pub hidden_blank : hidden_read (disk_after_write (disk_of fresh 0) 1 (one_offer 0 9)) 1 (filled 5) ≡ filled 5
  -- what a write takes: rounds, stores, random blocks; of a write that is refused nothing but the number
  pub needs_first : needs_of fresh 0 ≡ needed 0 1 7 2
  pub needs_fifth : needs_of four_written 2 ≡ needed 0 3 17 6
  pub needs_outside : needs_of fresh 3 ≡ needed 4 0 0 0
  pub needs_full : needs_of (set_block 32 fresh 2 (73 ∷ 2 ∷ replicate 30 0)) 0 ≡ needed 7 0 0 0
  -- bytes beside a change are kept: the header's last entry, a map entry past P, bits of hidden blocks
  pub header_kept : entry_at 7 (disk_after_write (set_entry 7 99 fresh) 0 nothing) ≡ 99
  pub map_kept : block_after (set_block 32 fresh 1 (node 0 0 0 99)) 0 nothing 1 ≡ node 4 0 0 99
  pub bits_kept : block_after (set_block 32 fresh 2 (2 ∷ replicate 31 255)) 0 nothing 2 ≡ 3 ∷ replicate 31 255
