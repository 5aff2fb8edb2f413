-- One round side by side on two disks that show the same: whatever the two hidden halves store, the two
-- traces are side by side, so that the disks show the same afterwards. Assumes nothing.
use mathlib.Core.Path.{◌≡◌, refl, sym, ap, ◌∙◌, subst}
use mathlib.Core.Logic.{inl, inr}
use mathlib.Core.Bool.{Bool, true, false, cond}
use mathlib.Core.List.{[], ◌∷◌}
use Prim.Native.Nat.{ℕ, ◌+◌, ◌*◌, ◌%◌, ◌≤◌, ◌<◌}
use native.Mathlib.Omega.{arith}
use lib.Dec.{eqb}
use lib.ListN.{length}
use borrow.Author.Tests.{eq-eqb}
use Rattle.laws.proofs.Members.{all_map}
use Rattle.model.specs.Geometry.{Geometry, Fits, fanout, root_address, block_count, block_width}
use Rattle.model.specs.Blocks.{Bytes, DiskAddress, block_at, entry_at, set_entry}
use Rattle.model.specs.Layout.{slot_start, slot_of, next_slot, map_address, map_entry, bit_address, is_shared}
use Rattle.model.specs.Layout.{is_allocated, bitmap_with}
use Rattle.model.specs.Stores.{Trace, store, apply, addresses}
use Rattle.model.specs.Table.{PublicChoice, keep_public, write_public}
use Rattle.model.specs.Rounds.{public_store, map_store, bit_store, moved_stores, bit_stores, header_store}
use Rattle.model.specs.Rounds.{map_stores, round_trace}
use Rattle.model.specs.View.{shown_of}
use Rattle.model.proofs.Laws.Geometry.{map_address_lt, bit_address_lt, slot_block_lt, root_address_lt}
use Rattle.model.proofs.Laws.Geometry.{slot_start_lt}
use Rattle.model.proofs.Laws.Entries.{length-set_entry, entry_at_header}
use Rattle.model.proofs.Laws.Places.{OldPlace}
use Rattle.model.proofs.Laws.Bitmap.{is_allocated_block, length-bitmap_with}
use Rattle.model.proofs.Laws.PublicMap.{map_entry_block, length-map_block_with}
use Rattle.model.proofs.Laws.Paths.{Hides, block_at_whole}
use Rattle.model.proofs.Laws.RoundStores.{HiddenAddress, hides_addresses}
use Rattle.model.proofs.Views.Agreement.{none, more, along_append, agree_apply}
use Rattle.model.proofs.Views.Shown.{is_shown_below, is_shown-slot_start, is_shown_slot_block}
use Rattle.model.proofs.Views.Shown.{is_shown-root_address, ShowSame, StoreSame, TraceSame}
use Rattle.model.proofs.Views.Shown.{block_at_alike, Hidden, along_hidden}

-- ---- the hidden halves ----

hides_alike :
    (g : Geometry) (slot : ℕ) → slot < g.slots → (xs ys : Trace) → Hides g slot xs → Hides g slot ys →
    TraceSame g xs ys
hides_alike g slot h xs ys p q =
    along_hidden g xs ys (p.runs ∙ sym q.runs)
    (all_map (HiddenAddress g slot) (Hidden g) (addresses xs) hidden (hides_addresses g slot xs p)) p.whole
    q.whole
  where
    hidden : (address : DiskAddress) → HiddenAddress g slot address → Hidden g address
    hidden address (inl e) = rw e (root_address_lt g, is_shown-root_address g)
    hidden address (inr (place, low, high, e)) =
        rw e (slot_block_lt g slot place h high, is_shown_slot_block g slot place low high)

-- ---- the public half ----

-- one content stored at one address
store_alike :
    (g : Geometry) (address : DiskAddress) (content other : Bytes) → address < block_count g →
    length content ≡ g.block_size → content ≡ other →
    StoreSame g (store address content) (store address other)
store_alike g address content other h sized e =
    record {
      same_address = refl;
      inside = h;
      sized = sized;
      other_sized = sym (ap length e) ∙ sized;
      same_shown = ap (shown_of g address) e;
    }

module _ (g : Geometry) (f : Fits g) (disk other : Bytes) (same : ShowSame g disk other) where
  below_alike :
      (address : DiskAddress) → address < root_address g →
      block_at (block_width g) disk address ≡ block_at (block_width g) other address
  below_alike address h = block_at_alike g disk other same address (is_shown_below g address h)

  pub entry_at_alike : (index : ℕ) → index < 6 → entry_at index disk ≡ entry_at index other
  entry_at_alike index h =
      let l : 4 * index + 4 ≤ g.block_size = omega (arith, f.size_low) in
      entry_at_header g.block_size disk index l ∙ ap (entry_at index) (below_alike 0 (omega arith))
      ∙ sym (entry_at_header g.block_size other index l)

  pub map_entry_alike : (number : ℕ) → number < g.publics → map_entry g disk number ≡ map_entry g other number
  map_entry_alike number h =
      map_entry_block g disk other number
      (below_alike (map_address g number) (omega (arith, map_address_lt g f number h)))

  pub is_allocated_alike : (slot : ℕ) → slot < g.slots → is_allocated g disk slot ≡ is_allocated g other slot
  is_allocated_alike slot h =
      is_allocated_block g disk other slot (below_alike (bit_address g slot) (bit_address_lt g f slot h))

  pub bit_store_alike :
      (slot : ℕ) (is_set : Bool) → slot < g.slots →
      StoreSame g (bit_store g disk slot is_set) (bit_store g other slot is_set)
  unfolding bitmap_with
  bit_store_alike slot is_set h =
      let l = bit_address_lt g f slot h in
      store_alike g (bit_address g slot) (bitmap_with g disk slot is_set) (bitmap_with g other slot is_set)
      (omega arith) (length-bitmap_with g f disk same.whole slot h is_set)
      (rw (below_alike (bit_address g slot) l))

  header_store_alike : (slot : ℕ) → StoreSame g (header_store g disk slot) (header_store g other slot)
  header_store_alike slot =
      let sized = block_at_whole g f disk same.whole 0 (omega arith) in
      store_alike g 0 _ _ (omega arith)
      (length-set_entry 5 (next_slot g slot) (block_at (block_width g) disk 0) (omega (arith, f.size_low))
      ∙ sized)
      (ap (set_entry 5 (next_slot g slot)) (below_alike 0 (omega arith)))

  map_store_alike :
      (number slot : ℕ) → number < g.publics →
      StoreSame g (map_store g disk number slot) (map_store g other number slot)
  map_store_alike number slot h =
      let l = map_address_lt g f number h in
      store_alike g (map_address g number) _ _ (omega arith)
      (length-map_block_with g f disk same.whole number h (slot_start g slot))
      (ap (set_entry (number % fanout g) (slot_start g slot)) (below_alike (map_address g number) (omega arith)))

  public_store_alike :
      (choice : PublicChoice) (slot : ℕ) (content : Bytes) → slot < g.slots → length content ≡ g.block_size →
      StoreSame g (public_store choice g disk slot content) (public_store choice g other slot content)
  unfolding public_store
  public_store_alike keep_public slot content h sized =
      let l = slot_start_lt g slot h in
      store_alike g (slot_start g slot) _ _ l (block_at_whole g f disk same.whole (slot_start g slot) l)
      (block_at_alike g disk other same (slot_start g slot) (is_shown-slot_start g slot h))
  public_store_alike write_public slot content h sized =
      let l = slot_start_lt g slot h in
      store_alike g (slot_start g slot) content content l sized refl

-- ---- a round ----

module _ (g : Geometry) (f : Fits g) (disk other : Bytes) (same : ShowSame g disk other) (number slot : ℕ)
    (content : Bytes) (known : number < g.publics) (inside : slot < g.slots)
    (sized : length content ≡ g.block_size) where
  bit_stores_alike :
      (entry : DiskAddress) → OldPlace g entry →
      TraceSame g (bit_stores g disk entry slot) (bit_stores g other entry slot)
  unfolding bit_stores moved_stores
  bit_stores_alike entry old = by old
    where
      new : StoreSame g (bit_store g disk slot true) (bit_store g other slot true)
      new = bit_store_alike g f disk other same slot true inside

      with_new : Bytes → Bytes
      with_new bytes = apply (block_width g) (bit_store g bytes slot true ∷ []) bytes

      after : ShowSame g (with_new disk) (with_new other)
      after = agree_apply (shown_of g) g.block_size (block_count g) (more new none) same

      chosen : (b : Bool) {xs ys zs ws : Trace} → TraceSame g xs ys → TraceSame g zs ws →
          TraceSame g (cond b xs zs) (cond b ys ws)
      chosen true h k = h
      chosen false h k = k

      by : OldPlace g entry → TraceSame g (bit_stores g disk entry slot) (bit_stores g other entry slot)
      by (inl e) = rw (eq-eqb entry 0 e) (more new none)
      by (inr block) =
          let cleared = bit_store_alike g f _ _ after (slot_of g entry) false block.slot_inside in
          chosen (eqb entry 0) (more new none)
          (chosen (is_shared g slot (slot_of g entry)) (more cleared none) (more new (more cleared none)))

  map_stores_alike :
      (choice : PublicChoice) → OldPlace g (map_entry g disk number) →
      TraceSame g (map_stores choice g disk number slot) (map_stores choice g other number slot)
  unfolding map_stores
  map_stores_alike keep_public old = none
  map_stores_alike write_public old =
      more (map_store_alike g f disk other same number slot known)
      (subst (λ (entry : ℕ). TraceSame g (bit_stores g disk (map_entry g disk number) slot)
      (bit_stores g other entry slot))
      (map_entry_alike g f disk other same number known) (bit_stores_alike (map_entry g disk number) old))

  pub round_trace_alike :
      (choice : PublicChoice) (xs ys : Trace) → OldPlace g (map_entry g disk number) →
      Hides g slot xs → Hides g slot ys →
      TraceSame g (round_trace choice g disk number slot content xs)
      (round_trace choice g other number slot content ys)
  unfolding round_trace
  round_trace_alike choice xs ys old p q =
      more (public_store_alike g f disk other same choice slot content inside sized)
      (along_append (shown_of g) g.block_size (block_count g) (hides_alike g slot inside xs ys p q)
      (along_append (shown_of g) g.block_size (block_count g) (map_stores_alike choice old)
      (more (header_store_alike g f disk other same slot) none)))
