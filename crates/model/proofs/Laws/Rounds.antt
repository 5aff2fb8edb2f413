-- Laws of one round, for any hidden half that stores the slot's hidden blocks and the root: it leaves in each
-- block what its four parts do, and in the header the five numbers of the geometry and the next slot as its
-- head. Assumes nothing.
use mathlib.Core.Path.{◌≡◌, refl, sym, ap, ◌∙◌}
use mathlib.Core.List.{[], ◌∷◌}
use Prim.Native.Nat.{ℕ, ◌<◌}
use native.Mathlib.Omega.{arith}
use Rattle.model.specs.Geometry.{Geometry, block_count, block_width}
use Rattle.model.specs.Blocks.{Bytes, block_at, entry_at, set_entry}
use Rattle.model.specs.Layout.{head_in, next_slot}
use Rattle.model.specs.Stores.{Trace, addresses}
use Rattle.model.specs.Table.{PublicChoice}
use Rattle.model.specs.Rounds.{public_store, header_store, map_stores, round_trace}
use Rattle.model.proofs.Laws.Entries.{entry_at-set_entry_same, entry_at-set_entry_other, entry_at_header}
use Rattle.model.proofs.Laws.Slots.{next_slot_lt}
use Rattle.model.proofs.Laws.Stores.{last_at_nil, last_at_same, block_at-apply}
use Rattle.model.proofs.Laws.MapStores.{map_stores-in_front}
use Rattle.model.proofs.Laws.RoundStores.{hides_addresses, public_store_address, after_round}
use Rattle.model.proofs.Laws.RoundStores.{header_fits, round_stored, Round, old_of_round}
use Rattle.model.proofs.Laws.RoundParts.{RoundParts, last_at_parts}

module _ {g : Geometry} {disk : Bytes} {number slot : ℕ} {content : Bytes} {hidden : Trace}
    (round : Round g disk number slot content hidden) (choice : PublicChoice) where
  -- the disk after the round
  abbrev after : Bytes
  after = after_round choice g disk number slot content hidden

  pub parts_round :
      RoundParts g slot disk after (public_store choice g disk slot content) hidden
      (map_stores choice g disk number slot) (header_store g disk slot ∷ [])
  unfolding round_trace addresses
  parts_round =
      record {
        in_block = λ address.
            block_at-apply (block_width g) (block_count g)
            (round_trace choice g disk number slot content hidden) disk address round.whole
            (round_stored round choice);
        public_at = public_store_address choice g disk slot content;
        hidden_at = hides_addresses g slot hidden round.hides;
        map_at =
            map_stores-in_front g round.fits disk round.whole slot round.inside number
            round.counted (old_of_round round) choice;
        header_at = (refl, tt);
      }

  -- ---- header ----

  block_at_round_header :
      block_at (block_width g) after 0 ≡ set_entry 5 (next_slot g slot) (block_at (block_width g) disk 0)
  block_at_round_header =
      parts_round.in_block 0
      ∙ last_at_parts (public_store choice g disk slot content) hidden (map_stores choice g disk number slot)
      (header_store g disk slot ∷ []) 0 _
      ∙ last_at_same (header_store g disk slot) [] 0 _ refl ∙ last_at_nil 0 _

  -- the five numbers of the geometry stay
  pub entry_at_round : (i : ℕ) → i < 5 → entry_at i after ≡ entry_at i disk
  entry_at_round i h =
      entry_at_header g.block_size after i (omega (arith, round.fits.size_low))
      ∙ ap (entry_at i) block_at_round_header
      ∙ entry_at-set_entry_other 5 (next_slot g slot) (block_at (block_width g) disk 0)
      (header_fits g round.fits disk round.whole) i (omega arith)
      ∙ sym (entry_at_header g.block_size disk i (omega (arith, round.fits.size_low)))

  pub head_in_round : head_in after ≡ next_slot g slot
  head_in_round =
      entry_at_header g.block_size after 5 (omega (arith, round.fits.size_low))
      ∙ ap (entry_at 5) block_at_round_header
      ∙ entry_at-set_entry_same 5 (next_slot g slot) (block_at (block_width g) disk 0)
      (header_fits g round.fits disk round.whole)
      (omega (arith, next_slot_lt g slot round.fits, round.fits.blocks_high))
