-- What the first stores of a round leave of map and public blocks (document 02, K5): the map as it was until
-- the map block is stored, and the public block of every slot but the one that takes the data. Assumes
-- nothing.
use mathlib.Core.Path.{◌≡◌, ap, ◌∙◌}
use mathlib.Core.Logic.{◌≢◌, ⊎_elim}
use mathlib.Core.List.{[]}
use Prim.Native.Nat.{ℕ, suc, ◌-◌, ◌≤◌, ◌<◌}
use native.Mathlib.Omega.{arith}
use lib.ListN.{length, take}
use lib.Seq.{take-nil}
use Rattle.laws.proofs.Cases.{eq_cases}
use Rattle.model.specs.Geometry.{Geometry, block_width}
use Rattle.model.specs.Blocks.{Bytes, block_at}
use Rattle.model.specs.Layout.{slot_start, map_address, map_entry}
use Rattle.model.specs.Stores.{Store, Trace}
use Rattle.model.specs.Table.{PublicChoice, keep_public, write_public}
use Rattle.model.specs.Rounds.{map_stores}
use Rattle.model.proofs.Laws.Geometry.{slot_start_lt}
use Rattle.model.proofs.Laws.PublicMap.{map_entry_block, mapped, map_entry_mapped_same, map_entry_mapped_other}
use Rattle.model.proofs.Laws.Stores.{last_at, last_at_nil}
use Rattle.model.proofs.Laws.Traces.{public_store_keep, public_store_write, map_stores_keep}
use Rattle.model.proofs.Laws.MapStores.{map_address-in_front, last_at-take-map_stores-map}
use Rattle.model.proofs.Laws.RoundStores.{Round, old_of_round}
use Rattle.model.proofs.Laws.RoundParts.{block_at_parts_front, block_at_parts_start_same}
use Rattle.model.proofs.Laws.RoundParts.{block_at_parts_start_other}
use Rattle.recovery_model.proofs.Laws.CutRounds.{cut_round, parts_cut_round}

module _ {g : Geometry} {disk : Bytes} {number slot : ℕ} {content : Bytes} {hidden : Trace}
    (round : Round g disk number slot content hidden) where
  -- ---- map ----

  module _ (choice : PublicChoice) (count : ℕ) where
    abbrev cut : Bytes
    cut = cut_round round choice count

    -- no store of it is made
    map_none :
        take (count - length hidden) (map_stores choice g disk number slot) ≡ [] → (other : ℕ) →
        other < g.publics → map_entry g cut other ≡ map_entry g disk other
    map_none none other h =
        map_entry_block g cut disk other
        (block_at_parts_front (parts_cut_round round choice count) (map_address g other)
        (map_address-in_front g round.fits other h)
        ∙ ap (λ (xs : Trace).
        last_at xs (map_address g other) (block_at (block_width g) disk (map_address g other))) none
        ∙ last_at_nil (map_address g other) _)

    -- before the map block it is as it was
    pub map_entry-cut_before :
        count ≤ length hidden → (other : ℕ) → other < g.publics →
        map_entry g cut other ≡ map_entry g disk other
    map_entry-cut_before few =
        let none : count - length hidden ≡ 0 = omega arith in
        map_none (ap (λ (made : ℕ). take made (map_stores choice g disk number slot)) none)

  -- a kept round stores none
  pub map_entry-cut_kept :
      (count other : ℕ) → other < g.publics →
      map_entry g (cut_round round keep_public count) other ≡ map_entry g disk other
  map_entry-cut_kept count =
      map_none keep_public count
      (ap (take (count - length hidden)) (map_stores_keep g disk slot number)
      ∙ take-nil (count - length hidden))

  -- from the map block on it has the new entry
  module _ (count : ℕ) (many : length hidden < count) where
    abbrev entered : Bytes
    entered = mapped g round.fits disk round.whole number round.counted (slot_start g slot)

    map_entry-entered :
        (other : ℕ) → other < g.publics →
        map_entry g (cut_round round write_public count) other ≡ map_entry g entered other
    map_entry-entered other h =
        let more : count - length hidden ≡ suc (count - length hidden - 1) = omega arith in
        map_entry_block g (cut_round round write_public count) entered other
        (block_at_parts_front (parts_cut_round round write_public count) (map_address g other)
        (map_address-in_front g round.fits other h)
        ∙ ap (λ (made : ℕ). last_at (take made (map_stores write_public g disk number slot)) (map_address g other)
        (block_at (block_width g) disk (map_address g other))) more
        ∙ last_at-take-map_stores-map g round.fits disk round.whole slot round.inside number
        round.counted (old_of_round round) (count - length hidden - 1) other h)

    pub map_entry-cut_same : map_entry g (cut_round round write_public count) number ≡ slot_start g slot
    map_entry-cut_same =
        map_entry-entered number round.counted
        ∙ map_entry_mapped_same g round.fits disk round.whole number round.counted (slot_start g slot)
        (omega (arith, slot_start_lt g slot round.inside, round.fits.blocks_high))

    pub map_entry-cut_other :
        (other : ℕ) → other < g.publics → other ≢ number →
        map_entry g (cut_round round write_public count) other ≡ map_entry g disk other
    map_entry-cut_other other h ne =
        map_entry-entered other h
        ∙ map_entry_mapped_other g round.fits disk round.whole number round.counted
        (slot_start g slot) other ne

  -- ---- public blocks ----

  -- a kept round leaves them all
  pub block_at-cut_kept :
      (count other : ℕ) →
      block_at (block_width g) (cut_round round keep_public count) (slot_start g other) ≡
      block_at (block_width g) disk (slot_start g other)
  block_at-cut_kept count other = ⊎_elim
      (λ e.
      rw e
      (block_at_parts_start_same (parts_cut_round round keep_public count)
      ∙ ap (λ (x : Store). x.content) (public_store_keep g disk slot content)))
      (block_at_parts_start_other (parts_cut_round round keep_public count) other) (eq_cases other slot)

  -- a last round has the call's data in the slot
  pub block_at-cut_last :
      (count : ℕ) → block_at (block_width g) (cut_round round write_public count) (slot_start g slot) ≡ content
  block_at-cut_last count =
      block_at_parts_start_same (parts_cut_round round write_public count)
      ∙ ap (λ (x : Store). x.content) (public_store_write g disk slot content)
