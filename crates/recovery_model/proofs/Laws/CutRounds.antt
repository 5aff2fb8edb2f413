-- The first stores of a round, its public block and so many after it, for any hidden half that stores the
-- slot's hidden blocks and the root (document 02, K5): they are the first ones of the round's parts. Assumes
-- nothing.
use mathlib.Core.Path.{◌≡◌, refl, ap, ◌∙◌}
use mathlib.Core.List.{[], ◌∷◌, ◌++◌}
use Prim.Native.Nat.{ℕ, suc, ◌-◌}
use lib.ListN.{length, take}
use Rattle.laws.proofs.Joins.{take-append}
use Rattle.laws.proofs.Members.{All, all_take}
use Rattle.model.specs.Geometry.{Geometry, block_count, block_width}
use Rattle.model.specs.Blocks.{Bytes, DiskAddress, block_at}
use Rattle.model.specs.Stores.{Store, Trace, apply, addresses}
use Rattle.model.specs.Table.{PublicChoice}
use Rattle.model.specs.Rounds.{public_store, header_store, map_stores, round_trace}
use Rattle.model.proofs.Laws.Stores.{Stored, last_at, addresses-take, block_at-apply}
use Rattle.model.proofs.Laws.Traces.{addresses-cons, addresses_nil, round_trace_is}
use Rattle.model.proofs.Laws.MapStores.{InFront, map_stores-in_front}
use Rattle.model.proofs.Laws.RoundStores.{HiddenAddress, hides_addresses, public_store_address}
use Rattle.model.proofs.Laws.RoundStores.{Round, old_of_round, round_stored}
use Rattle.model.proofs.Laws.RoundParts.{RoundParts}

-- where the first stores of a trace go
all-addresses-take :
    (P : DiskAddress → Type 0) (count : ℕ) (xs : Trace) → All P (addresses xs) →
    All P (addresses (take count xs))
all-addresses-take P count xs at = rw (addresses-take xs count) (all_take P count (addresses xs) at)

module _ {g : Geometry} {disk : Bytes} {number slot : ℕ} {content : Bytes} {hidden : Trace}
    (round : Round g disk number slot content hidden) (choice : PublicChoice) (count : ℕ) where
  abbrev made_public : Store
  made_public = public_store choice g disk slot content

  abbrev made_hidden : Trace
  made_hidden = take count hidden

  abbrev made_map : Trace
  made_map = take (count - length hidden) (map_stores choice g disk number slot)

  abbrev made_header : Trace
  made_header =
      take (count - length hidden - length (map_stores choice g disk number slot))
      (header_store g disk slot ∷ [])

  take_round :
      take (suc count) (round_trace choice g disk number slot content hidden) ≡
      made_public ∷ (made_hidden ++ (made_map ++ made_header))
  take_round =
      ap (take (suc count)) (round_trace_is g disk slot choice number content hidden)
      ∙ ap (λ (xs : Trace). made_public ∷ xs)
      (take-append count hidden (map_stores choice g disk number slot ++ (header_store g disk slot ∷ []))
      ∙ ap (λ (xs : Trace). made_hidden ++ xs)
      (take-append (count - length hidden) (map_stores choice g disk number slot)
      (header_store g disk slot ∷ [])))

  -- the disk that they leave
  abbrev pub cut_round : Bytes
  cut_round =
      apply (block_width g) (take (suc count) (round_trace choice g disk number slot content hidden)) disk

  pub parts_cut_round : RoundParts g slot disk cut_round made_public made_hidden made_map made_header
  parts_cut_round =
      record {
        in_block = λ address.
            block_at-apply (block_width g) (block_count g) _ disk address round.whole
            (all_take (Stored (block_width g) (block_count g)) (suc count)
            (round_trace choice g disk number slot content hidden) (round_stored round choice))
            ∙ ap (λ (xs : Trace). last_at xs address (block_at (block_width g) disk address)) take_round;
        public_at = public_store_address choice g disk slot content;
        hidden_at =
            all-addresses-take (HiddenAddress g slot) count hidden
            (hides_addresses g slot hidden round.hides);
        map_at =
            all-addresses-take (InFront g) (count - length hidden) (map_stores choice g disk number slot)
            (map_stores-in_front g round.fits disk round.whole slot round.inside number
            round.counted (old_of_round round) choice);
        header_at =
            all-addresses-take (λ (a : ℕ). a ≡ 0)
            (count - length hidden - length (map_stores choice g disk number slot))
            (header_store g disk slot ∷ [])
            (rw (addresses-cons (header_store g disk slot) [], addresses_nil) (refl, tt));
      }
