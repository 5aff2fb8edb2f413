-- Laws of the loop that makes a planned round's stores: what it has made so far, its beginning, a turn and
-- its end. A turn's descriptor takes a block that no store before it changed, so it means the same store on
-- the disk as it is now and as it was. Assumes nothing.
use mathlib.Core.Path.{◌≡◌, refl, sym, ap, subst, ◌∙◌}
use mathlib.Core.Logic.{inl, inr}
use mathlib.Core.List.{List, [], ◌∷◌, ◌++◌}
use Prim.Native.Nat.{ℕ, ◌+◌, ◌≤◌, ◌<◌}
use native.Mathlib.Nat.{suc-mul, mul-le-mul_right}
use native.Mathlib.Numerals.{add-one}
use native.Mathlib.Omega.{arith}
use lib.ListN.{length, get_or, take}
use lib.Seq.{take-suc, length-take-le}
use Rattle.laws.proofs.Members.{All, all_append}
use Rattle.model.specs.Geometry.{Geometry, block_count, block_width}
use Rattle.model.specs.Blocks.{Bytes, DiskAddress}
use Rattle.model.specs.Layout.{level_place}
use Rattle.model.specs.Stores.{Store, Trace, store, addresses}
use Rattle.model.proofs.Laws.Slots.{slot_block_of}
use Rattle.model.proofs.Laws.Stores.{Stored, get_d-addresses}
use Rattle.stores.specs.declared.descriptors.Source.{Source}
use Rattle.stores.specs.declared.descriptors.Source.TheVariants.{Disk, Zeros, Content, Offered, Random}
use Rattle.stores.specs.declared.descriptors.Descriptor.{Descriptor}
use Rattle.stores.specs.Changes.{changed}
use Rattle.stores.specs.Descriptors.{source_block, Takeable, store_of, Makeable}
use Rattle.stores.specs.Described.{store_at, Takes, Describes}
use Rattle.stores.specs.Made.{LentFor, Made}
use Rattle.stores.proofs.Laws.Descriptors.{store_of_stored}
use Rattle.stores.proofs.Laws.Made.{next_after, made_nothing, made_store, made_then, length_made_list}
use Rattle.stores.proofs.Laws.Made.{block_at_made_outside, drive_made}
use Rattle.plans.specs.HiddenPlans.{offered_by, BlockLent}
use Rattle.round_stores.specs.declared.planned.PlannedRound.{PlannedRound}
use Rattle.round_stores.specs.Planned.{planned_trace, Storable}
use Rattle.round_stores.proofs.Laws.Addresses.{takes_apart}

-- so many stores of a trace are made, each whole and inside the drive
pub record SoFar (g : Geometry) (trace : Trace) (disk : Bytes) (list : List DiskAddress) (first : ℕ)
    (diskNow : Bytes) (listNow : List DiskAddress) (place next : ℕ) : Type 0 where
  pub within : place ≤ length trace
  pub made : Made (block_width g) (take place trace) disk list first diskNow listNow next
  pub stored : All (Stored (block_width g) (block_count g)) (take place trace)

pub none_so_far :
    (g : Geometry) (trace : Trace) (disk : Bytes) (list : List DiskAddress) (first : ℕ) →
    first ≤ length list → SoFar g trace disk list first disk list 0 first
none_so_far g trace disk list first room =
    record { within = omega arith; made = made_nothing (block_width g) disk list first room; stored = tt }

-- what holds whenever the loop's test is reached: so many stores are made, and what is lent is as long as it
-- was
pub record Storing (g : Geometry) (trace : Trace) (disk : Bytes) (list : List DiskAddress)
    (first : ℕ) (buffer : Bytes) (diskNow : Bytes) (listNow : List DiskAddress) (bufferNow : Bytes)
    (place next : ℕ) : Type 0 where
  pub so_far : SoFar g trace disk list first diskNow listNow place next
  pub disk_kept : length diskNow ≡ length disk
  pub list_kept : length listNow ≡ length list
  pub buffer_kept : length bufferNow ≡ length buffer

-- ---- a turn ----

module _ {g : Geometry} {round : PlannedRound} {content blocks random : Bytes}
    (storable : Storable g round content blocks random) where
  -- the store at a place of the round, on every disk
  abbrev StoreOf : (place : ℕ) → Descriptor → Type 0
  StoreOf place descriptor =
      Describes g (offered_by round.hidden) place (λ disk content blocks random.
      store_at place (planned_trace round g disk content blocks random)) descriptor

  module _ {place : ℕ} {descriptor : Descriptor} (described : StoreOf place descriptor) where
    takeable : (source : Source) → Takes g (offered_by round.hidden) place descriptor.address.0 source →
        Takeable source g content blocks random
    takeable (Disk address) (inl own) = rw own described.address_inside
    takeable (Disk address) (inr (low, formed)) =
        (slot_block_of g (level_place g place) address.0 formed).address_inside
    takeable Zeros takes = tt
    takeable Content takes = storable.content_whole
    takeable (Offered at) takes = subst (BlockLent g blocks) takes storable.offered_lent
    takeable (Random index) takes =
        omega (
          arith,
          mul-le-mul_right g.block_size takes,
          suc-mul index g.block_size,
          storable.random_enough,
        )

    pub turn_makeable : Makeable descriptor g content blocks random
    turn_makeable =
        record {
          address_inside = described.address_inside;
          takeable = takeable descriptor.source described.takes;
          first_inside = described.first_inside;
          second_inside = described.second_inside;
        }

    module _ {disk buffer diskNow : Bytes} {list listNow : List DiskAddress} {first next : ℕ}
        (lent : LentFor g disk buffer list first (length (planned_trace round g disk content blocks random)))
        (so : SoFar g (planned_trace round g disk content blocks random) disk list first diskNow listNow place
        next) (more : place < length (planned_trace round g disk content blocks random)) where
      abbrev trace : Trace
      trace = planned_trace round g disk content blocks random

      long : length (take place trace) ≡ place
      long = length-take-le place trace so.within

      pub turn_lent : {bufferNow : Bytes} → length bufferNow ≡ length buffer →
          LentFor g diskNow bufferNow listNow next 1
      turn_lent kept =
          record {
            drive = drive_made g so.made lent.drive so.stored;
            whole = kept ∙ lent.whole;
            room =
                omega (
                  arith,
                  next_after so.made,
                  long,
                  length_made_list so.made (omega (arith, long, lent.room)),
                  lent.room,
                );
          }

      own_is : descriptor.address.0 ≡ get_or (addresses trace) place 0
      own_is =
          ap (λ (x : Store). x.address) (described.means disk content blocks random)
          ∙ sym (get_d-addresses trace place)

      -- what is taken is on the disk as it was
      source_kept :
          (source : Source) → Takes g (offered_by round.hidden) place descriptor.address.0 source →
          source_block source g diskNow content blocks random ≡
          source_block source g disk content blocks random
      source_kept (Disk address) takes =
          block_at_made_outside so.made (block_count g) address.0 lent.drive.whole so.stored
          (takes_apart lent.drive storable place address.0 descriptor.address.0 more own_is takes)
      source_kept Zeros takes = refl
      source_kept Content takes = refl
      source_kept (Offered at) takes = refl
      source_kept (Random index) takes = refl

      -- so the store is the one that the round has here
      store_is : store_of descriptor g diskNow content blocks random ≡ store_at place trace
      store_is =
          ap (λ (block : Bytes). store descriptor.address.0
          (changed descriptor.second (changed descriptor.first block)))
          (source_kept descriptor.source described.takes)
          ∙ described.means disk content blocks random

      pub turn_made :
          {after : Bytes} {entered : List DiskAddress} {last : ℕ} →
          Made (block_width g) (store_of descriptor g diskNow content blocks random ∷ []) diskNow listNow next
          after entered last →
          SoFar g trace disk list first after entered (place + 1) last
      turn_made made =
          let here = store_at place trace in
          let grown : take (place + 1) trace ≡ take place trace ++ (here ∷ []) =
          ap (λ (n : ℕ). take n trace) (add-one place) ∙ take-suc trace place (store 0 []) more in
          let Whole = Stored (block_width g) (block_count g) in
          let whole : Whole here =
          subst Whole (described.means disk content blocks random)
          (store_of_stored g disk content blocks random lent.drive descriptor turn_makeable) in
          record {
            within = omega arith;
            made =
                rw grown
                (made_then (take place trace) (here ∷ []) (omega (arith, long, lent.room)) so.made
                (made_store store_is made));
            stored = rw grown (all_append Whole (take place trace) (here ∷ []) so.stored (whole, tt));
          }
