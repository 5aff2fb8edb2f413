-- A write on an accepted drive and the simulator that tracks it: its rounds, its stores, and what it keeps of
-- the drive that the write leaves. Assumes nothing.
use mathlib.Core.Path.{◌≡◌, refl, sym, ap, ap₂, ◌∙◌}
use mathlib.Core.Logic.{◌≢◌, ⊎_elim}
use mathlib.Core.Bool.{true, false, cond}
use mathlib.Core.List.{◌++◌}
use Prim.Native.Nat.{ℕ, suc, ◌-◌, ◌<◌}
use native.Mathlib.Omega.{arith}
use lib.Dec.{eqb}
use lib.ListN.{set}
use Rattle.model.specs.Geometry.{Geometry}
use Rattle.model.specs.Blocks.{Bytes}
use Rattle.model.specs.Layout.{geometry_in, head_in, slot_start, slot_of, next_slot, round_slot, map_entry}
use Rattle.model.specs.Refusals.{drive_refusal, round_count}
use Rattle.model.specs.Simulator.{entry_for, simulated_rounds, slot_of_round, kept_rounds, last_round}
use Rattle.model.specs.Simulator.{simulated_stores, simulated_write}
use Rattle.model.proofs.Laws.Slots.{slot_after, slot_after_round}
use Rattle.model.proofs.Laws.Places.{Placed, old_of_placed}
use Rattle.model.proofs.Laws.Refusals.{Accepted, accepted_of_refusal}
use Rattle.model.proofs.Laws.Wrote.{Wrote, geometry_in_wrote, is_allocated_wrote_new}
use Rattle.model.proofs.Laws.Wrote.{is_allocated_wrote_old, is_allocated_wrote_other}
use Rattle.model.proofs.Views.Tracking.{tracked, tracker_of, simulator_ext, get_d_entries}
use Rattle.model.proofs.Views.Answers.{simulated_rounds_is}
use Rattle.model.proofs.Views.Updates.{entries_from_after, allocated_from_after}

-- a write of so many kept rounds and a last one
module _ (disk : Bytes) (accepted : drive_refusal disk ≡ 0) (number : ℕ)
    (known : number < (geometry_in disk).publics) (earlier : ℕ)
    (rounds : round_count (geometry_in disk) disk ≡ suc earlier) where
  abbrev g : Geometry
  g = geometry_in disk

  abbrev last : ℕ
  last = slot_after (geometry_in disk) (head_in disk) earlier

  sound : Accepted disk
  sound = accepted_of_refusal disk accepted

  -- ---- rounds and stores ----

  pub simulated_rounds_suc : simulated_rounds (tracker_of disk) ≡ suc earlier
  simulated_rounds_suc =
      simulated_rounds_is g sound.sized.fits (head_in disk) disk sound.head_inside ∙ rounds

  slot_of_round_last : slot_of_round (tracker_of disk) (simulated_rounds (tracker_of disk)) ≡ last
  slot_of_round_last =
      ap (round_slot g (head_in disk)) simulated_rounds_suc
      ∙ slot_after_round g (head_in disk) earlier

  pub simulated_stores_is :
      simulated_stores (tracker_of disk) number ≡
      kept_rounds earlier g (head_in disk) ++ last_round g number (map_entry g disk number) last
  unfolding simulated_stores
  simulated_stores_is =
      let e : suc earlier - 1 ≡ earlier = omega arith in
      ap₂ (λ (n slot : ℕ). kept_rounds n g (head_in disk) ++ last_round g number
      (entry_for (tracker_of disk) number) slot)
      (ap (λ (n : ℕ). n - 1) simulated_rounds_suc ∙ e) slot_of_round_last
      ∙ ap (λ (n : ℕ). kept_rounds earlier g (head_in disk) ++ last_round g number n last)
      (get_d_entries g disk number known)

  -- ---- the drive that the write leaves ----

  module _ {content : Bytes} (final : Bytes)
      (wrote : Wrote (geometry_in disk) number content
      (slot_after (geometry_in disk) (head_in disk) earlier) disk final) where
    pub tracker_of_final :
        Placed (geometry_in disk) disk number → tracker_of final ≡ simulated_write (tracker_of disk) number
    tracker_of_final place =
        let entries = (tracker_of disk).entries in
        let marks = (tracker_of disk).allocated in
        ap (λ (h : Geometry). tracked h (head_in final) final) (geometry_in_wrote disk accepted final wrote)
        ∙ simulator_ext refl (wrote.head ∙ ap (next_slot g) (sym slot_of_round_last))
        (entries_from_after g disk final number (slot_start g last) known wrote.map_same wrote.map_other
        ∙ ap (λ (slot : ℕ). set entries number (slot_start g slot)) (sym slot_of_round_last))
        (allocated_from_after g disk final (map_entry g disk number) last wrote.inside old_inside
        (is_allocated_wrote_new sound.sized.fits wrote) (is_allocated_wrote_old sound.sized.fits wrote)
        (is_allocated_wrote_other sound.sized.fits wrote)
        ∙ ap₂ (λ (entry slot : ℕ). set
        (cond (eqb entry 0) marks (set marks (slot_of g entry) false)) slot true)
        (sym (get_d_entries g disk number known)) (sym slot_of_round_last))
      where
        old_inside : map_entry g disk number ≢ 0 → slot_of g (map_entry g disk number) < g.slots
        old_inside ne =
            ⊎_elim (λ e. absurd (ne e)) (λ block. block.slot_inside) (old_of_placed g disk number place)
