-- Two accepted drives that show the same are alike, and the other way round; of two such drives the simulator
-- keeps the same, and their public reads answer and show the same. Assumes nothing.
use mathlib.Core.Path.{◌≡◌, sym, ap, ◌∙◌}
use mathlib.Core.Logic.{inl, inr, ⊎_elim}
use mathlib.Core.Bool.{cond}
use Prim.Native.Nat.{ℕ, ◌<◌}
use native.Mathlib.Omega.{arith}
use lib.Dec.{eqb}
use lib.ListN.{length}
use borrow.Author.Tests.{eq-eqb}
use Rattle.laws.proofs.Cases.{eq_cases, and_left}
use Rattle.model.specs.Geometry.{Geometry, block_count}
use Rattle.model.specs.Blocks.{Bytes, entry_at}
use Rattle.model.specs.Layout.{Drive, geometry_in, slot_of, map_entry, is_slot_block, is_allocated, is_place}
use Rattle.model.specs.Refusals.{drive_refusal, public_read_refusal}
use Rattle.model.specs.Calls.{public_read}
use Rattle.model.specs.View.{view_from, view_of, Alike}
use Rattle.model.specs.Simulator.{Simulator, simulator_of, simulated_answer}
use Rattle.model.proofs.Laws.Geometry.{geometry_ext}
use Rattle.model.proofs.Laws.Places.{Placed}
use Rattle.model.proofs.Laws.Refusals.{drive_of_refusal}
use Rattle.model.proofs.Laws.Accepted.{accepted_of_read}
use Rattle.model.proofs.Laws.Calls.{entry_shown, public_read_done, public_read_when_refused}
use Rattle.model.proofs.Views.Shown.{ShowSame, block_at_alike, is_shown-slot_block}
use Rattle.model.proofs.Views.View.{entry_at-view_of, view_from_alike, show_same_of-view_from}
use Rattle.model.proofs.Views.Tracking.{tracker_of, simulator_of-view_of}
use Rattle.model.proofs.Views.Answers.{read_lengths, simulated_answer_read}
use Rattle.model.proofs.Views.Sides.{entry_at_alike, map_entry_alike}

-- two accepted drives that show the same
pub record Twins (disk other : Bytes) : Type 0 where
  pub accepted : drive_refusal disk ≡ 0
  pub other_accepted : drive_refusal other ≡ 0
  pub show_same : ShowSame (geometry_in disk) disk other

-- ---- alike ----

pub twins_of_alike : (disk other : Bytes) → Alike disk other → Twins disk other
unfolding view_of
twins_of_alike disk other a =
    record {
      accepted = a.accepted;
      other_accepted = a.other_accepted;
      show_same =
          show_same_of-view_from (geometry_in disk) disk other here.whole (sym a.same_length ∙ here.whole)
          (a.same_view
          ∙ ap (λ (g : Geometry). view_from g other 0 (block_count g)) (geometry_ext other disk same_entry));
    }
  where
    here : Drive (geometry_in disk) disk
    here = drive_of_refusal disk a.accepted

    same_entry : (index : ℕ) → index < 5 → entry_at index other ≡ entry_at index disk
    same_entry index h =
        sym (entry_at-view_of other (drive_of_refusal other a.other_accepted) index (omega arith))
        ∙ ap (entry_at index) (sym a.same_view) ∙ entry_at-view_of disk here index (omega arith)

module _ (disk other : Bytes) (twins : Twins disk other) where
  abbrev g : Geometry
  g = geometry_in disk

  here : Drive (geometry_in disk) disk
  here = drive_of_refusal disk twins.accepted

  pub geometry_in_twins : geometry_in disk ≡ geometry_in other
  geometry_in_twins =
      geometry_ext disk other
      (λ index h. entry_at_alike (geometry_in disk) here.fits disk other twins.show_same index
      (omega arith))

  pub view_of_twins : view_of disk ≡ view_of other
  unfolding view_of
  view_of_twins =
      view_from_alike (geometry_in disk) disk other twins.show_same (block_count (geometry_in disk)) 0
      ∙ ap (λ (g : Geometry). view_from g other 0 (block_count g)) geometry_in_twins

  pub alike_of_twins : Alike disk other
  alike_of_twins =
      record {
        same_length = twins.show_same.whole ∙ sym twins.show_same.other_whole;
        accepted = twins.accepted;
        other_accepted = twins.other_accepted;
        same_view = view_of_twins;
      }

  -- the simulator keeps the same of both
  pub tracker_of_twins : tracker_of disk ≡ tracker_of other
  tracker_of_twins =
      sym (simulator_of-view_of disk here) ∙ ap simulator_of view_of_twins
      ∙ simulator_of-view_of other (drive_of_refusal other twins.other_accepted)

  -- ---- a public read ----

  pub public_read_refusal_twins :
      (number : ℕ) (blank : Bytes) →
      public_read_refusal disk number blank ≡ public_read_refusal other number blank
  public_read_refusal_twins number blank =
      sym (simulated_answer_read disk twins.accepted number blank)
      ∙ ap (λ (sim : Simulator). simulated_answer sim (read_lengths number (length blank))) tracker_of_twins
      ∙ simulated_answer_read other twins.other_accepted number blank

  -- what a read that is not refused shows
  shown_twins :
      (number : ℕ) (blank : Bytes) → public_read_refusal disk number blank ≡ 0 →
      entry_shown (geometry_in disk) disk blank (map_entry (geometry_in disk) disk number) ≡
      entry_shown (geometry_in other) other blank (map_entry (geometry_in other) other number)
  unfolding is_place
  shown_twins number blank e =
      let allowed = accepted_of_read disk number blank e in
      by allowed.in_place
      ∙ ap (entry_shown g other blank)
      (map_entry_alike g here.fits disk other twins.show_same number allowed.number_inside)
      ∙ ap (λ (h : Geometry). entry_shown h other blank (map_entry h other number)) geometry_in_twins
    where
      entry : ℕ
      entry = map_entry g disk number

      by : Placed g disk number → entry_shown g disk blank entry ≡ entry_shown g other blank entry
      by (inl z) = rw (eq-eqb entry 0 z)
      by (inr place) =
          let starts = and_left (is_slot_block g 0 entry) (is_allocated g disk (slot_of g entry)) place in
          ap (cond (eqb entry 0) blank)
          (block_at_alike g disk other twins.show_same entry (is_shown-slot_block g entry starts))

  pub public_read_twins :
      (number : ℕ) (blank : Bytes) → public_read disk number blank ≡ public_read other number blank
  public_read_twins number blank =
      ⊎_elim
      (λ e.
      public_read_done disk number blank e ∙ shown_twins number blank e
      ∙ sym (public_read_done other number blank (sym (public_read_refusal_twins number blank) ∙ e)))
      (λ ne.
      public_read_when_refused disk number blank ne
      ∙ sym (public_read_when_refused other number blank (λ z. ne (public_read_refusal_twins number blank ∙ z))))
      (eq_cases (public_read_refusal disk number blank) 0)
