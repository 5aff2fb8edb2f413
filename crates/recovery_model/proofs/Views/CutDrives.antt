-- One write side by side on two drives that show the same, each cut after equally many stores (document 02,
-- K5): the answers are the same, and so are the addresses stored to, and the drives that they leave show the
-- same, before a recovery and after it. Assumes nothing.
use mathlib.Core.Path.{◌≡◌, sym, ◌∙◌, subst}
use Prim.Native.Nat.{ℕ}
use lib.ListN.{length}
use Rattle.model.specs.Geometry.{Geometry, block_count, block_width}
use Rattle.model.specs.Blocks.{Bytes}
use Rattle.model.specs.Layout.{geometry_in}
use Rattle.model.specs.Stores.{apply}
use Rattle.model.specs.Calls.{Offered, Written, written}
use Rattle.model.specs.View.{shown_of, Alike}
use Rattle.model.specs.Promises.Waiting.{PublicHalf, half_written}
use Rattle.model.proofs.Laws.Calls.{answer_written}
use Rattle.model.proofs.Views.Agreement.{agree_apply, along_take, along_addresses}
use Rattle.model.proofs.Views.Shown.{TraceSame, ShowSame}
use Rattle.model.proofs.Views.Drives.{Twins, twins_of_alike, alike_of_twins, geometry_in_twins}
use Rattle.model.proofs.Views.SideWrites.{write_refusal_twins, written_twins}
use Rattle.recovery_model.specs.Cuts.{cut_trace, cut_disk}
use Rattle.recovery_model.specs.Promises.Recovery.{CutAlike}
use Rattle.recovery_model.proofs.Laws.Cuts.{drive_of-cut_disk}
use Rattle.recovery_model.proofs.Views.RecoveredDrives.{recovery_refusal_twins, recovered_twins}

module _ (disk other : Bytes) (twins : Twins disk other) (number : ℕ) (content random others : Bytes)
    (same-random : length random ≡ length others) (room : ℕ) (offer offerOther : Offered) (bound : ℕ) where
  abbrev g : Geometry
  g = geometry_in disk

  -- the two writes
  abbrev result : Written
  result = written disk number content random room offer

  abbrev result_other : Written
  result_other = written other number content others room offerOther

  traces : TraceSame (geometry_in disk) (cut_trace bound result) (cut_trace bound result_other)
  traces =
      along_take (shown_of g) g.block_size (block_count g) bound
      (written_twins disk other twins number content random others same-random room offer offerOther)

  -- the drives that they leave
  cut_twins : Twins (cut_disk bound result disk) (cut_disk bound result_other other)
  cut_twins =
      let here = drive_of-cut_disk disk twins.accepted number content random room offer bound in
      let there = drive_of-cut_disk other twins.other_accepted number content others room offerOther bound in
      record {
        accepted = here.accepted;
        other_accepted = there.accepted;
        show_same =
            subst (λ (h : Geometry). ShowSame h (cut_disk bound result disk) (cut_disk bound result_other other))
            (sym here.geometry)
            (subst (λ (h : Geometry). ShowSame g (cut_disk bound result disk)
            (apply (block_width h) (cut_trace bound result_other) other))
            (geometry_in_twins disk other twins)
            (agree_apply (shown_of g) g.block_size (block_count g) traces twins.show_same));
      }

  written-cut_alike : CutAlike disk other result result_other bound
  written-cut_alike =
      record {
        same_answer =
            answer_written disk number content random room offer
            ∙ write_refusal_twins disk other twins number content random others same-random room
            ∙ sym (answer_written other number content others room offerOther);
        same_stores = along_addresses (shown_of g) g.block_size (block_count g) traces;
        alike_cut = alike_of_twins _ _ cut_twins;
        same_refusal = recovery_refusal_twins _ _ cut_twins;
        alike_recovered = alike_of_twins _ _ (recovered_twins _ _ cut_twins);
      }

pub cut_alike :
    (disk other : Bytes) (half otherHalf : PublicHalf) (offer otherOffer : Offered) (bound : ℕ) →
    Alike disk other → half.number ≡ otherHalf.number → half.content ≡ otherHalf.content →
    length half.random ≡ length otherHalf.random → half.room ≡ otherHalf.room →
    CutAlike disk other (half_written half disk offer) (half_written otherHalf other otherOffer) bound
cut_alike disk other half otherHalf offer otherOffer bound alike number content random room =
    rw (← number, ← content, ← room)
    (written-cut_alike disk other (twins_of_alike disk other alike) half.number half.content
    half.random otherHalf.random random half.room offer otherOffer bound)
