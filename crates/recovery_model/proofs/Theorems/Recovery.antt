-- Pulled plugs, proved (document 02, K5): a recovery, every cut of every write, and what an inspector sees of
-- them. Assumes nothing.
use mathlib.Core.Path.{refl}
use Prim.Native.Nat.{ℕ}
use Rattle.model.specs.Geometry.{Geometry}
use Rattle.model.specs.Blocks.{Bytes}
use Rattle.model.specs.Layout.{geometry_in}
use Rattle.model.specs.Calls.{Offered, in_line}
use Rattle.model.specs.Promises.Waiting.{PublicHalf}
use Rattle.recovery_model.specs.Promises.Recovery.{Recoverable, Recovers, Recovery}
use Rattle.recovery_model.proofs.Laws.Cuts.{cut_all}
use Rattle.recovery_model.proofs.Laws.Recovery.{recovered_refused, rebuilt_recovered, recovered_again}
use Rattle.recovery_model.proofs.Refusals.Map.{answers_recovery}
use Rattle.recovery_model.proofs.Volumes.Leaves.{cut_leaves}
use Rattle.recovery_model.proofs.Volumes.Recoverable.{recoverable_of_sound}
use Rattle.recovery_model.proofs.Volumes.Recovers.{recovers_of_leaves}
use Rattle.recovery_model.proofs.Volumes.LineCuts.{line_read-recovered}
use Rattle.recovery_model.proofs.Views.CutDrives.{cut_alike}
use Rattle.recovery_model.proofs.Theorems.RecoveryFigures.{recovery_figures}

-- every cut of every write
cut_recovers :
    (g : Geometry) (disk : Bytes) (half : PublicHalf) (offer : Offered) (bound : ℕ) → Recoverable g disk →
    Recovers g disk half offer bound
cut_recovers g disk half offer bound whole =
    recovers_of_leaves g disk half offer bound whole (cut_leaves g disk half offer bound whole)

pub recovery : Recovery
recovery =
    record {
      figures = recovery_figures;
      exact = answers_recovery;
      refused = recovered_refused;
      rebuilt = λ disk good. rebuilt_recovered (geometry_in disk) disk refl good;
      again = λ disk torn good same.
          recovered_again (geometry_in disk) disk torn refl good same;
      uncut = cut_all;
      sound_recoverable = recoverable_of_sound;
      recovers = cut_recovers;
      line_same = λ g disk half blocks line bound asked blank whole low sized.
          line_read-recovered g blocks line asked blank low sized disk half bound whole
          (cut_recovers g disk half (in_line blocks line) bound whole);
      alike = cut_alike;
    }
