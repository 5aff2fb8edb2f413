-- What opening a disk for a call tells: the call's refusal, or the geometry of a drive that is not refused.
-- Assumes nothing.
use Rattle.std.specs.Prelude.{◌≡◌, ◌≢◌, ℕ, Result, Ok, Err}
use Rattle.model.specs.Geometry as model
use Rattle.model.specs.Blocks.{Bytes}
use Rattle.model.specs.Layout.{Drive, geometry_in}
use Rattle.layout.specs.declared.geometry.Geometry.{Geometry}
use Rattle.layout.specs.declared.refusals.Refusal.{Refusal}
use Rattle.layout.specs.Geometries.{geometry_of}
use Rattle.layout.specs.Refusals.{refusal_number}

-- the refusal, which is there
pub record RefusedBy (refusal fault : ℕ) : Type 0 where
  pub fault_is : fault ≡ refusal
  pub fault_some : fault ≢ 0

-- no refusal, and the geometry in the header of a whole drive
pub record OpenedWith (refusal : ℕ) (disk : Bytes) (g : model.Geometry) : Type 0 where
  pub accepted : refusal ≡ 0
  pub same : g ≡ geometry_in disk
  pub drive : Drive g disk

-- a disk opened for a call with this refusal
abbrev pub OpenedAs : (refusal : ℕ) → (disk : Bytes) → Result Geometry Refusal → Type 0
OpenedAs refusal disk (Err fault) = RefusedBy refusal (refusal_number fault)
OpenedAs refusal disk (Ok g) = OpenedWith refusal disk (geometry_of g)
