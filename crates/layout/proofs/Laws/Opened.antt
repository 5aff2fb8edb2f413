-- Laws of an opened disk: what each arm of a match on it knows, and that its header is there. Assumes
-- nothing.
use mathlib.Core.Path.{◌≡◌, sym, subst}
use Prim.Native.Nat.{ℕ, ◌<◌}
use Rattle.std.specs.Prelude.{Result, Ok, Err}
use Rattle.model.specs.Geometry as model
use Rattle.model.specs.Blocks.{Bytes}
use Rattle.model.specs.Layout.{head_in}
use Rattle.model.specs.Refusals.{drive_refusal}
use Rattle.model.proofs.Laws.Refusals.{accepted_of_refusal}
use Rattle.layout.specs.declared.geometry.Geometry.{Geometry}
use Rattle.layout.specs.declared.refusals.Refusal.{Refusal}
use Rattle.layout.specs.Geometries.{geometry_of}
use Rattle.layout.specs.Refusals.{refusal_number}
use Rattle.layout.specs.Drives.{RefusedBy, OpenedWith, OpenedAs}

-- ---- the two arms ----

module _ (refusal : ℕ) (disk : Bytes) (opened : Result Geometry Refusal)
    (told : OpenedAs refusal disk opened) where
  pub opened_refused : {fault : Refusal} → opened ≡ Err fault → RefusedBy refusal (refusal_number fault)
  opened_refused e = subst (OpenedAs refusal disk) e told

  pub opened_good : {g : Geometry} → opened ≡ Ok g → OpenedWith refusal disk (geometry_of g)
  opened_good e = subst (OpenedAs refusal disk) e told

-- ---- a drive that is opened ----

module _ {disk : Bytes} {g : model.Geometry} (opened : OpenedWith (drive_refusal disk) disk g) where
  -- the head is one of its slots
  pub opened_head : head_in disk < g.slots
  opened_head =
      subst (λ (h : model.Geometry). head_in disk < h.slots) (sym opened.same)
      (accepted_of_refusal disk opened.accepted).head_inside
