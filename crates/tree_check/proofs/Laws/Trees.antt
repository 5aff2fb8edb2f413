-- Laws of the call: a refused drive answers, and any other leaves the answer to the root's entries. Assumes
-- nothing.
use mathlib.Core.Path.{◌≡◌, sym, ap, ◌∙◌}
use mathlib.Core.Logic.{◌≢◌}
use Prim.Native.Nat.{ℕ, suc, ◌-◌}
use native.Mathlib.Omega.{arith}
use Rattle.model.specs.Geometry.{Geometry, root_address, block_width}
use Rattle.model.specs.Blocks.{Bytes, DiskAddress, block_at}
use Rattle.model.specs.Layout.{Drive, geometry_in}
use Rattle.model.specs.Refusals.{drive_refusal}
use Rattle.model.specs.TreeCheck.{met_below, met_entries, first_fault, tree_refusal}
use Rattle.model.proofs.Laws.TreeCheck.{tree_refusal_drive, tree_refusal_tree}

module _ (disk : Bytes) where
  pub tree_refused : (fault : ℕ) → fault ≡ drive_refusal disk → fault ≢ 0 → fault ≡ tree_refusal disk
  tree_refused fault e ne = e ∙ sym (tree_refusal_drive disk (λ z. ne (e ∙ z)))

  module _ (accepted : drive_refusal disk ≡ 0) (g : Geometry) (e : g ≡ geometry_in disk) (d : Drive g disk)
      (root : DiskAddress) (r : root ≡ root_address g) where
    pub tree_answered : (answer : ℕ) →
        answer ≡
        first_fault g disk (met_below g disk (suc (g.height - 1)) 0 (block_at (block_width g) disk root)) →
        answer ≡ tree_refusal disk
    tree_answered answer a =
        let up : suc (g.height - 1) ≡ g.height = omega (arith, d.fits.height_low) in
        a
        ∙ ap (first_fault g disk)
        (ap (λ (n : ℕ). met_below g disk n 0 (block_at (block_width g) disk root)) up
        ∙ ap (λ (n : ℕ). met_below g disk g.height 0 (block_at (block_width g) disk n)) r)
        ∙ ap (λ (stated : Geometry). first_fault stated disk (met_entries stated disk)) e
        ∙ sym (tree_refusal_tree disk accepted)
