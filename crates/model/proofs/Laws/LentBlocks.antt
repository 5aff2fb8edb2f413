-- Laws of lent blocks: those of one block's length are that block, and a block is whole exactly if it lies
-- inside them. Assumes nothing.
use mathlib.Core.Path.{◌≡◌, sym, ap, ◌∙◌}
use mathlib.Core.Logic.{⊎_elim}
use Prim.Native.Nat.{ℕ, ◌+◌, ◌*◌, ◌-◌, ◌≤◌, min}
use native.Mathlib.Nat.{zero-mul, add-mul}
use native.Mathlib.Omega.{arith}
use lib.ListN.{length, take, length-take, length-drop}
use lib.Seq.{take-length}
use Rattle.laws.specs.Lists.{part}
use Rattle.laws.proofs.Cases.{eq_cases}
use Rattle.laws.proofs.Lists.{part_is, length_part}
use Rattle.model.specs.Blocks.{Bytes, DiskAddress, block_at}
use Rattle.model.proofs.Laws.Blocks.{block_at_is}

pub block_at_alone : (width : ℕ) (blocks : Bytes) → length blocks ≡ width → block_at width blocks 0 ≡ blocks
block_at_alone width blocks whole =
    block_at_is width blocks 0
    ∙ ap (λ (from : ℕ). part from width blocks) (zero-mul width)
    ∙ part_is 0 width blocks
    ∙ ap (λ (size : ℕ). take size blocks) (sym whole)
    ∙ take-length blocks

module _ (width : ℕ) (blocks : Bytes) (place : DiskAddress) where
  pub whole_of_inside : (place + 1) * width ≤ length blocks → length (block_at width blocks place) ≡ width
  whole_of_inside h = rw block_at_is (length_part (place * width) width blocks (omega arith))

  pub inside_of_whole : length (block_at width blocks place) ≡ width → (place + 1) * width ≤ length blocks
  inside_of_whole e =
      let l : min width (length blocks - place * width) ≡ width =
      simp (block_at_is, part_is, length-take, length-drop) at e in
      ⊎_elim (λ z. rw z (omega arith)) (λ ne. omega arith) (eq_cases width 0)

  -- the same, the last block's bytes apart
  pub lent_inside : length (block_at width blocks place) ≡ width → place * width + width ≤ length blocks
  lent_inside e = omega (arith, add-mul place 1 width, inside_of_whole e)
