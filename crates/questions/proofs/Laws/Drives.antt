-- Which drive a disk is, and how large a drive is: the ways to each answer. Assumes nothing.
use mathlib.Core.Path.{◌≡◌, sym, ap, ◌∙◌}
use mathlib.Core.Logic.{◌≢◌}
use mathlib.Core.Bool.{true, false}
use Prim.Native.Nat.{ℕ, ◌*◌, ◌<◌, ◌^◌}
use native.Mathlib.Nat.{mul-le-mul, le_of_lt}
use native.Mathlib.Omega.{arith}
use borrow.Author.Tests.{eq-eqb, ne_eqb}
use Rattle.laws.proofs.Cases.{cond_true, cond_false}
use Rattle.model.specs.Geometry.{Geometry, Fits, block_count, drive_size, is_geometry}
use Rattle.model.specs.Blocks.{Bytes}
use Rattle.model.specs.Layout.{geometry_in, head_in}
use Rattle.model.specs.Refusals.{drive_refusal}
use Rattle.questions.specs.Drives.{refused_identity, told_identity, identity_in}
use Rattle.questions.specs.Drives.{Size, refused_size, size_for}

-- ---- which drive a disk is ----

module _ (disk : Bytes) where
  pub identity_in_refused :
      (answer : ℕ) → answer ≡ drive_refusal disk → answer ≢ 0 → refused_identity answer ≡ identity_in disk
  unfolding identity_in
  identity_in_refused answer e f =
      ap refused_identity e ∙ sym (cond_false _ _ (ne_eqb (drive_refusal disk) 0 (λ z. f (e ∙ z))))

  pub identity_in-told :
      drive_refusal disk ≡ 0 → (g : Geometry) → g ≡ geometry_in disk → (head : ℕ) → head ≡ head_in disk →
      told_identity g head ≡ identity_in disk
  unfolding identity_in
  identity_in-told accepted g same head first =
      ap (λ (h : Geometry). told_identity h head) same ∙ ap (told_identity (geometry_in disk)) first
      ∙ sym (cond_true _ _ (eq-eqb (drive_refusal disk) 0 accepted))

-- ---- how large a drive is ----

module _ (g : Geometry) where
  pub size_for_refused : is_geometry g ≡ false → refused_size 1 ≡ size_for g
  unfolding size_for
  size_for_refused e = sym (cond_false _ _ e)

  pub size_for-told :
      is_geometry g ≡ true → (blocks : ℕ) → blocks ≡ block_count g →
      ◌≡◌ {A = Size} (record { answer = 0; blocks = blocks; bytes = blocks * g.block_size }) (size_for g)
  unfolding size_for
  size_for-told e blocks counted =
      ap (λ (n : ℕ). record { answer = 0; blocks = n; bytes = n * g.block_size }) counted
      ∙ sym (cond_true _ _ e)

  -- the bytes of a drive are a machine number
  pub bytes_small : Fits g → drive_size g < 2 ^ 64
  bytes_small f = omega (arith, mul-le-mul (le_of_lt f.blocks_high) f.size_high)
