-- How long an offer waits: the ways to the answer. Assumes nothing.
use mathlib.Core.Path.{◌≡◌, refl, sym, ap, ◌∙◌}
use mathlib.Core.Logic.{◌≢◌}
use Prim.Native.Nat.{ℕ, zero, suc}
use borrow.Author.Tests.{eq-eqb, ne_eqb}
use Rattle.std.specs.Prelude.{unwrap_or}
use Rattle.laws.proofs.Cases.{cond_true, cond_false}
use Rattle.model.specs.Geometry.{Geometry}
use Rattle.model.specs.Blocks.{Bytes}
use Rattle.model.specs.Layout.{geometry_in}
use Rattle.model.specs.Refusals.{drive_refusal}
use Rattle.model.specs.Waits.{wait_rounds}
use Rattle.checks.specs.Counts.{found_round}
use Rattle.questions.specs.Waits.{refused_wait, told_wait, wait_in}

-- none is 0 rounds
pub unwrap_or-found_round : (rounds : ℕ) → unwrap_or (found_round rounds) 0 ≡ rounds
unwrap_or-found_round zero = refl
unwrap_or-found_round (suc rounds) = refl

module _ (disk : Bytes) where
  pub wait_in_refused :
      (answer : ℕ) → answer ≡ drive_refusal disk → answer ≢ 0 → refused_wait answer ≡ wait_in disk
  unfolding wait_in
  wait_in_refused answer e f =
      ap refused_wait e ∙ sym (cond_false _ _ (ne_eqb (drive_refusal disk) 0 (λ z. f (e ∙ z))))

  pub wait_in-told :
      drive_refusal disk ≡ 0 → (g : Geometry) → g ≡ geometry_in disk → (rounds : ℕ) →
      rounds ≡ wait_rounds g disk → told_wait rounds ≡ wait_in disk
  unfolding wait_in
  wait_in-told accepted g same rounds counted =
      ap told_wait (counted ∙ ap (λ (h : Geometry). wait_rounds h disk) same)
      ∙ sym (cond_true _ _ (eq-eqb (drive_refusal disk) 0 accepted))
