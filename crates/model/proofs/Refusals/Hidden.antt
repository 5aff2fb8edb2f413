-- Refusals 10 to 12: the chains of a hidden number and of its walk answer their conditions. Assumes nothing.
use mathlib.Core.Path.{◌≡◌, refl}
use mathlib.Core.Bool.{true}
use Prim.Native.Nat.{ℕ}
use Rattle.laws.proofs.Cases.{true_is_not_false}
use Rattle.laws.proofs.Decides.{Decides, decides_eq, decides_le, decides_not}
use Rattle.model.specs.Geometry.{Geometry}
use Rattle.model.specs.Blocks.{Bytes}
use Rattle.model.specs.HiddenTree.{End, found, unmapped, damaged, is_damaged, walk}
use Rattle.model.specs.Refusals.{hidden_checks, walk_checks}
use Rattle.model.specs.Conditions.{hidden_conditions, walk_conditions}
use Rattle.model.proofs.Refusals.Answers.{Judges}

pub judges_hidden :
    (g : Geometry) (number size : ℕ) → Judges (hidden_checks g number size) (hidden_conditions g number size)
unfolding hidden_checks
judges_hidden g number size =
    (refl, decides_le g.hidden number, λ e. (refl, decides_not (decides_eq size g.block_size), λ p. tt))

pub decides_damaged : (end : End) → Decides (is_damaged end) (end ≡ damaged)
decides_damaged end = record { holds = holds end; fails = λ e p. true_is_not_false (rw p) e }
  where
    holds : (end : End) → is_damaged end ≡ true → end ≡ damaged
    holds (found address) e = true_is_not_false e refl
    holds unmapped e = true_is_not_false e refl
    holds damaged e = refl

pub judges_walk :
    (g : Geometry) (disk : Bytes) (number : ℕ) →
    Judges (walk_checks g disk number) (walk_conditions g disk number)
unfolding walk_checks
judges_walk g disk number = (refl, decides_damaged (walk g disk number).end, λ e. tt)
